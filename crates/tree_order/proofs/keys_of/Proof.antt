-- `elimination::keys_of` meets its contract: the sums over the links passed.
use mathlib.Core.Path.{◌≡◌, refl, sym, ap, ◌∙◌}
use mathlib.Core.List.{List}
use Prim.Native.Nat.{ℕ, ◌+◌, ◌*◌, ◌-◌, ◌≤◌, ◌<◌}
use native.Mathlib.Omega.{arith}
use native.Mathlib.Nat.{mul-le-mul_right}
use lib.Seq.{get_or-set_same, get_or-set_other}
use lib.ListN.{length, set, replicate, length-set, length-replicate}
use Rattle.model.specs.Limits.{LINKS, PLACES}
use Rattle.lists.specs.Numbers.{pick, is, look, sum}
use Rattle.model.specs.Flows.{at, sum_at}
use Rattle.lists.specs.Sums.{is_same, is-other, same?}
use Rattle.lists.specs.Places.{look-zeros}
use Rattle.theory_trees.specs.Trees.{at-le}
use Rattle.tree_order.specs.Links.{links, links-at-site, length-links, sum-next}
use Rattle.tree_order.specs.Steps.{share}
use Rattle.tree_order.proofs.keys_of.Statement.{statement}
use Rattle.tree_order.proofs.keys_of.Tie as tie

abbrev invariant-loop : tie.invariant-loop-j
invariant-loop one two root keys₀ j₀ j-end keys j =
    (j ≤ length one) × (length keys ≡ PLACES)
    × ((x : ℕ) → (look keys x ≤ j * (65536 + LINKS) + 131072) × (look keys x ≡ sum j (λ i. at (links one two) x i * share i) + is root x * 131072))

abbrev decreases-loop : tie.decreases-loop-j
decreases-loop one two root keys₀ j₀ j-end keys j = length one - j

-- at first there is only what the root has more
only-root : (m root x : ℕ) → root < m → let l : List ℕ = set (replicate m 0) root 131072 in (look l x ≤ 0 * (65536 + LINKS) + 131072)
    × (look l x ≡ 0 + is root x * 131072)
only-root m root x h = same? root x
    (λ e. let k = get_or-set_same {A = ℕ} (replicate m 0) root 131072 0 (omega (arith, length-replicate {A = ℕ} m 0)) in rw (is_same e, ← e)
    (omega (arith, k), omega (arith, k)))
    (λ d. let k = get_or-set_other {A = ℕ} (replicate m 0) root x 131072 0 (λ z. d (sym z))
    ∙ look-zeros m x in rw (is-other d) (omega (arith, k), omega (arith, k)))

start : tie.Need-loop-j-init invariant-loop decreases-loop
unfolding sum
start c =
    let root = c.before.before.args.root in
    (omega arith, length-set (replicate PLACES 0) root _ ∙ length-replicate {A = ℕ} PLACES 0, λ x. only-root PLACES root x (omega arith))

add : tie.Need-add_at-requires invariant-loop decreases-loop
add c κs =
    let top = c.before.before.before.before in
    let p = top.before.before.before.requires.0 in
    let e = p.links top.loop-j.j (omega arith) in
    (top.loop-j.invariant.1, omega arith, omega arith, e.2, omega arith, λ x. omega (arith, (top.loop-j.invariant.2 x).0))

next : tie.Need-loop-j-preserved invariant-loop decreases-loop
next c =
    let top = c.before.before.before.before.before in
    let s = top.before.before.before in
    let a = s.args.one.now in
    let b = s.args.two.now in
    let j = top.loop-j.j in
    let added = c.add_at.ensures in
    let site : (x : ℕ) → pick (look a j) x 1 (is (look b j) x) ≡ at (links a b) x j = λ x. sym (links-at-site a b x j (omega arith) (omega arith)) in
    let less : share j ≤ (65536 + LINKS) = omega arith in (
      omega arith,
      added.0,
      λ x. (
        omega (arith, added.1 x, (top.loop-j.invariant.2 x).0, ap (λ p. p * share j) (site x), mul-le-mul_right (share j) (at-le (links a b) x j)),
        omega (arith, added.1 x, (top.loop-j.invariant.2 x).1, ap (λ p. p * share j) (site x), sum-next (λ i. at (links a b) x i * share i) j refl refl),
      ),
    )

at-end : tie.Need-returns invariant-loop decreases-loop
unfolding sum_at
at-end c =
    let s = c.before.before.before.before in
    let all : c.before.loop-j.j ≡ length (links s.args.one.now s.args.two.now) = omega
    (arith, length-links s.args.one.now s.args.two.now (omega arith)) in
    record { places = c.before.loop-j.invariant.1; key = λ x. rw all at (c.before.loop-j.invariant.2 x).1 }

pub keys_of_spec : {M : Type 1} → statement M
keys_of_spec =
    tie.close
    (tie.spec
    invariant-loop
    decreases-loop
    (λ c. omega arith)
    (λ c. omega arith)
    start
    (λ c. omega arith)
    (λ c. omega arith)
    (λ c. omega arith)
    (λ c. omega arith)
    (λ c. omega arith)
    add
    (λ c. omega arith)
    (λ c. omega arith)
    next
    at-end)
