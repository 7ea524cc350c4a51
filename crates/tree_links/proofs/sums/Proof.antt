-- `tree_links::sums` meets its contract: each turn adds one link more, at its two sites.
use mathlib.Core.Path.{◌≡◌, sym, ◌∙◌}
use mathlib.Core.Logic.{◌≢◌}
use Prim.Native.Nat.{ℕ, ◌+◌, ◌-◌, ◌≤◌, ◌<◌}
use native.Mathlib.Omega.{arith}
use lib.ListN.{length}
use Rattle.model.specs.Limits.{LINKS, SITES, SIZE}
use Rattle.lists.specs.Numbers.{look}
use Rattle.model.specs.Flows.{sum_at}
use Rattle.theory_trees.specs.Trees.{loopless}
use Rattle.tree.specs.Offer.{links}
use Rattle.tree.specs.Links.{length-links, links-one, links-two}
use Rattle.tree_links.specs.Chains.{offer-placed}
use Rattle.tree_links.proofs.Summing.{SummedTo, sums_start, sums_next, room, room_beside}
use Rattle.tree_links.proofs.sums.Statement.{statement}
use Rattle.tree_links.proofs.sums.Tie as tie

abbrev invariant-loop : tie.invariant-loop-j
invariant-loop one two capacity list₀ j₀ j-end list j = (j ≤ length one) × SummedTo one two capacity j list

abbrev decreases-loop : tie.decreases-loop-j
decreases-loop one two capacity list₀ j₀ j-end list j = length one - j

-- the link at hand: two sites of the list, and a capacity within the limit
turn : (c : tie.In-loop-j invariant-loop decreases-loop) → let a = c.before.before.args in let j = c.before.loop-j.j in
    (j < length a.two.now) × (j < length a.capacity.now) × (j < LINKS) × (look a.one.now j ≤ SITES) × (look a.two.now j ≤ SITES)
    × (look a.one.now j ≢ look a.two.now j)
turn c =
    let s = c.before.before in
    let a = s.args in
    let j = c.before.loop-j.j in
    let w = s.requires in
    let p = offer-placed w in
    let l : j < length a.one.now = omega arith in
    let k : j < length a.two.now = omega (arith, p.seconds) in
    let sites = p.sites j l in (
      k,
      omega (arith, w.firsts, w.capacities),
      omega (arith, p.few),
      sites.0,
      sites.1,
      λ e. loopless w.tree j (omega (arith, length-links a.one.now a.two.now (sym p.seconds)))
          (links-one a.one.now a.two.now j l k ∙ e ∙ sym (links-two a.one.now a.two.now j l k)),
    )

-- the capacities up to the link at hand are within the limit
small : (c : tie.In-loop-j invariant-loop decreases-loop) → (i : ℕ) → i ≤ c.before.loop-j.j → look c.before.before.args.capacity.now i ≤ SIZE
small c i h = c.before.before.requires.limited i (omega (arith, (turn c).1))

add-first : tie.Need-overflow_add-list invariant-loop decreases-loop
add-first c = let i = c.before.before.before in let t = turn i in omega (arith, room i.before.loop-j.invariant.1 t.2 (small i) _ t.3)

add-second : tie.Need-overflow_add-list-in-loop-j invariant-loop decreases-loop
add-second c =
    let i = c.before.before.before in
    let a = i.before.before.args in
    let t = turn i in
    let raised = look i.before.loop-j.list (look a.one.now i.before.loop-j.j) + look a.capacity.now i.before.loop-j.j in
    omega (arith, room_beside i.before.loop-j.invariant.1 t.2 (small i) _ _ raised t.4 t.5)

next : tie.Need-loop-j-preserved invariant-loop decreases-loop
next c =
    let i = c.before.before.before in
    let t = turn i in
    (omega arith, sums_next i.before.loop-j.invariant.1 (omega arith) t.0 t.5 t.3 t.4)

at-end : tie.Need-returns invariant-loop decreases-loop
unfolding sum_at
at-end c v h =
    let s = c.before.before in
    let a = s.args in
    let all : c.before.loop-j.j ≡ length (links a.one.now a.two.now) =
    omega (arith, length-links a.one.now a.two.now (sym (offer-placed s.requires).seconds)) in
    rw (← all) (c.before.loop-j.invariant.1.sums v h)

pub sums_spec : {M : Type 1} → statement M
sums_spec =
    tie.close
    (tie.spec
    invariant-loop
    decreases-loop
    (λ c. (omega arith, sums_start _ _ _))
    (λ c. omega (arith, (turn c).2))
    (λ c. omega arith)
    (λ c. omega (arith, (turn c.before).2))
    (λ c. (turn c.before.before).0)
    (λ c. omega (arith, (turn c.before.before).2))
    (λ c. (turn c.before.before.before).1)
    (λ c. omega (arith, turn c.before.before.before))
    (λ c. omega (arith, turn c.before.before.before))
    add-first
    (λ c. omega (arith, turn c.before.before.before))
    (λ c. omega (arith, turn c.before.before.before))
    (λ c. omega (arith, turn c.before.before.before))
    add-second
    (λ c. omega (arith, turn c.before.before.before))
    (λ c. omega (arith, (turn c.before.before.before).2))
    (λ c. omega arith)
    next
    at-end)
