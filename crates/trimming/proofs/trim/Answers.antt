-- `trim` meets its contract, answer by answer.
use Rattle.std.proofs.Common.{◌≡◌, refl, sym, ap, ◌∙◌, arith, length, take, drop, ◌++◌, ℕ, List}
use Rattle.std.proofs.lemmas.Bool.{le-leb, lt-leb}
use Rattle.std.proofs.lemmas.Result.{err_from_is_err_and}
use Rattle.lists.specs.Numbers.{look}
use Rattle.model.specs.Flows.{ends}
use Rattle.model.specs.Edition.{largest}
use Rattle.model.specs.Trimming.{balanced}
use Rattle.theory_trees.proofs.Greatest.{balanced_has_each_link}
use Rattle.tree.specs.Offer.{Offered, links, offer}
use Rattle.tree.specs.Links.{length-links}
use Rattle.tree.specs.Elimination.{eliminated}
use Rattle.tree.specs.declared.Elimination.{Elimination}
use Rattle.tree.specs.Accepted.{MarkedTree, accepted_is_a_tree_within_the_limits, eliminated_says, eliminated_in_order}
use Rattle.trimming.specs.Outcome.{decide, answer, capacities, after, trimmed}
use Rattle.trimming.proofs.trim.Goals as goal

-- what is said of the offer is what the elimination says
said : (n : ℕ) (a b marks c : List ℕ) (r : Elimination) (o : Offered) → r ≡ eliminated n a b marks c → r.offer ≡ o → offer largest n a b marks c ≡ o
said n a b marks c r o e f = sym (eliminated_says n a b marks c) ∙ sym (ap (λ r. r.offer) e) ∙ f

-- there are as many balanced capacities as given ones
as_long : {n : ℕ} {one two marks c : List ℕ} → MarkedTree largest n one two marks c → length c ≡ length (capacities n one two marks c)
unfolding capacities
as_long {n} {one} {two} {marks} {c} t = omega (
  arith,
  balanced_has_each_link t.within.tree (look (ends (links one two) n marks)) c,
  t.within.capacities,
  t.within.firsts,
  length-links one two (omega (arith, t.within.firsts, t.within.seconds)),
)

-- the terminals are the ends
by_ends : (n : ℕ) (one two marks c l : List ℕ) (terminal : ℕ → ℕ) → terminal ≡ look (ends (links one two) n marks)
    → balanced (links one two) n terminal c ++ drop (length c) l ≡ capacities n one two marks c ++ drop (length c) l
unfolding capacities
by_ends n one two marks c l terminal e = ap (λ (t : ℕ → ℕ). balanced (links one two) n t c ++ drop (length c) l) e

pub returns-in_err-found : goal.returns-in_err-found
unfolding answer decide trimmed after
returns-in_err-found c = let p = err_from_is_err_and c.from_residual.result c.from_residual.ensures.1 in
    let o = said _ _ _ _ _ _ _ c.eliminate-found.ensures c.in_err-found.was in
    rw (o, p.1, p.2) (refl, refl)

pub returns-then-lent-one : goal.returns-then-lent-one
unfolding answer decide trimmed after
returns-then-lent-one c = let o = said _ _ _ _ _ _ _ c.eliminate-found.ensures c.in_ok-found.was in
    rw (o, lt-leb _ _ c.if-lent-one.true) (refl, refl)

-- the accepted offer is a tree within the limits
pub invariant_of-tree : goal.invariant_of-tree
invariant_of-tree c =
    let o = said _ _ _ _ _ _ _ c.eliminate-found.ensures c.in_ok-found.was in
    record { within = accepted_is_a_tree_within_the_limits _ _ _ _ _ _ o }

pub by-chart-requires : goal.by-chart-requires
by-chart-requires c =
    let o = said _ _ _ _ _ _ _ c.eliminate-found.ensures c.in_ok-found.was in
    ap (λ r. take c.args.n r.sites) c.eliminate-found.ensures ∙ eliminated_in_order _ _ _ _ _ o

pub balance-requires : goal.balance-requires
balance-requires c =
    let o = said _ _ _ _ _ _ _ c.eliminate-found.ensures c.in_ok-found.was in
    let w = accepted_is_a_tree_within_the_limits _ _ _ _ _ _ o in
    let ordered = rw c.by-chart.ensures at c.by-chart.result.ordered in
    rw c.by-chart.ensures (w.within, ordered, c.if-lent-one.false)

pub returns : goal.returns
unfolding answer decide trimmed after
returns c =
    let a = c.args in
    let o = said _ _ _ _ _ _ _ c.eliminate-found.ensures c.in_ok-found.was in
    let ended = rw c.by-chart.ensures at c.by-chart.result.ended in
    let made = rw c.by-chart.ensures at c.balance.ensures in
    rw (o, le-leb _ _ c.if-lent-one.false) (
      refl,
      made
          ∙ by_ends a.n a.one.now a.two.now a.marks.now a.capacity.now a.lent.now _ ended
          ∙ ap (λ k. capacities a.n a.one.now a.two.now a.marks.now a.capacity.now ++ drop k a.lent.now) (as_long (accepted_is_a_tree_within_the_limits _ _ _ _ _ _ o)),
    )
