-- How large the numbers are that the two steps tell: a number at most 19, a line of the sheet, a size within the limit, a count of links, and a sum in
-- which each link counts at most twice.
use Rattle.std.specs.Prelude.{List, ℕ, ◌+◌, ◌*◌, ◌≤◌, ◌<◌, length}
use Rattle.std.proofs.Common.{arith}
use Rattle.lists.specs.Numbers.{is, look}
use Rattle.lists.specs.Sums.{same?, is_same, is-other, sum-le, sum-mul, sum_one}
use Rattle.model.specs.Limits.{BYTES, LINKS, SIZE}
use Rattle.model.specs.Edition.{editions}
use Rattle.model.specs.Flows.{Links, Tree, one, two, at_terminals}
use Rattle.sheet.proofs.Editions.{an_accepted_sheet_is_within_the_largest}
use Rattle.sheet.specs.Sheet.{Network}
use Rattle.theory_trees.specs.Sites.{by_link}
use Rattle.theory_regions.specs.Regions.{first_size, own_sum, given}
use Rattle.theory_regions.specs.JoinedTree.{Border}
use Rattle.theory_regions.specs.Again.{trimmed_is_greatest}
use Rattle.theory_regions.proofs.Again.{no_size_is_passed}
use Rattle.exchanges.specs.Shared.{region_of}
use Rattle.sides.specs.Outcome.{First, Outcome, size_of, number, line_of, count_of, sum_of}
use Rattle.sides.specs.Causes.{AcceptedSide}
use Rattle.sides.specs.SideLaws.{a_side_is_bordered}

pub record FirstSmall (o : First) : Type 0 where
  pub number_small : number o ≤ 19
  pub line_small : line_of o ≤ BYTES
  pub size_small : size_of o ≤ SIZE

pub record SideSmall (o : Outcome) : Type 0 where
  pub number_small : number o ≤ 19
  pub line_small : line_of o ≤ BYTES
  pub count_small : count_of o ≤ LINKS
  pub sum_small : sum_of o ≤ 2 * (LINKS * SIZE)

-- a sum over ends counts each link at most twice
at_most_once : (e x : ℕ) → is e 1 * x ≤ x
at_most_once e x = same? e 1 (λ z. rw (is_same z) (omega arith)) (λ d. rw (is-other d) (omega arith))

sum-over-ends : {ls : Links} {n : ℕ} → Tree ls n → (end u : ℕ → ℕ) → length ls ≤ LINKS → ((i : ℕ) → i < length ls → u i ≤ SIZE)
    → at_terminals ls n end u ≤ 2 * (LINKS * SIZE)
unfolding at_terminals
sum-over-ends {ls} T end u few small = omega (
  arith,
  by_link T (λ x. is (end x) 1) (λ x. u),
  sum-le (length ls) (λ i. is (end (one ls i)) 1 * u i + is (end (two ls i)) 1 * u i) (λ i. 2 * SIZE * 1)
      (λ i l. omega (arith, at_most_once (end (one ls i)) (u i), at_most_once (end (two ls i)) (u i), small i l)),
  sum-mul (length ls) (2 * SIZE) (λ i. 1),
  sum_one (length ls),
)

module _ {s : List ℕ} {net : Network} {name name' : List ℕ} {p : Border} (A : AcceptedSide editions s net name name' p) where
  sized : (j : ℕ) → j < length net.links → look net.capacities j ≤ SIZE
  sized j h = let N = an_accepted_sheet_is_within_the_largest s net A.read in N.sizes j (omega (arith, N.capacities))

  pub few : length net.links ≤ LINKS
  few = let N = an_accepted_sheet_is_within_the_largest s net A.read in omega (arith, N.tree.links, N.few)

  pub first_small : first_size (region_of net) p.shared ≤ SIZE
  unfolding first_size
  first_small = let B = a_side_is_bordered A in omega (arith, (trimmed_is_greatest B).below p.shared B.here, sized p.shared B.here)

  pub sum_small : (k : ℕ) → (given (region_of net) p.shared k).sum ≤ 2 * (LINKS * SIZE)
  unfolding given own_sum
  sum_small k = let B = a_side_is_bordered A in
      sum-over-ends B.tree _ _ few (λ i l. omega (arith, no_size_is_passed B k i l, sized i l))
