-- What the two steps of one region by itself tell, for every sheet, all names, numbers and lent lists: each number for its cause and for no other, and the list
-- after. Document 02, Card 10.
use Rattle.std.specs.Prelude.{List, ◌++◌, ◌≡◌, ℕ, ◌≤◌, length, drop}
use Rattle.lists.specs.Numbers.{look}
use Rattle.model.specs.declared.Edition.{Edition}
use Rattle.sheet.specs.Sheet.{Network}
use Rattle.theory_regions.specs.Regions.{Given, first_size, given}
use Rattle.theory_regions.specs.JoinedTree.{Border}
use Rattle.exchanges.specs.Shared.{region_of}
use Rattle.sides.specs.Outcome.{First, size_of, first_shown, number, line_of, count_of, sum_of, Side, answered}
use Rattle.sides.specs.Causes.{AcceptedSide, FirstCause, Cause}

-- ---- the first step

-- refused with a number and a line: no size is told
pub record FirstRefused (k line : ℕ) (o : First) : Type 0 where
  pub number-told : number o ≡ k
  pub line-told : line_of o ≡ line
  pub size-told : size_of o ≡ 0

-- a size is shown: number 0, line 0
pub record SizeShown (size : ℕ) (o : First) : Type 0 where
  pub number-told : number o ≡ 0
  pub line-told : line_of o ≡ 0
  pub size-told : size_of o ≡ size

-- what the first step comes to: refused for a cause, with its number and line; or the first trimmed size of the link that the names mean is shown
pub data FirstTold (known : List Edition) (s name name' : List ℕ) : Type 0 where
  nothing-shown : {k line : ℕ} → FirstCause known s name name' k line → FirstRefused k line (first_shown known s name name') → FirstTold known s name name'
  size-shown : {net : Network} {p : Border} → AcceptedSide known s net name name' p
      → SizeShown (first_size (region_of net) p.shared) (first_shown known s name name') → FirstTold known s name name'

-- ---- the second step

-- refused with a number and a line: count and sum are 0, and the list keeps its values
pub record IsRefused (k line : ℕ) (l : List ℕ) (o : Side) : Type 0 where
  pub number-told : number o.outcome ≡ k
  pub line-told : line_of o.outcome ≡ line
  pub count-told : count_of o.outcome ≡ 0
  pub sum_told : sum_of o.outcome ≡ 0
  pub list_kept : o.list ≡ l

-- answered with what the region is given: number 0, line 0, the number of links and the sum; the list holds the trimmed sizes, in sheet order, and after them
-- its values from before
pub record IsAnswered (net : Network) (u : Given) (l : List ℕ) (o : Side) : Type 0 where
  pub number-told : number o.outcome ≡ 0
  pub line-told : line_of o.outcome ≡ 0
  pub count-told : count_of o.outcome ≡ length net.links
  pub sum_told : sum_of o.outcome ≡ u.sum
  pub list_filled : o.list ≡ u.sizes ++ drop (length net.links) l

-- what the second step comes to: refused for a cause, with its number and line; or answered, the number being no larger than the link that the names mean
pub data SideTold (known : List Edition) (s name name' : List ℕ) (told : ℕ) (l : List ℕ) : Type 0 where
  for_its_cause : {k line : ℕ} → Cause known s name name' told l k line → IsRefused k line l (answered known s name name' told l)
      → SideTold known s name name' told l
  is-answered : {net : Network} {p : Border} → AcceptedSide known s net name name' p → told ≤ look net.capacities p.shared
      → length net.links ≤ length l → IsAnswered net (given (region_of net) p.shared told) l (answered known s name name' told l)
      → SideTold known s name name' told l
