-- Why two sheets are refused as regions: each cause with its sheet, number and line, in the order in which they decide; and what an accepted pair is.
-- Document 02, Card 10: all faults of the first sheet, then of the second, then 18 (sheet 0, line 0), then 9 with the first region whose list is too short.
use Rattle.std.specs.Prelude.{List, ◌≡◌, ℕ, ◌≤◌, ◌<◌, length}
use Rattle.model.specs.declared.Edition.{Edition}
use Rattle.sheet.specs.Sheet.{Network, accepted, read_sheet, edition_of}
use Rattle.sheet.specs.Causes.{Refusal}
use Rattle.theory_regions.specs.JoinedTree.{Border}
use Rattle.exchanges.specs.Shared.{Share}

-- two sheets that are refused for no cause of their own, and their networks
pub record BothRead (known : List Edition) (s : List ℕ) (net : Network) (t : List ℕ) (other : Network) : Type 0 where
  pub first : read_sheet known s ≡ accepted net
  pub second : read_sheet known t ≡ accepted other

-- an accepted pair of sheets: they share one link
pub record AcceptedPair (known : List Edition) (s : List ℕ) (net : Network) (t : List ℕ) (other : Network) (p q : Border) : Type 0 where
  pub read : BothRead known s net t other
  pub share : Share s net t other p q

-- why the exchange between the sheets s and t, into the lent lists l and m, is refused with a sheet, a number and a line
pub data Cause (known : List Edition) (s t l m : List ℕ) : ℕ → ℕ → ℕ → Type 0 where
  -- a cause of the first sheet
  of_the_first : {k line : ℕ} → Refusal (edition_of known s) s k line → Cause known s t l m 1 k line
  -- a cause of the second sheet, the first having none
  of_the_second : {k line : ℕ} (net : Network) → read_sheet known s ≡ accepted net → Refusal (edition_of known t) t k line → Cause known s t l m 2 k line
  -- 18: the sheets do not share one link
  no_shared_link : {net other : Network} → BothRead known s net t other → ((p q : Border) → ¬ (Share s net t other p q)) → Cause known s t l m 0 18 0
  -- 9: the first region's list has fewer places than it has links; or the second's, the first's being long enough
  first_list_too_short : {net other : Network} {p q : Border} → AcceptedPair known s net t other p q → length l < length net.links
      → Cause known s t l m 1 9 0
  second_list_too_short : {net other : Network} {p q : Border} → AcceptedPair known s net t other p q → length net.links ≤ length l
      → length m < length other.links → Cause known s t l m 2 9 0
