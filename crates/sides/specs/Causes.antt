-- Why a step of one region by itself is refused: each cause with its number and line, in the order in which they decide; and what one sheet alone can show of
-- the shared link. Document 02, Card 10: all faults of the sheet, then 18 at line 0, then 9 at line 0.
use Rattle.std.specs.Prelude.{List, ◌≢◌, ◌⊎◌, ◌≡◌, ℕ, ◌≤◌, ◌<◌, length}
use Rattle.lists.specs.Numbers.{look}
use Rattle.model.specs.Flows.{leaf, mark}
use Rattle.model.specs.declared.Edition.{Edition}
use Rattle.text_fields.specs.Fields.{capitals}
use Rattle.sheet.specs.Sheet.{Network, accepted, read_sheet, edition_of}
use Rattle.sheet.specs.Causes.{Refusal}
use Rattle.theory_regions.specs.JoinedTree.{Between, Border}
use Rattle.exchanges.specs.Shared.{site_name}

-- the two names are those of the sites x and y, in either order, a-z read as A-Z
abbrev pub NamesOf : List ℕ → Network → List ℕ → List ℕ → ℕ → ℕ → Type 0
NamesOf s net name name' x y = ((site_name s net x ≡ capitals name) × (site_name s net y ≡ capitals name'))
    ⊎ ((site_name s net y ≡ capitals name) × (site_name s net x ≡ capitals name'))

-- what one sheet alone can show of the shared link: the two names are joined by it, one of them, the far one, having a single link and no mark
pub record MayShare (s : List ℕ) (net : Network) (name name' : List ℕ) (p : Border) : Type 0 where
  pub names : NamesOf s net name name' p.near p.far
  pub link : p.shared < length net.links
  pub joins : Between net.links p.shared p.near p.far
  pub single : leaf net.links p.far ≡ 1
  pub plain : mark net.marks p.far ≢ 1

-- a sheet that is refused for no cause of its own, and whose link the two names mean
pub record AcceptedSide (known : List Edition) (s : List ℕ) (net : Network) (name name' : List ℕ) (p : Border) : Type 0 where
  pub read : read_sheet known s ≡ accepted net
  pub share : MayShare s net name name' p

-- why the first step over the sheet s is refused with a number and a line
pub data FirstCause (known : List Edition) (s name name' : List ℕ) : ℕ → ℕ → Type 0 where
  -- a cause of the sheet
  of_the_sheet : {k line : ℕ} → Refusal (edition_of known s) s k line → FirstCause known s name name' k line
  -- 18: no link of the sheet is what the two names mean
  no_such_link : {net : Network} → read_sheet known s ≡ accepted net → ((p : Border) → ¬ (MayShare s net name name' p)) → FirstCause known s name name' 18 0

-- why the second step, with the number that the neighbour told, into the lent list l, is refused with a number and a line
pub data Cause (known : List Edition) (s name name' : List ℕ) (told : ℕ) (l : List ℕ) : ℕ → ℕ → Type 0 where
  -- a cause of the first step
  of_the_first_step : {k line : ℕ} → FirstCause known s name name' k line → Cause known s name name' told l k line
  -- 18: the number passes the link's usable size
  number_too_large : {net : Network} {p : Border} → AcceptedSide known s net name name' p → look net.capacities p.shared < told
      → Cause known s name name' told l 18 0
  -- 9: the list has fewer places than the sheet has links
  list_too_short : {net : Network} {p : Border} → AcceptedSide known s net name name' p → told ≤ look net.capacities p.shared
      → length l < length net.links → Cause known s name name' told l 9 0
