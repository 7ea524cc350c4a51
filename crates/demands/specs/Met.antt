-- What planning tells and what every report says is what is asked: the outcomes by the cases of planning, the report by what it says (`planSays`),
-- the line of a refusal by its fields.
use Rattle.std.specs.Prelude.{◌≡◌, List, map, ℕ}
use Rattle.std.proofs.Common.{◌∙◌}
use Rattle.model.specs.Flows.{sites}
use Rattle.model.specs.declared.Edition.{Edition}
use Rattle.lists.specs.Sums.{contradiction}
use Rattle.lists.specs.Maps.{map-map}
use Rattle.sheet.specs.Sheet.{Network, accepted, read_sheet, edition_of}
use Rattle.sheet.specs.SheetTheorem.{a_sheet_is_refused_for_its_cause}
use Rattle.planner.specs.Figures.{Figures}
use Rattle.demands.specs.Printed.{site_count, is_end, ends_among}
use Rattle.demands.specs.Asked.{WithoutCause}
use Rattle.demands.specs.Lists.{map-own}
use Rattle.demands.specs.Sets.{set_by}

-- ---- demand 1

-- a sheet that is accepted has no cause of a refusal
pub accepted_without_cause : (known : List Edition) (s : List ℕ) (net : Network) → read_sheet known s ≡ accepted net → WithoutCause known s
accepted_without_cause known s net read k l c = contradiction (cc (read, (a_sheet_is_refused_for_its_cause (edition_of known s) s k l).1 c))

-- ---- either report

-- the `X` lines are those of the ends
pub a_set_is_told_for_each_end : (net : Network) (f : Figures) → let ends = ends_among (is_end net) (sites (site_count net)) in
    map (λ x. x.end) (map (set_by f) ends) ≡ ends
a_set_is_told_for_each_end net f = map-map _ _ (ends_among (is_end net) (sites (site_count net))) ∙ map-own (ends_among (is_end net) (sites (site_count net)))
