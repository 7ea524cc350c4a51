-- Document 01's worked report, star 5, 1, 1, a report headed `whole` (02, Card 2) and the line of a refusal, read off their bytes: by computation.
use Rattle.std.specs.Prelude.{◌≡◌, refl, [], ◌∷◌}
use Rattle.model.specs.Text.{bytes}
use Rattle.sheet_kinds.specs.LineKinds.{push, fields, same, value_from}
use Rattle.sheet.specs.Sheet.{capitals, lookup_from}
use Rattle.demands.specs.Printed.{lines_of, records, headed, first_line, number_read, line_read, dash, site_found, site_named, read_records, read_report}
use Rattle.demands.specs.Example.{net, sheet, whole, worked}

what_it_says : read_report sheet net worked ≡ record {
  heading = bytes "plan";
  total = 4;
  pair_count = 2;
  links = (1, 2) ∷ (1, 3) ∷ (1, 4) ∷ [];
  sizes = 5 ∷ 1 ∷ 1 ∷ [];
  shown = 2 ∷ 1 ∷ 1 ∷ [];
  sites = 1 ∷ 2 ∷ 3 ∷ 4 ∷ [];
  owners = 2 ∷ 2 ∷ 3 ∷ 4 ∷ [];
  dashes = 0 ∷ 0 ∷ 0 ∷ 0 ∷ [];
  sets = record { end = 2; size = 2; count = 2 } ∷ record { end = 3; size = 1; count = 1 } ∷ record { end = 4; size = 1; count = 1 } ∷ [];
  pieces = [];
  plan = record { first = 2; second = 3; amount = 2 } ∷ record { first = 2; second = 4; amount = 2 } ∷ [];
}
unfolding read_report read_records records lines_of headed dash site_named site_found capitals lookup_from same push fields value_from
what_it_says = refl

what_the_whole_report_says : read_report sheet net whole ≡ record {
  heading = bytes "whole";
  total = 2;
  pair_count = 1;
  links = (1, 2) ∷ (1, 3) ∷ (1, 4) ∷ [];
  sizes = 1 ∷ 1 ∷ 1 ∷ [];
  shown = 1 ∷ 1 ∷ 0 ∷ [];
  sites = 1 ∷ 2 ∷ 3 ∷ 4 ∷ [];
  owners = 0 ∷ 2 ∷ 3 ∷ 4 ∷ [];
  dashes = 1 ∷ 0 ∷ 0 ∷ 0 ∷ [];
  sets = record { end = 2; size = 1; count = 1 } ∷ record { end = 3; size = 1; count = 1 } ∷ record { end = 4; size = 1; count = 1 } ∷ [];
  pieces = 1 ∷ [];
  plan = record { first = 2; second = 3; amount = 2 } ∷ [];
}
unfolding read_report read_records records lines_of headed dash site_named site_found capitals lookup_from same push fields value_from
what_the_whole_report_says = refl

-- refused with 7 at line 12
what_a_refusal_says : (number_read (bytes "refused\t7\t12\n") ≡ 7) × (line_read (bytes "refused\t7\t12\n") ≡ 12)
unfolding first_line records lines_of push fields value_from
what_a_refusal_says = (refl, refl)
