-- The lines of a report, read back: the first, and those with each letter, are the fields that the report was written from.
use Rattle.std.specs.Prelude.{◌≡◌, ℕ, ◌-◌}
use Rattle.std.proofs.Common.{◌∙◌}
use Rattle.std.proofs.Math.Path.{ap}
use mathlib.Core.List.{[]}
use Rattle.sheet_kinds.specs.LineKinds.{field, value}
use Rattle.report.specs.Report.{refusal_line}
use Rattle.demands.specs.Printed.{number_read}
use Rattle.demands.specs.Parsing.{decimal_read_back}
use Rattle.demands.specs.Records.{refusal-fields}

-- its number and its line are those that went in
pub refusal-number : (k l : ℕ) → number_read (refusal_line k l) ≡ k
refusal-number k l = ap (λ f. value (field f 1)) (refusal-fields k l) ∙ decimal_read_back k
