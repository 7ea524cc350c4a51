-- The number that tells a judgement, taken apart, gives its outcome, for every sheet and plan: the text, which is 0 of a verdict and of nothing else;
-- of a refusal the number and the line; of a verdict the total and yes or no. Nothing is lost: numbers are at most 21, a line at fault is one of the sheet or of
-- the plan, and a total is at most PLANLINES times AMOUNT.
use Rattle.std.specs.Prelude.{cond, ◌≡◌, ◌≢◌, ℕ, ◌*◌, ◌≤◌, Ok, Err}
use Rattle.model.specs.Limits.{AMOUNT, BYTES, PLANLINES}
use Rattle.verdicts.specs.Outcome.{Outcome}
use Rattle.packing.specs.Packed.{unpacked_text, unpacked_number, unpacked_line, unpacked_total, unpacked_yes}

-- how large the numbers of an outcome are
abbrev pub Bounded : Outcome → Type 0
Bounded (Ok v) = v.total ≤ PLANLINES * AMOUNT
Bounded (Err r) = (1 ≤ r.text) × (r.text ≤ 2) × (r.number ≤ 21) × (r.line ≤ BYTES)

-- a value tells an outcome: a verdict's text is 0, a refusal's is not
abbrev pub TellsVerdict : ℕ → Outcome → Type 0
TellsVerdict value (Ok v) = (unpacked_text value ≡ 0) × (unpacked_total value ≡ v.total) × (unpacked_yes value ≡ cond v.largest 1 0)
TellsVerdict value (Err r) = (unpacked_text value ≢ 0) × (unpacked_text value ≡ r.text) × (unpacked_number value ≡ r.number)
    × (unpacked_line value ≡ r.line)
