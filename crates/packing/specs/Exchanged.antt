-- The number that tells an exchange, taken apart, gives the outcome's sheet, number, line and counts, for every two sheets and lists.
-- Nothing is lost: a sheet is 0, 1 or 2, numbers are at most 19, a line at fault is one of its sheet, and a region has at most LINKS links.
use Rattle.std.specs.Prelude.{◌≡◌, ℕ, Ok, Err}
use Rattle.model.specs.declared.TextRefusal.{TextRefusal}
use Rattle.exchanges.specs.Outcome.{Outcome}
use Rattle.exchanges.specs.declared.Answers.{Answers}
use Rattle.packing.specs.Packed.{unpacked_text, unpacked_number, unpacked_line, unpacked_length}

-- a value tells an outcome: sheet and number; then the line of a refusal, or the count of the first region and that of the second
pub data TellsExchange (value : ℕ) : Outcome → Type 0 where
  tells_refused : {r : TextRefusal} → unpacked_text value ≡ r.text → unpacked_number value ≡ r.number → unpacked_line value ≡ r.line
      → TellsExchange value (Err r)
  tells-answered : {both : Answers} → unpacked_text value ≡ 0 → unpacked_number value ≡ 0 → unpacked_line value ≡ both.first.count
      → unpacked_length value ≡ both.second.count → TellsExchange value (Ok both)
