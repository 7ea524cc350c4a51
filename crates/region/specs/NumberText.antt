-- The neighbour's number as it is written on the command line: like a size (01, "The network sheet").
-- 12 where it is badly written, then 3 where it is above the largest size, at line 0: it is no part of a text.
use Rattle.std.specs.Prelude.{cond, List, ℕ, Option, Some, None, Result, Ok, Err}
use Rattle.model.specs.Limits.{SIZE}
use Rattle.text_fields.specs.Fields.{is_number}
use Rattle.text_grammar.specs.Grammar.{size_of}

-- a number that is well written: its value, or the number of a refusal
unfoldable pub within : Option ℕ → Result ℕ ℕ
within (Some n) = Ok n
within None = Err 3

unfoldable pub written : List ℕ → Result ℕ ℕ
written text = cond (is_number text) (within (size_of SIZE text)) (Err 12)
