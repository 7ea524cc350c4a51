-- What a line is that asks for something: formed, with an amount within the limit, its names being its fields 1 and 2. By the places of the fields.
use Rattle.std.specs.Prelude.{Bool, cond, List, ◌≡◌, ℕ, ◌≤◌, leb, Ok, Option, Some, None, Result, Err, ◌≢◌, ◌+◌}
use Rattle.std.proofs.Common.{⊎_elim}
use Rattle.std.proofs.Math.ListN.{length}
use Rattle.model.specs.Limits.{AMOUNT}
use Rattle.text_fields.specs.Fields.{fields, field, value}
use Rattle.text_grammar.specs.Grammar.{checked}
use Rattle.text_grammar.specs.RuleLaws as rule
use Rattle.log_lines.specs.LogLines.{amount_form, asked}
use Rattle.log_lines.specs.declared.Booking.{Booking}

-- the fields have the form with a letter
abbrev pub IsFormed : ℕ → List (List ℕ) → Type 0
IsFormed letter fs = checked (amount_form letter) fs ≡ Ok tt

-- what the rules say of them
pub formed_keeps : (letter : ℕ) (fs : List (List ℕ)) → IsFormed letter fs → rule.Kept (amount_form letter) fs
formed_keeps letter fs e = rule.a_formed_line_keeps_the_rules (amount_form letter) fs e

-- the line asks for an amount within the limit
pub record Asks (letter : ℕ) (l : List ℕ) : Type 0 where
  pub formed : IsFormed letter (fields l)
  pub some : 1 ≤ value (field (fields l) 3)
  pub limited : value (field (fields l) 3) ≤ AMOUNT

-- the line that so asks
abbrev pub asking : Bool → List ℕ → Result Booking ℕ
asking opens l =
    let a = length (field (fields l) 1) in
    let b = length (field (fields l) 2) in
    Ok (asked opens a b (value (field (fields l) 3)))

-- ---- as the code finds it

-- by what the amount is found to be, the names having a and b bytes
abbrev pub booking_of : Bool → ℕ → ℕ → Option ℕ → Result Booking ℕ
booking_of opens a b (Some x) = cond (leb 1 x) (Ok (asked opens a b x)) (Err 3)
booking_of opens a b None = Err 3
