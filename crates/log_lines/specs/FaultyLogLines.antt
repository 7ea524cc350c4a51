-- When a line of a log is a fault, each number just for its cause: 2 neither `+` nor `-`, 10 wrong number of fields, 11 bad name, 17 name of digits alone,
-- 12 badly written number, in this order; then 3, an amount of 0 or above the limit. Document 02, Cards 6 and 9. By the first field: the sign chooses the
-- form.
use Rattle.std.specs.Prelude.{Bool, List, ◌⊎◌, ◌≢◌, ◌≡◌, ℕ, ◌<◌, Result, Ok, Err}
use Rattle.model.specs.Limits.{AMOUNT}
use Rattle.model.specs.Text.{bytes}
use Rattle.text_fields.specs.Fields.{fields, field, value}
use Rattle.text_grammar.specs.declared.Form.{Form}
use Rattle.text_grammar.specs.Grammar.{WrongCount, BadName, BareName, BadNumber}
use Rattle.log_lines.specs.LogLines.{sign, log_form}
use Rattle.log_lines.specs.BookingLaws.{IsFormed, Asks, asking}
use Rattle.log_lines.specs.declared.Booking.{Booking}

-- ---- the causes

-- the first field is neither `+` nor `-`
pub record NoSign (l : List ℕ) : Type 0 where
  pub no_opening : field (fields l) 0 ≢ bytes "+"
  pub no_giving_up : field (fields l) 0 ≢ bytes "-"

-- the sign is that of one of the two forms, and a rule of that form is broken
pub record Broken (Rule : Form → List (List ℕ) → Type 0) (l : List ℕ) : Type 0 where
  pub opens : Bool
  pub rule : Rule (log_form opens) (fields l)

-- the line is formed, and its amount is 0 or above the limit
pub record WrongAmount (l : List ℕ) : Type 0 where
  pub opens : Bool
  pub formed : IsFormed (sign opens) (fields l)
  pub amount : (value (field (fields l) 3) < 1) ⊎ (AMOUNT < value (field (fields l) 3))

-- why a line of a log by itself is at fault, with its number; what the rules are, `Grammar` tells
pub data LineFault (l : List ℕ) : ℕ → Type 0 where
  no_sign : NoSign l → LineFault l 2
  wrong_count : Broken WrongCount l → LineFault l 10
  bad_name : Broken BadName l → LineFault l 11
  bare_name : Broken BareName l → LineFault l 17
  bad_number : Broken BadNumber l → LineFault l 12
  wrong_amount : WrongAmount l → LineFault l 3

module _ (l : List ℕ) where
  -- ---- a line tells what it is: a fault its cause, and any other what it asks for

  abbrev pub Tells : Result Booking ℕ → Type 0
  Tells (Ok b) = Asks (sign b.opens) l × (Ok b ≡ asking b.opens l)
  Tells (Err n) = LineFault l n
