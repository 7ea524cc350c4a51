-- When a line of a plan drawn by hand is a fault, each number just for its cause: 2 no `P`, 10 wrong number of fields, 11 bad name, 17 name of digits alone,
-- 12 badly written number, in this order, as in a log; then 3, an amount of 0 or above the limit. Document 02, Card 12.
use Rattle.std.specs.Prelude.{List, ◌⊎◌, ◌≢◌, ◌≡◌, ℕ, ◌≤◌, ◌<◌, Result, Ok, Err}
use Rattle.std.proofs.Math.Bool.{true}
use Rattle.model.specs.Limits.{AMOUNT}
use Rattle.model.specs.Text.{bytes}
use Rattle.text_fields.specs.Fields.{fields, field, value}
use Rattle.text_grammar.specs.declared.Form.{Form}
use Rattle.text_grammar.specs.Grammar.{WrongCount, BadName, BareName, BadNumber}
use Rattle.log_lines.specs.LogLines.{amount_form, plan_letter}
use Rattle.log_lines.specs.BookingLaws.{IsFormed, Asks, asking}
use Rattle.log_lines.specs.declared.Booking.{Booking}

-- ---- the causes

-- the form of a line of a plan: `P`, tab, name, tab, name, tab, amount
abbrev pub plan_form : Form
plan_form = amount_form plan_letter

-- the line is formed, and its amount is 0 or above the limit
pub record WrongAmount (l : List ℕ) : Type 0 where
  pub formed : IsFormed plan_letter (fields l)
  pub amount : (value (field (fields l) 3) < 1) ⊎ (AMOUNT < value (field (fields l) 3))

-- why a line of a plan by itself is at fault, with its number; what the rules are, `Grammar` tells
pub data PlanFault (l : List ℕ) : ℕ → Type 0 where
  no_letter : field (fields l) 0 ≢ bytes "P" → PlanFault l 2
  wrong_count : WrongCount plan_form (fields l) → PlanFault l 10
  bad_name : BadName plan_form (fields l) → PlanFault l 11
  bare_name : BareName plan_form (fields l) → PlanFault l 17
  bad_number : BadNumber plan_form (fields l) → PlanFault l 12
  wrong_amount : WrongAmount l → PlanFault l 3

module _ (l : List ℕ) where
  -- ---- a line tells what it is: a fault its cause, and any other what it asks for

  abbrev pub Tells : Result Booking ℕ → Type 0
  Tells (Ok b) = Asks plan_letter l × (Ok b ≡ asking true l)
  Tells (Err n) = PlanFault l n

-- ---- of a plan or of a log

-- an amount that is asked for is from 1 to the limit
abbrev pub AmountTold : Result Booking ℕ → Type 0
AmountTold (Ok b) = (1 ≤ b.amount) × (b.amount ≤ AMOUNT)
AmountTold (Err n) = Unit {0}
