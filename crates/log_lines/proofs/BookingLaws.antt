-- What a line is that asks for something: formed, with an amount within the limit, its names being its fields 1 and 2. By the places of the fields.
use Rattle.std.specs.Prelude.{Bool, false, cond, ◌&&◌, List, [], ◌∷◌, ◌≡◌, refl, ℕ, ◌+◌, ◌-◌, ◌≤◌, ◌<◌, leb, get_or, take, drop, Ok, Some, None, Err}
use Rattle.std.proofs.Math.Bool.{true}
use Rattle.std.proofs.Common.{ap, ◌∙◌}
use native.Mathlib.Omega.{arith}
use Rattle.std.proofs.Math.ListN.{length}
use borrow.Author.Tests.{le-leb}
use Rattle.model.specs.Limits.{AMOUNT}
use Rattle.text_fields.specs.Fields.{same, fields, field, value}
use Rattle.text_grammar.specs.Grammar.{split, fault_of, size_of}
use Rattle.text_grammar.specs.SplitLaws.{end_of_split, field_lies}
use Rattle.text_grammar.specs.FormLaws.{formed_or_faulty}
use Rattle.text_grammar.specs.declared.Fields.{Fields}
use Rattle.sheet_kinds.specs.FormedLines.{second-end, third_end, part_of_field_1, part_of_field_2}
use Rattle.log_lines.specs.LogLines.{sign, log_form, plan_letter, judged, asked, booking, line_as, log_line, plan_line}
use Rattle.log_lines.specs.BookingLaws.{Asks, IsFormed, asking, booking_of, formed_keeps}

-- the letter chooses the form
pub letter_tells : (opens : Bool) (l : List ℕ) → field (fields l) 0 ≡ (log_form opens).letter ∷ [] → log_line l ≡ line_as (sign opens) opens (fields l)
unfolding log_line same
letter_tells true l e = rw e
letter_tells false l e = rw e

module _ (l : List ℕ) where
  -- a line that asks is one
  asks_as : (letter : ℕ) (opens : Bool) → Asks letter l → line_as letter opens (fields l) ≡ asking opens l
  unfolding line_as booking judged fault_of
  asks_as letter opens h = rw (h.formed, le-leb _ _ h.some, le-leb _ _ h.limited)

  pub asks_makes : (opens : Bool) → Asks (sign opens) l → log_line l ≡ asking opens l
  asks_makes opens h =
      letter_tells opens l (formed_keeps (sign opens) (fields l) h.formed).counted.letter ∙ asks_as (sign opens) opens h

  pub asks_makes_plan : Asks plan_letter l → plan_line l ≡ asking true l
  unfolding plan_line
  asks_makes_plan h = asks_as plan_letter true h

  -- its names
  module _ (letter : ℕ) (h : IsFormed letter (fields l)) where
    counted : length (fields l) ≡ 4
    counted = let k = (formed_keeps letter (fields l) h).counted in omega (arith, k.enough, k.no_more)

    short : length (field (fields l) 0) ≡ 1
    short = ap length (formed_keeps letter (fields l) h).counted.letter

    pub name_is_field_1 : take (2 + length (field (fields l) 1) - 2) (drop 2 l) ≡ field (fields l) 1
    name_is_field_1 = part_of_field_1 l (omega (arith, counted)) short

    pub name_is_field_2 : let a = length (field (fields l) 1) in let b = length (field (fields l) 2) in
        take (3 + a + b - (3 + a)) (drop (3 + a) l) ≡ field (fields l) 2
    name_is_field_2 = part_of_field_2 l (omega (arith, counted)) short

    -- the ends of the names, as the code holds them, and that they lie within the line
    pub ends_of_names : (found : Fields) → found ≡ split l → let a = length (field (fields l) 1) in let b = length (field (fields l) 2) in
        (found.count ≡ 4) × (get_or found.end 1 0 ≡ 2 + a) × (get_or found.end 2 0 ≡ 3 + a + b) × (3 + a + b ≤ length l)
    unfolding split
    ends_of_names found e =
        let n : 2 < length (fields l) = omega (arith, counted) in
        let m : 1 < length (fields l) = omega arith in
        rw e (
          counted,
          end_of_split l 1 (omega arith) m ∙ second-end l m short,
          end_of_split l 2 (omega arith) n ∙ third_end l n short,
          omega (arith, third_end l n short, (field_lies 2 l 0 n).within),
        )

-- by what its amount is found to be
pub booking_by_size : (opens : Bool) (fs : List (List ℕ))
    → booking opens fs ≡ booking_of opens (length (field fs 1)) (length (field fs 2)) (size_of AMOUNT (field fs 3))
unfolding booking size_of
booking_by_size opens fs = by (leb (value (field fs 3)) AMOUNT) (leb 1 (value (field fs 3))) refl
  where
    by : (u t : Bool) → leb 1 (value (field fs 3)) ≡ t → let a = length (field fs 1) in let b = length (field fs 2) in let x = value (field fs 3) in
        cond (t && u) (Ok (asked opens a b x)) (Err 3) ≡ booking_of opens a b (cond u (Some x) None)
    by true true e = rw e
    by true false e = rw e
    by false true e = refl
    by false false e = refl
