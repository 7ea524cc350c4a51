-- What the two names of a formed line mean: two ends free to be joined, or not, with the reason; and what the line asks then.
use Rattle.std.specs.Prelude.{Option, Some, None, Bool, List, ◌≡◌, ℕ}
use Rattle.std.proofs.Common.{◌∙◌}
use Rattle.std.proofs.Math.Path.{refl}
use Rattle.model.specs.Flows.{Links}
use Rattle.model.specs.Booking.{pair}
use Rattle.model.specs.declared.Request.TheVariants as request
use Rattle.text_lines.specs.Lines.{line_at}
use Rattle.text_fields.specs.Fields.{fields, field}
use Rattle.sheet.specs.Sheet.{lookup}
use Rattle.log_lines.specs.LogLines.{line_by}
use Rattle.log_lines.specs.BookingLaws.{asking}
use Rattle.log_lines.proofs.BookingLaws.{name_is_field_1, name_is_field_2}
use Rattle.log_requests.specs.Requests.{request_for, between, request_by, request_at}
use Rattle.log_requests.specs.RequestLaws.{ended_line}
use Rattle.log_requests.proofs.RequestLaws.{a_free_pair_is_asked_for, a_pair_that_is_not_free_gets_6}
use Rattle.log_requests.specs.TwoEnds.{Asking, amount_of, first_found, second_found, TwoEnds, NotTwoEnds, not_two_ends_are_none}

-- over the names of the sheet s, its links and ends t
module _ (s : List ℕ) (names : List (ℕ × ℕ)) (ls : Links) (t : ℕ → ℕ) (text : List ℕ) (at : ℕ) where
  -- ---- what the line asks
  module _ {letter : ℕ} (k : Asking letter text at) (plan opens : Bool) (told : line_by plan (line_at text at) ≡ asking opens (line_at text at)) where
    asked-by-fields : let fs = fields (line_at text at) in
        request_at plan s names ls t text at ≡ between ls t opens (amount_of text at) (lookup s names (field fs 1)) (lookup s names (field fs 2))
    unfolding request_at request_by
    asked-by-fields =
        let l = line_at text at in
        rw (
          ended_line text plan at k.ended,
          told,
          name_is_field_1 l letter k.asks.formed,
          name_is_field_2 l letter k.asks.formed,
        )

    pub asked-between : {a b : ℕ} → TwoEnds s names ls t text at a b → request_at plan s names ls t text at ≡ request_for opens (pair a b (amount_of text at))
    asked-between {a} {b} z =
        asked-by-fields ∙ rw (z.first, z.second) (a_free_pair_is_asked_for ls t opens (amount_of text at) a b z.free)

    pub asked_of_none : NotTwoEnds s names ls t text at → request_at plan s names ls t text at ≡ request.Fault 6
    unfolding between
    asked_of_none none = asked-by-fields ∙ by (first_found s names ls t text at) refl (second_found s names ls t text at) refl
      where
        by : (v : Option ℕ) → first_found s names ls t text at ≡ v → (w : Option ℕ) → second_found s names ls t text at ≡ w → between ls t opens (amount_of text at) v w ≡ request.Fault 6
        by None e w f = refl
        by (Some a) e None f = refl
        by (Some a) e (Some b) f = a_pair_that_is_not_free_gets_6 ls t opens (amount_of text at) a b
            (λ z. not_two_ends_are_none s names ls t text at none a b (record { first = e; second = f; free = z }))
