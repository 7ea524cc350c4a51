-- What a reading of a sheet may use of its lines: a line stays on the sheet, holds no byte 10, ends at one or at the end of the sheet,
-- and the lines with their bytes 10 are the whole sheet. By induction over the bytes: the first one is 10, or belongs to the line.
use Rattle.std.specs.Prelude.{Bool, true, false, ◌||◌, List, [], ◌∷◌, ◌++◌, ◌⊎◌, ◌≢◌, ◌≡◌, refl, ℕ, zero, suc, ◌+◌, ◌-◌, ◌≤◌, ◌<◌, min, eqb, ltb, length, get_or, take, drop}
use Rattle.std.proofs.Common.{true≢false, inl, inr, ⊎_elim, ap, ◌∙◌, add-one, arith, take-append-drop, drop_of_length-le, drop-cons, drop-drop, take_all}
use Rattle.std.proofs.Math.Path.{sym}
use Rattle.std.proofs.Math.Nat.{min-zero, suc-min-suc, add-sub_cancel_left}
use Rattle.std.proofs.Math.Decide.{dec_lt}
use Rattle.std.proofs.Math.ListN.{length-take, length-drop}
use Rattle.std.proofs.Math.Seq.{drop-nil, get_or-drop, get_or-take}
use borrow.Author.Tests.{eqb-true, eqb-false, ltb-true, ltb-false, le-ltb}
use Rattle.text_lines.specs.Lines.{line_length, line_at, line_start, line_end, after_line, has_line}

-- ---- the first byte

-- the first byte is 10 and the line is empty, or it is another and belongs to the line; by the outcome t of the test
first_byte_by : (b : ℕ) (bs : List ℕ) (t : Bool) → eqb b 10 ≡ t
    → ((b ≡ 10) × (line_length (b ∷ bs) ≡ 0)) ⊎ ((b ≢ 10) × (line_length (b ∷ bs) ≡ suc (line_length bs)))
unfolding line_length
first_byte_by b bs true e = inl (eqb-true b 10 e, simp e)
first_byte_by b bs false e = inr (eqb-false b 10 e, simp e)

first_byte : (b : ℕ) (bs : List ℕ) → ((b ≡ 10) × (line_length (b ∷ bs) ≡ 0)) ⊎ ((b ≢ 10) × (line_length (b ∷ bs) ≡ suc (line_length bs)))
first_byte b bs = first_byte_by b bs (eqb b 10) refl

-- ---- the length of the first line

line-length-within : (s : List ℕ) → line_length s ≤ length s
unfolding line_length
line-length-within [] = omega arith
line-length-within (b ∷ bs) = ⊎_elim (λ h. omega (arith, h.1)) (λ h. omega (arith, h.1, line-length-within bs)) (first_byte b bs)

bytes_before_are_not_ten : (s : List ℕ) (i : ℕ) → i < line_length s → get_or s i 0 ≢ 10
unfolding line_length
bytes_before_are_not_ten [] i l = absurd (omega arith)
bytes_before_are_not_ten (b ∷ bs) zero l = ⊎_elim (λ h. absurd (omega (arith, h.1))) (λ h. h.0) (first_byte b bs)
bytes_before_are_not_ten (b ∷ bs) (suc i) l =
    ⊎_elim (λ h. absurd (omega (arith, h.1))) (λ h. bytes_before_are_not_ten bs i (omega (arith, h.1))) (first_byte b bs)

ten_stands_there : (s : List ℕ) → line_length s < length s → get_or s (line_length s) 0 ≡ 10
unfolding line_length
ten_stands_there [] l = absurd (omega arith)
ten_stands_there (b ∷ bs) l = ⊎_elim (λ h. rw h.1 h.0) (λ h. rw h.1 (ten_stands_there bs (omega (arith, h.1)))) (first_byte b bs)

-- ---- the line at an offset

-- the sheet from an offset on is the sheet from where the line there starts
pub sheet_from_the_start : (s : List ℕ) (at : ℕ) → drop (line_start s at) s ≡ drop at s
sheet_from_the_start [] at = simp drop-nil
sheet_from_the_start (b ∷ bs) zero = rw min-zero
sheet_from_the_start (b ∷ bs) (suc at) = rw suc-min-suc (sheet_from_the_start bs at)

-- at an offset past the sheet the line is empty
pub line_past_the_sheet_is_empty : (s : List ℕ) (at : ℕ) → length s ≤ at → line_length (drop at s) ≡ 0
unfolding line_length
line_past_the_sheet_is_empty s at l = rw (drop_of_length-le s l)

-- the byte at an offset is 10 and the line is empty, or it is another and the line goes on
pub line_length_step : (s : List ℕ) (at : ℕ) → at < length s
    → ((get_or s at 0 ≡ 10) × (line_length (drop at s) ≡ 0)) ⊎ ((get_or s at 0 ≢ 10) × (line_length (drop at s) ≡ suc (line_length (drop (at + 1) s))))
line_length_step s at l = rw (drop-cons s at 0 l, add-one) (first_byte (get_or s at 0) (drop (suc at) s))

-- none of m bytes from an offset on is 10
abbrev pub NoTen : List ℕ → ℕ → ℕ → Type 0
NoTen s at m = (k : ℕ) → at ≤ k → k < at + m → get_or s k 0 ≢ 10

-- so for one byte more, by its test
pub no_ten_more : (s : List ℕ) (at m : ℕ) (any : Bool) → (any ≡ false → NoTen s at m) → (any || eqb (get_or s (at + m) 0) 10) ≡ false → NoTen s at (m + 1)
no_ten_more s at m true h e = absurd (true≢false e)
no_ten_more s at m false h e = λ k l b. elim (dec_lt k (at + m)) [
  | yes q ↦ h refl k l q
  | no q ↦ let here : k ≡ at + m = omega arith in rw here (eqb-false _ _ e)
]

-- bytes that are not 10 are passed over
pub bytes_on : (s : List ℕ) (at m : ℕ) → at + m ≤ length s → NoTen s at m → at + m + line_length (drop (at + m) s) ≡ at + line_length (drop at s)
bytes_on s at zero l h = let here : at + 0 ≡ at = omega arith in rw here
bytes_on s at (suc m) l h = ⊎_elim
    (λ t. absurd (h at (omega arith) (omega arith) t.0))
    (λ t. let there : at + suc m ≡ at + 1 + m = omega arith in
    rw there (omega (arith, bytes_on s (at + 1) m (omega arith) (λ k p q. h k (omega arith) (omega arith)), t.1)))
    (line_length_step s at (omega arith))

-- two bytes that are not 10 are passed over
pub two_bytes_on : (s : List ℕ) (at : ℕ) → at + 1 < length s → get_or s at 0 ≢ 10 → get_or s (at + 1) 0 ≢ 10
    → at + 2 + line_length (drop (at + 2) s) ≡ at + line_length (drop at s)
two_bytes_on s at l d e =
    let there : at + 1 + 1 ≡ at + 2 = omega arith in
    ⊎_elim (λ h. absurd (d h.0))
    (λ h. ⊎_elim (λ k. absurd (e k.0)) (λ k. omega (arith, h.1, rw there at k.1)) (line_length_step s (at + 1) l))
    (line_length_step s at (omega arith))

module _ (s : List ℕ) (at : ℕ) where
  -- a line has as many bytes as stand before the first byte 10
  pub length_of_line : length (line_at s at) ≡ line_length (drop at s)
  unfolding line_at
  length_of_line = simp length-take (omega (arith, line-length-within (drop at s)))

  -- the bytes of a line are those of the sheet from its offset on
  pub line_is_part_of_sheet : (i : ℕ) → i < length (line_at s at) → get_or (line_at s at) i 0 ≡ get_or s (at + i) 0
  unfolding line_at
  line_is_part_of_sheet i l = get_or-take (line_length (drop at s)) (drop at s) i 0 (omega (arith, length_of_line)) ∙ get_or-drop at s i 0

  -- a line stays on the sheet
  pub line_stays_on_sheet : at ≤ length s → at + length (line_at s at) ≤ length s
  line_stays_on_sheet l = omega (arith, length_of_line, line-length-within (drop at s), length-drop at s)

  -- no byte of a line is 10
  pub line_holds_no_ten : (i : ℕ) → i < length (line_at s at) → get_or (line_at s at) i 0 ≢ 10
  line_holds_no_ten i l e = bytes_before_are_not_ten (drop at s) i (omega (arith, length_of_line)) (get_or-drop at s i 0 ∙ sym (line_is_part_of_sheet i l) ∙ e)

  -- a line that stops before the end of the sheet stops at a byte 10
  pub line_stops_at_ten : at + length (line_at s at) < length s → get_or s (at + length (line_at s at)) 0 ≡ 10
  line_stops_at_ten l =
      rw length_of_line (sym (get_or-drop at s (line_length (drop at s)) 0) ∙ ten_stands_there (drop at s) (omega (arith, length_of_line, length-drop at s)))

  -- the sheet from an offset on is the line there and what follows it
  pub line_and_what_follows : drop at s ≡ line_at s at ++ drop (at + length (line_at s at)) s
  unfolding line_at
  line_and_what_follows = rw (length_of_line, ← drop-drop) (sym (take-append-drop (line_length (drop at s)) (drop at s)))

  -- after a line that is ended, the next one is past its byte 10
  pub after_ended_line : at + length (line_at s at) < length s → after_line s at ≡ at + length (line_at s at) + 1
  unfolding after_line
  after_ended_line l = omega (arith, length_of_line)

  -- after an unended line is the end of the sheet
  pub after_unended_line : length s ≤ at + length (line_at s at) → after_line s at ≡ length s
  unfolding after_line
  after_unended_line l = omega (arith, length_of_line)

  -- from the end of the sheet on there is no line
  pub no_line_past_the_sheet : length s ≤ at → has_line s at ≡ false
  unfolding has_line
  no_line_past_the_sheet l = le-ltb at (length s) l

  -- there is a line just where the offset is on the sheet
  pub a_line_is_on_the_sheet : has_line s at ≡ true → at < length s
  unfolding has_line
  a_line_is_on_the_sheet e = ltb-true at (length s) e

  pub no_line_is_on_the_sheet : has_line s at ≡ false → length s ≤ at
  unfolding has_line
  no_line_is_on_the_sheet e = ltb-false at (length s) e

  -- the line at the end of a line is empty
  nothing_at_the_end_of_a_line : line_length (drop (at + length (line_at s at)) s) ≡ 0
  nothing_at_the_end_of_a_line = by (ltb (at + length (line_at s at)) (length s)) refl
    where
      by : (t : Bool) → ltb (at + length (line_at s at)) (length s) ≡ t → line_length (drop (at + length (line_at s at)) s) ≡ 0
      by true e =
          let l = ltb-true (at + length (line_at s at)) (length s) e in
          ⊎_elim (λ h. h.1) (λ h. absurd (h.0 (line_stops_at_ten l))) (line_length_step s (at + length (line_at s at)) l)
      by false e = line_past_the_sheet_is_empty s _ (ltb-false (at + length (line_at s at)) (length s) e)

  -- the line after a line is the one after its end
  pub after_the_end_of_a_line : at ≤ length s → after_line s (at + length (line_at s at)) ≡ after_line s at
  unfolding after_line
  after_the_end_of_a_line l = omega (arith, length_of_line, nothing_at_the_end_of_a_line)

  -- the reader moves on as long as there is a line
  pub after-line-is-later : has_line s at ≡ true → at < after_line s at
  unfolding has_line after_line
  after-line-is-later e = omega (arith, ltb-true at (length s) e)

  -- an ended line, its byte 10 and the lines after it are the sheet from its offset on
  pub ended_lines_cover_the_sheet : at + length (line_at s at) < length s → drop at s ≡ line_at s at ++ 10 ∷ drop (after_line s at) s
  ended_lines_cover_the_sheet l =
      line_and_what_follows ∙ ap (λ (t : List ℕ). line_at s at ++ t) (drop-cons s _ 0 l ∙ rw (line_stops_at_ten l, after_ended_line l, add-one))

  -- an unended line is the sheet from its offset on
  pub unended_line_covers_the_sheet : length s ≤ at + length (line_at s at) → drop at s ≡ line_at s at
  unfolding line_at
  unended_line_covers_the_sheet l = sym (take_all (line_length (drop at s)) (drop at s) (omega (arith, length_of_line, length-drop at s)))

  -- a line ends on the sheet, not before it starts
  pub line_ends_on_sheet : (line_start s at ≤ line_end s at) × (line_end s at ≤ length s)
  unfolding line_end
  line_ends_on_sheet = omega (arith, line-length-within (drop at s), length-drop at s)

  -- the part of the sheet from its start up to its end is the line
  pub from-start-to-end : take (line_end s at - line_start s at) (drop (line_start s at) s) ≡ line_at s at
  unfolding line_end line_at
  from-start-to-end = simp (sheet_from_the_start, add-sub_cancel_left)

  -- the next line starts a byte past the end of this one, if that is on the sheet
  pub next_line_is_past_the_end : after_line s at ≡ min (length s) (line_end s at + 1)
  unfolding after_line line_end
  next_line_is_past_the_end = omega (arith, line-length-within (drop at s), length-drop at s)
