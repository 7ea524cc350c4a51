-- What the two names of a formed line mean: two ends free to be joined, or not, with the reason; and what the line asks then.
-- Document 02, Cards 6, 7 and 12 (6 unless the names are two different ends free to be joined). By the look-ups of its names and the path between its ends.
use Rattle.std.specs.Prelude.{Option, Some, None, List, ◌⊎◌, ◌≢◌, ◌≡◌, ℕ, ◌+◌, ◌<◌, length}
use Rattle.std.proofs.Common.{inl, inr, sym, ap, ◌∙◌}
use Rattle.std.proofs.Math.Path.{refl}
use Rattle.lists.specs.Sums.{same?, contradiction}
use Rattle.model.specs.Flows.{Links}
use Rattle.model.specs.Parts.{crossed, free_pair}
use Rattle.theory_trees.specs.FreePairs.{Crossing, crossed_by, crossed-some, free_parts, free_whole}
use Rattle.text_lines.specs.Lines.{line_at}
use Rattle.text_fields.specs.Fields.{fields, field, value}
use Rattle.sheet.specs.Sheet.{lookup}
use Rattle.log_lines.specs.BookingLaws.{Asks}

-- the line at an offset of a text is ended, well formed with a letter, and its amount is within the limit
pub record Asking (letter : ℕ) (text : List ℕ) (at : ℕ) : Type 0 where
  pub ended : at + length (line_at text at) < length text
  pub asks : Asks letter (line_at text at)

-- its amount
abbrev pub amount_of : List ℕ → ℕ → ℕ
amount_of text at = value (field (fields (line_at text at)) 3)

-- over the names of the sheet s, its links and ends t
module _ (s : List ℕ) (names : List (ℕ × ℕ)) (ls : Links) (t : ℕ → ℕ) (text : List ℕ) (at : ℕ) where
  -- what the look-ups of the two names find
  abbrev pub first_found : Option ℕ
  first_found = lookup s names (field (fields (line_at text at)) 1)

  abbrev pub second_found : Option ℕ
  second_found = lookup s names (field (fields (line_at text at)) 2)

  -- the two names are those of a and b, two different ends with no other end on their path
  pub record TwoEnds (a b : ℕ) : Type 0 where
    pub first : first_found ≡ Some a
    pub second : second_found ≡ Some b
    pub free : free_pair ls t a b ≡ 1

  -- they are not: a name is not given, or that of a site that is no end, or they are those of one site, or another end stands on the path
  pub data NotTwoEnds : Type 0 where
    first-not-given : first_found ≡ None → NotTwoEnds
    second-not-given : second_found ≡ None → NotTwoEnds
    first-no-end : {a : ℕ} → first_found ≡ Some a → t a ≢ 1 → NotTwoEnds
    second-no-end : {b : ℕ} → second_found ≡ Some b → t b ≢ 1 → NotTwoEnds
    one-site : {a : ℕ} → first_found ≡ Some a → second_found ≡ Some a → NotTwoEnds
    another-end : {a b : ℕ} → first_found ≡ Some a → second_found ≡ Some b → Crossing ls t a b → NotTwoEnds

  -- names that are not those of two ends free to be joined are those of none
  pub not_two_ends_are_none : NotTwoEnds → (a b : ℕ) → ¬ (TwoEnds a b)
  not_two_ends_are_none (first-not-given e) p q z = let f = z.first in contradiction cc
  not_two_ends_are_none (second-not-given e) p q z = let f = z.second in contradiction cc
  not_two_ends_are_none (first-no-end {a} e d) p q z = let f = z.first in let u : p ≡ a = cc in d (rw u at (free_parts ls t p q z.free).1)
  not_two_ends_are_none (second-no-end {b} e d) p q z = let f = z.second in let v : q ≡ b = cc in d (rw v at (free_parts ls t p q z.free).2)
  not_two_ends_are_none (one-site {a} e d) p q z = let f = z.first in let g = z.second in (free_parts ls t p q z.free).0 cc
  not_two_ends_are_none (another-end {a} {b} e d o) p q z =
      let f = z.first in
      let g = z.second in
      let u : p ≡ a = cc in
      let v : q ≡ b = cc in
      crossed_by ls t a b o (rw (u, v) at (free_parts ls t p q z.free).3)

  -- whether they are two ends free to be joined
  pub two-ends-or-not : ((a : ℕ) × (b : ℕ) × TwoEnds a b) ⊎ NotTwoEnds
  two-ends-or-not = by first_found refl second_found refl
    where
      by : (v : Option ℕ) → first_found ≡ v → (w : Option ℕ) → second_found ≡ w → ((a : ℕ) × (b : ℕ) × TwoEnds a b) ⊎ NotTwoEnds
      by None e w f = inr (first-not-given e)
      by (Some a) e None f = inr (second-not-given f)
      by (Some a) e (Some b) f = same? (t a) 1
          (λ g. same? (t b) 1
          (λ h. same? a b
          (λ i. inr (one-site e (f ∙ ap Some (sym i))))
          (λ d. same? (crossed ls t a b) 0
          (λ z. inl (a, b, record { first = e; second = f; free = free_whole ls t a b d g h z }))
          (λ z. inr (another-end e f (crossed-some ls t a b z)))))
          (λ h. inr (second-no-end f h)))
          (λ g. inr (first-no-end e g))
