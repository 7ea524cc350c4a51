-- A step, case by case: the ending of the line first, then its number; and that a site which a look-up finds has a place.
use Rattle.std.specs.Prelude.{Option, Some, None, Err, List, ◌≢◌, ◌≡◌, ℕ, ◌+◌, ◌≤◌, ◌<◌, length, drop}
use Rattle.std.proofs.Common.{arith}
use borrow.Author.Tests.{eq-eqb, ne_eqb, lt-ltb, le-ltb}
use Rattle.model.specs.declared.Edition.{Edition}
use Rattle.text_lines.specs.Lines.{line_length, line_at}
use Rattle.text_lines.specs.LineLaws.{length_of_line}
use Rattle.sheet_kinds.specs.LineKinds.{kind}
use Rattle.sheet_names.specs.Names.{lookup}
use Rattle.sheet_names.specs.LookupLaws.{Says, lookup_says}
use Rattle.sheet.specs.Sheet.{refusal, Network, heading_step, record_step, step_of}

module _ (ed : Edition) (s : List ℕ) (net : Network) (k at : ℕ) where
  pub unended_step : length s ≤ at + length (line_at s at) → step_of ed s net k at ≡ Err (refusal 2 k)
  unfolding step_of
  unended_step h = rw (le-ltb (at + line_length (drop at s)) (length s) (omega (arith, length_of_line s at)))

  pub first_step : at + length (line_at s at) < length s → k ≡ 1 → step_of ed s net k at ≡ heading_step ed (line_at s at)
  unfolding step_of
  first_step h e = rw (lt-ltb (at + line_length (drop at s)) (length s) (omega (arith, length_of_line s at)), eq-eqb k 1 e)

  pub later_step : at + length (line_at s at) < length s → k ≢ 1 → step_of ed s net k at ≡ record_step ed s net k at (kind ed (line_at s at))
  unfolding step_of
  later_step h d = rw (lt-ltb (at + line_length (drop at s)) (length s) (omega (arith, length_of_line s at)), ne_eqb k 1 d)

-- a site that is found has one of n places
abbrev pub Labelled : ℕ → Option ℕ → Type 0
Labelled n (Some v) = v < n
Labelled n None = Unit {0}

-- what is found among fewer than n sites has one of n places
pub labelled : (s f : List ℕ) (names : List (ℕ × ℕ)) (n : ℕ) → length names < n → Labelled n (lookup s names f)
labelled s f names n l = by (lookup s names f) (lookup_says s f names 1)
  where
    by : (w : Option ℕ) → Says s names 1 f w → Labelled n w
    by (Some v) h = omega arith
    by None h = tt
