-- The lines of a text one by one, and that what a line asks can be asked: two sites free to be joined and an amount within the limit.
use Rattle.std.specs.Prelude.{Option, Some, None, Bool, ◌≡◌, drop, Err}
use Rattle.std.proofs.Math.Bool.{true, false, cond}
use mathlib.Core.List.{List, [], ◌∷◌}
use Rattle.std.proofs.Math.Path.{refl, sym, ap}
use Prim.Native.Nat.{ℕ, zero, suc, ◌+◌, ◌-◌, ◌≤◌, ◌<◌}
use Rattle.std.proofs.Math.Nat.{sub-zero}
use native.Mathlib.Omega.{arith}
use borrow.Author.Tests.{lt-ltb, le-ltb}
use Rattle.std.proofs.Math.ListN.{length}
use Rattle.model.specs.Flows.{Links, Site}
use Rattle.model.specs.Parts.{free_pair}
use Rattle.text_lines.specs.Lines.{line_length, line_at, after_line, has_line}
use Rattle.text_lines.specs.LineLaws.{length_of_line, no_line_past_the_sheet, after-line-is-later}
use Rattle.log_lines.specs.LogLines.{line_by}
use Rattle.log_requests.specs.Requests.{lines_from, lines, line_of}

-- ---- line by line
module _ (text : List ℕ) where
  pub after-within : (at : ℕ) → after_line text at ≤ length text
  unfolding after_line
  after-within at = omega arith

  pub lines_end : (fuel at : ℕ) → length text ≤ at → lines_from text fuel at ≡ []
  unfolding lines_from
  lines_end zero at h = refl
  lines_end (suc fuel) at h = rw (no_line_past_the_sheet text at h)

  line-here : (at : ℕ) → at < length text → has_line text at ≡ true
  unfolding has_line
  line-here at h = lt-ltb at (length text) h

  -- the fuel does not matter
  enough_fuel : (f g at : ℕ) → length text ≤ at + f → length text ≤ at + g → lines_from text f at ≡ lines_from text g at
  unfolding lines_from
  enough_fuel zero g at h k = sym (lines_end g at (omega arith))
  enough_fuel (suc f) zero at h k = lines_end (suc f) at (omega arith)
  enough_fuel (suc f) (suc g) at h k =
      by (has_line text at) refl (λ later. ap (λ r. at ∷ r) (enough_fuel f g (after_line text at) (omega arith) (omega arith)))
    where
      by : (t : Bool) → has_line text at ≡ t → {x y : List ℕ} → (at < after_line text at → x ≡ y) → cond t x [] ≡ cond t y []
      by true e p = p (after-line-is-later text at e)
      by false e p = refl

  -- the line here, and those after it
  pub lines_step : (at : ℕ) → at < length text → lines_from text (length text - at) at ≡ at ∷ lines_from text (length text - after_line text at)
      (after_line text at)
  unfolding lines_from
  lines_step at h =
      let here = line-here at h in
      let later = after-line-is-later text at here in
      let fuel : length text - at ≡ suc (length text - at - 1) = omega arith in
      rw (fuel, here) (ap (λ r. at ∷ r) (enough_fuel (length text - at - 1) (length text - after_line text at) (after_line text at) (omega arith) (omega arith)))

  pub all_lines : lines text ≡ lines_from text (length text - 0) 0
  unfolding lines
  all_lines = rw sub-zero

  -- an unended line, and an ended one
  pub unended_line : (plan : Bool) (at : ℕ) → length text ≤ at + length (line_at text at) → line_of plan text at ≡ Err 2
  unfolding line_of
  unended_line plan at h = rw (le-ltb (at + line_length (drop at text)) (length text) (omega (arith, length_of_line text at)))

  pub ended_line : (plan : Bool) (at : ℕ) → at + length (line_at text at) < length text → line_of plan text at ≡ line_by plan (line_at text at)
  unfolding line_of
  ended_line plan at h = rw (lt-ltb (at + line_length (drop at text)) (length text) (omega (arith, length_of_line text at)))

-- ---- what can be asked

-- a site that is found among n
abbrev pub Named : ℕ → Option ℕ → Type 0
Named n (Some v) = Site n v
Named n None = Unit {0}

-- two sites free to be joined
abbrev pub Free : Links → (ℕ → ℕ) → ℕ → ℕ → Type 0
Free ls t a b = free_pair ls t a b ≡ 1
