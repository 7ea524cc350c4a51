-- Reading line by line: the fuel always suffices, and a line is read, or reading has come to its end. By induction over the fuel, which
-- each line lowers.
use Rattle.std.specs.Prelude.{Bool, List, ◌≡◌}
use Rattle.std.proofs.Math.Bool.{true, false, cond}
use Rattle.std.proofs.Math.Path.{refl, sym}
use Prim.Native.Nat.{ℕ, zero, suc, ◌+◌, ◌-◌, ◌≤◌, ◌<◌}
use native.Mathlib.Omega.{arith}
use Rattle.std.proofs.Math.ListN.{length}
use Rattle.std.proofs.Common.{lt-ltb}
use Rattle.model.specs.declared.Edition.{Edition}
use Rattle.text_lines.specs.Lines.{after_line, has_line}
use Rattle.text_lines.specs.LineLaws.{no_line_past_the_sheet, after-line-is-later}
use Rattle.sheet.specs.Sheet.{Network, Read, refused, accepted, read_line, and_then, read_lines}

has_line_lem : (s : List ℕ) (at : ℕ) → at < length s → has_line s at ≡ true
unfolding has_line
has_line_lem s at h = lt-ltb at (length s) h

-- what follows is read alike
then_alike : (r : Read) (f g : Network → Read) → ((net : Network) → f net ≡ g net) → and_then r f ≡ and_then r g
unfolding and_then
then_alike (refused n k) f g h = refl
then_alike (accepted net) f g h = h net

module _ (ed : Edition) (s : List ℕ) where
  -- past the last line there is nothing to read
  pub lines_end : (fuel k at : ℕ) (net : Network) → length s ≤ at → read_lines ed s fuel k at net ≡ accepted net
  unfolding read_lines
  lines_end zero k at net h = refl
  lines_end (suc fuel) k at net h = rw (no_line_past_the_sheet s at h)

  -- any fuel of at least the bytes left is enough
  pub enough_fuel : (f g k at : ℕ) (net : Network) → length s ≤ at + f → length s ≤ at + g → read_lines ed s f k at net ≡ read_lines ed s g k at net
  unfolding read_lines
  enough_fuel zero g k at net h j = sym (lines_end g k at net (omega arith))
  enough_fuel (suc f) zero k at net h j = lines_end (suc f) k at net (omega arith)
  enough_fuel (suc f) (suc g) k at net h j =
      by (has_line s at) refl
      (λ later. then_alike (read_line ed s net k at) (read_lines ed s f (suc k) (after_line s at)) (read_lines ed s g (suc k) (after_line s at))
      (λ next. enough_fuel f g (suc k) (after_line s at) next (omega arith) (omega arith)))
    where
      by : (t : Bool) → has_line s at ≡ t → {x y : Read} → (at < after_line s at → x ≡ y) → cond t x (accepted net) ≡ cond t y (accepted net)
      by true e p = p (after-line-is-later s at e)
      by false e p = refl

  -- reading goes on with the line at an offset
  pub lines_step : (k at : ℕ) (net : Network) → at < length s
      → read_lines ed s (length s - at) k at net ≡ and_then (read_line ed s net k at) (read_lines ed s (length s - after_line s at) (suc k) (after_line s at))
  unfolding read_lines
  lines_step k at net h =
      let more : length s - at ≡ suc (length s - suc at) = omega arith in
      let later = after-line-is-later s at (has_line_lem s at h) in
      rw (more, has_line_lem s at h)
      (then_alike (read_line ed s net k at) (read_lines ed s (length s - suc at) (suc k) (after_line s at))
      (read_lines ed s (length s - after_line s at) (suc k) (after_line s at))
      (λ next. enough_fuel (length s - suc at) (length s - after_line s at) (suc k) (after_line s at) next (omega arith) (omega arith)))
