-- Readings that agree line by line agree: where each line that today's reading reaches adds by other kinds and another look-up what it adds today, a
-- sheet is read as today. By induction over the lines.
use Rattle.std.specs.Prelude.{Bool, true, false, cond, List, ◌≡◌, length}
use Rattle.std.proofs.Math.Path.{refl}
use Rattle.std.proofs.Common.{ap}
use Prim.Native.Nat.{ℕ, zero, suc, ◌<◌}
use Rattle.model.specs.declared.Edition.{Edition}
use Rattle.text_lines.specs.Lines.{after_line, has_line}
use Rattle.text_lines.specs.LineLaws.{a_line_is_on_the_sheet}
use Rattle.sheet.specs.Sheet.{Network, Read, refused, accepted, step_of, added, read_line, and_then, read_lines, read_as}
use Rattle.sheet.specs.Earlier.{Kinds, Lookup, step_by, read_lines_by, read_as_by}
use Rattle.sheet.specs.Causes.{Reached, start, next}

-- the offset of the line after so many lines
unfoldable pub offset : List ℕ → ℕ → ℕ
offset s zero = 0
offset s (suc k) = after_line s (offset s k)

-- where a line that is reached starts
pub placed : {ed : Edition} {s : List ℕ} {k at : ℕ} {net : Network} → Reached ed s k at net → (above : ℕ) × (k ≡ suc above) × (at ≡ offset s above)
unfolding offset
placed start = (0, refl, refl)
placed {s = s} (next r h e) = let p = placed r in (suc p.0, ap suc p.1, ap (after_line s) p.2)

module _ (kinds : Kinds) (find : Lookup) (ed : Edition) (s : List ℕ)
    (alike : (k at : ℕ) (net : Network) → Reached ed s k at net → step_by kinds find ed s net k at ≡ step_of ed s net k at) where
  module _ (fuel : ℕ) {k at : ℕ} {net : Network} (r : Reached ed s k at net) where
    -- the lines that follow are read alike
    abbrev Follow : Type 0
    Follow = (after : Network) → Reached ed s (suc k) (after_line s at) after
        → read_lines_by kinds find ed s fuel (suc k) (after_line s at) after ≡ read_lines ed s fuel (suc k) (after_line s at) after

    go_on : Follow → at < length s → (w : Read) → added net (step_of ed s net k at) ≡ w
        → and_then w (read_lines_by kinds find ed s fuel (suc k) (after_line s at)) ≡ and_then w (read_lines ed s fuel (suc k) (after_line s at))
    unfolding and_then read_line
    go_on follow l (refused n m) q = refl
    go_on follow l (accepted after) q = follow after (next r l q)

    line-and-rest : Follow → (t : Bool) → has_line s at ≡ t
        → cond t (and_then (added net (step_of ed s net k at)) (read_lines_by kinds find ed s fuel (suc k) (after_line s at))) (accepted net)
        ≡ cond t (and_then (added net (step_of ed s net k at)) (read_lines ed s fuel (suc k) (after_line s at))) (accepted net)
    line-and-rest follow false e = refl
    line-and-rest follow true e = go_on follow (a_line_is_on_the_sheet s at e) (added net (step_of ed s net k at)) refl

  lines-alike : (fuel : ℕ) {k at : ℕ} {net : Network} → Reached ed s k at net
      → read_lines_by kinds find ed s fuel k at net ≡ read_lines ed s fuel k at net
  unfolding read_lines_by read_lines read_line
  lines-alike zero r = refl
  lines-alike (suc fuel) {k} {at} {net} r = rw (alike k at net r) (line-and-rest fuel r (λ after q. lines-alike fuel q) (has_line s at) refl)

  pub a_sheet_is_read_alike : read_as_by kinds find ed s ≡ read_as ed s
  unfolding read_as_by read_as
  a_sheet_is_read_alike = rw (lines-alike (length s) start)
