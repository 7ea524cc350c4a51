-- What Card 7 changed in reading (document 02): a sheet without `T` lines and bare numbers for names is read as it was, and no site of a sheet without `T`
-- lines is marked; a `T` line had no known letter, so a sheet was refused with 2 at the first of them, if for nothing above. Line by line.
use Rattle.std.specs.Prelude.{Err, Bool, List, ◌≡◌, ℕ, zero, suc, ◌+◌, ◌≤◌, ◌<◌, ltb, length, drop}
use Rattle.std.proofs.Math.Bool.{true, false, cond}
use Rattle.std.proofs.Math.Path.{refl, ap}
use Rattle.std.proofs.Common.{sym, ◌∙◌}
use Rattle.std.proofs.Math.Decide.{dec_lt}
use native.Mathlib.Omega.{arith}
use Rattle.std.proofs.Math.Dec.{eqb}
use Rattle.std.proofs.Math.ListN.{get_or-eq_default}
use borrow.Author.Tests.{eqb-true, le-leb, lt-ltb}
use Rattle.lists.specs.Numbers.{look}
use Rattle.lists.specs.Sums.{same?, cases}
use Rattle.model.specs.Text.{bytes}
use Rattle.model.specs.declared.Edition.{Edition}
use Rattle.text_lines.specs.Lines.{line_length, line_at, after_line, has_line}
use Rattle.text_lines.specs.LineLaws.{after-line-is-later}
use Rattle.sheet_kinds.specs.LineKinds.{field}
use Rattle.sheet_kinds.specs.Unmarked.{a_line_without_mark_is_as_before, a_marked_line_had_no_known_letter, a_marked_line_is_no_heading}
use Rattle.sheet.specs.Sheet.{Stepped, refusal, Network, empty, refused, accepted, heading_step, step_of, added, read_line, and_then, finish, read_as, lookup}
use Rattle.sheet.specs.Earlier.{kind_bare, kind_unmarked, record_by, step_by, read_lines_by, read_as_by}
use Rattle.sheet.specs.Alike.{offset, placed, a_sheet_is_read_alike}
use Rattle.sheet.specs.BareNames.{WithoutBareNames, an_accepted_line_is_as_before, a_line_that_is_reached_is_as_before}
use Rattle.sheet.specs.Causes.{fields_at, Reached, start, next}
use Rattle.sheet.specs.SheetTheorem.{an_accepted_sheet_is_a_tree}
use Rattle.sheet.specs.OwnLines.{a_name_stands_on_its_own_line, a_site_is_marked_just_by_its_letter}

-- the line at an offset has the letter `T`
abbrev pub MarkedAt : List ℕ → ℕ → Type 0
MarkedAt s at = field (fields_at s at) 0 ≡ bytes "T"

-- no line of the sheet has it
abbrev pub WithoutMarks : List ℕ → Type 0
WithoutMarks s = (above : ℕ) → ¬ (MarkedAt s (offset s above))

-- ---- a line

module _ (ed : Edition) (s : List ℕ) (net : Network) (k at : ℕ) where
  -- a line with another letter was read alike up to Card 9
  step_alike : ¬ (MarkedAt s at) → step_by kind_unmarked lookup ed s net k at ≡ step_by kind_bare lookup ed s net k at
  unfolding step_by
  step_alike d = rw (a_line_without_mark_is_as_before ed (line_at s at) d)

  -- a line with the letter `T` was refused with 2, whatever the lines above had given
  pub a_marked_line_was_refused_with_2 : MarkedAt s at → step_by kind_unmarked lookup ed s net k at ≡ Err (refusal 2 k)
  unfolding step_by heading_step record_by
  a_marked_line_was_refused_with_2 e =
      rw (a_marked_line_had_no_known_letter ed (line_at s at) e, a_marked_line_is_no_heading ed (line_at s at) e)
      (by (ltb (at + line_length (drop at s)) (length s)) (eqb k 1) refl)
    where
      told : ℕ → Stepped
      told n = Err (refusal 2 n)

      by : (t u : Bool) → eqb k 1 ≡ u → cond t (cond u (told 1) (told k)) (told k) ≡ told k
      by false u f = refl
      by true true f = ap told (sym (eqb-true k 1 f))
      by true false f = refl

-- ---- a sheet without marks

module _ (ed : Edition) (s : List ℕ) (none : WithoutMarks s) where
  -- a line that is reached has another letter
  pub another_letter : {k at : ℕ} {net : Network} → Reached ed s k at net → ¬ (MarkedAt s at)
  another_letter r = let p = placed r in rw p.2 (none p.0)

  -- a sheet without `T` lines, and without bare numbers for names, is read as it was
  pub a_sheet_without_marks_is_read_as_before : WithoutBareNames s → read_as_by kind_unmarked lookup ed s ≡ read_as ed s
  a_sheet_without_marks_is_read_as_before lettered = a_sheet_is_read_alike kind_unmarked lookup ed s
      (λ k at net r. step_alike ed s net k at (another_letter r) ∙ a_line_that_is_reached_is_as_before ed s lettered r)

  -- and no site of a sheet without `T` lines is marked
  pub no_site_is_marked : (net : Network) → read_as ed s ≡ accepted net → (i : ℕ) → look net.marks i ≡ 0
  no_site_is_marked net e i = cases (dec_lt i (length net.names)) of-a-site
      (λ past. get_or-eq_default net.marks 0 (omega (arith, past, (an_accepted_sheet_is_a_tree ed s net e).marks)))
    where
      of-a-site : i < length net.names → look net.marks i ≡ 0
      of-a-site l =
          let N = an_accepted_sheet_is_a_tree ed s net e in
          let reached = (a_name_stands_on_its_own_line ed s net e i l).reached in
          same? (look net.marks i) 1
          (λ one. absurd (another_letter reached ((a_site_is_marked_just_by_its_letter ed s net e i l).0.0 one)))
          (λ d. omega (arith, N.marked i (omega (arith, N.marks))))

-- ---- a sheet with a mark

-- the line at an offset is the first with the letter `T`, and the lines above are read without fault
pub record FirstMark (ed : Edition) (s : List ℕ) (k at : ℕ) (net : Network) : Type 0 where
  pub reached : Reached ed s k at net
  pub on_sheet : at < length s
  pub marked : MarkedAt s at
  pub first : (above : ℕ) → offset s above < at → ¬ (MarkedAt s (offset s above))

module _ (ed : Edition) (s : List ℕ) where
  -- a line and what follows, by the fuel
  line_before : (fuel k at : ℕ) (net : Network) → at < length s → read_lines_by kind_unmarked lookup ed s (suc fuel) k at net
      ≡ and_then (added net (step_by kind_unmarked lookup ed s net k at)) (read_lines_by kind_unmarked lookup ed s fuel (suc k) (after_line s at))
  unfolding read_lines_by has_line
  line_before fuel k at net h = rw (lt-ltb at (length s) h)

  -- the lines above were read as today
  lines-above : {k at : ℕ} {net : Network} → Reached ed s k at net → ((above : ℕ) → offset s above < at → ¬ (MarkedAt s (offset s above)))
      → (fuel : ℕ) × (length s ≤ at + fuel)
      × (read_lines_by kind_unmarked lookup ed s (length s) 1 0 empty ≡ read_lines_by kind_unmarked lookup ed s fuel k at net)
  unfolding has_line read_line and_then
  lines-above start none = (length s, omega arith, refl)
  lines-above (next {k = k} {at = at} {net = net} {after = after} r h e) none =
      by (lines-above r (λ above l. none above (omega (arith, later))))
    where
      later : at < after_line s at
      later = after-line-is-later s at (lt-ltb at (length s) h)

      here : step_by kind_unmarked lookup ed s net k at ≡ step_of ed s net k at
      here =
          let p = placed r in
          step_alike ed s net k at (rw p.2 (none p.0 (rw (← p.2) later))) ∙ an_accepted_line_is_as_before ed s net k at after e

      by : (fuel : ℕ) × (length s ≤ at + fuel)
          × (read_lines_by kind_unmarked lookup ed s (length s) 1 0 empty ≡ read_lines_by kind_unmarked lookup ed s fuel k at net)
          → (fuel : ℕ) × (length s ≤ after_line s at + fuel)
          × (read_lines_by kind_unmarked lookup ed s (length s) 1 0 empty ≡ read_lines_by kind_unmarked lookup ed s fuel (suc k) (after_line s at) after)
      by (zero, l, p) = absurd (omega arith)
      by (suc fuel, l, p) = (fuel, omega (arith, later), p ∙ line_before fuel k at net h ∙ rw (here, e))

  -- so a sheet was refused with 2 at its first `T` line, if for nothing above
  pub a_sheet_was_refused_at_its_first_mark : 1 ≤ length s → length s ≤ ed.bytes → (k at : ℕ) (net : Network) → FirstMark ed s k at net
      → read_as_by kind_unmarked lookup ed s ≡ refused 2 k
  unfolding read_as_by and_then
  a_sheet_was_refused_at_its_first_mark some few k at net h =
      rw (le-leb 1 (length s) some, le-leb (length s) ed.bytes few) (by (lines-above h.reached h.first))
    where
      by : (fuel : ℕ) × (length s ≤ at + fuel)
          × (read_lines_by kind_unmarked lookup ed s (length s) 1 0 empty ≡ read_lines_by kind_unmarked lookup ed s fuel k at net)
          → and_then (read_lines_by kind_unmarked lookup ed s (length s) 1 0 empty) finish ≡ refused 2 k
      by (zero, l, p) = absurd (omega (arith, h.on_sheet))
      by (suc fuel, l, p) = rw (p, line_before fuel k at net h.on_sheet, a_marked_line_was_refused_with_2 ed s net k at h.marked)
