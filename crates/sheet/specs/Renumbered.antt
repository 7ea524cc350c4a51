-- What Card 1 changed in reading: by the numbering from before, which gave 2 for each of them, every sheet without bare numbers for names is
-- read as today, but that 2 stands for 10, 11 and 12; the line, and everything else, is as it was. Document 02, Card 1. By the cases of a step.
use Rattle.std.specs.Prelude.{Option, Some, None, Ok, Err, Bool, ◌&&◌, List, ◌≡◌, eqb, ltb, length, drop, Result}
use Rattle.std.proofs.Math.Bool.{true, false, cond}
use Rattle.std.proofs.Math.Path.{refl, sym}
use Rattle.std.proofs.Common.{◌∙◌}
use Prim.Native.Nat.{ℕ, zero, suc, ◌+◌}
use Rattle.std.proofs.Math.Dec.{leb}
use Rattle.model.specs.Flows.{sites, joined}
use Rattle.model.specs.declared.Edition.{Edition}
use Rattle.text_lines.specs.Lines.{line_length, line_at, after_line, has_line}
use Rattle.sheet_kinds.specs.LineKinds.{fields, is_heading, kind}
use Rattle.sheet_kinds.specs.BareNames.{kind_bare}
unfoldable pub use Rattle.sheet_kinds.specs.Numbering.{number_before}
use Rattle.sheet_kinds.specs.Numbering.{line_before, a_line_is_as_before}
use Rattle.sheet_kinds.specs.declared.Line.{Line}
use Rattle.sheet_kinds.specs.declared.Line.TheVariants as line
use Rattle.sheet.specs.Sheet.{Stepped, refusal, Network, empty, Read, refused, accepted, site_step, site_by, link_step, heading_step, step_of, added, and_then}
use Rattle.sheet.specs.Sheet.{all_joined, finish, read_as, part, lookup}
use Rattle.sheet.specs.Alike.{a_sheet_is_read_alike}
use Rattle.sheet.specs.BareNames.{WithoutBareNames, a_sheet_without_bare_names_is_read_as_before}
use Rattle.sheet.specs.Earlier.{kind_before, record_by, record_by_the_look_up, step_by, read_lines_by, read_as_by}
use Rattle.sheet.specs.declared.stepping.Step.TheVariants.{Nothing, Site, Link}

-- what reading came to before: 2 for 10, 11 and 12, at the same line; everything else stays
abbrev pub read_before : Read → Read
read_before (refused n k) = refused (number_before n) k
read_before (accepted net) = accepted net

abbrev step_before : Stepped → Stepped
step_before (Ok Nothing) = Ok Nothing
step_before (Ok (Site a e m)) = Ok (Site a e m)
step_before (Ok (Link a b size)) = Ok (Link a b size)
step_before (Err r) = Err (refusal (number_before r.number) r.line)

-- ---- a step

site_stays : (ed : Edition) (k n : ℕ) (r : ℕ × ℕ) (m : ℕ) (w : Option ℕ) → step_before (site_step ed k n r m w) ≡ site_step ed k n r m w
unfolding site_step number_before
site_stays ed k n r m w = by (leb ed.sites n) w
  where
    by : (t : Bool) (w : Option ℕ) → step_before (cond t (Err (refusal 4 k)) (site_by k r m w)) ≡ cond t (Err (refusal 4 k)) (site_by k r m w)
    by true w = refl
    by false (Some v) = refl
    by false None = refl

module _ (k : ℕ) (net : Network) (size : ℕ) where
  link_stays : (u w : Option ℕ) → step_before (link_step k net.links size u w) ≡ link_step k net.links size u w
  unfolding link_step number_before
  link_stays None w = refl
  link_stays (Some a) None = refl
  link_stays (Some a) (Some b) = by (eqb (joined net.links a b) 1)
    where
      by : (t : Bool) → step_before (cond t (Err (refusal 7 k)) (Ok (Link a b size))) ≡ cond t (Err (refusal 7 k)) (Ok (Link a b size))
      by true = refl
      by false = refl

heading-before : (ed : Edition) (l : List ℕ) → heading_step ed l ≡ step_before (heading_step ed l)
unfolding heading_step number_before
heading-before ed l = by (is_heading ed (fields l))
  where
    by : (t : Bool) → cond t (Ok Nothing) (Err (refusal 2 1)) ≡ step_before (cond t (Ok Nothing) (Err (refusal 2 1)))
    by true = refl
    by false = refl

module _ (ed : Edition) (s : List ℕ) where
  module _ (net : Network) (k at : ℕ) where
    record-before : (w : Result Line ℕ) → record_by lookup ed s net k at (line_before w) ≡ step_before (record_by lookup ed s net k at w)
    unfolding record_by number_before
    record-before (Ok (line.Site a e m)) = sym (site_stays ed k (length net.names) _ m (lookup s net.names (part s (at + a, at + e))))
    record-before (Ok (line.Link a e b f size)) = sym (link_stays k net size _ _)
    record-before (Err n) = refl

    step-before : step_by kind_before lookup ed s net k at ≡ step_before (step_by kind_bare lookup ed s net k at)
    unfolding step_by number_before
    step-before =
        rw (a_line_is_as_before ed (line_at s at))
        (by (ltb (at + line_length (drop at s)) (length s)) (eqb k 1) (kind_bare ed (line_at s at)))
      where
        by : (t u : Bool) (w : Result Line ℕ) → let first = heading_step ed (line_at s at) in
            cond t (cond u first (record_by lookup ed s net k at (line_before w))) (Err (refusal 2 k))
            ≡ step_before (cond t (cond u first (record_by lookup ed s net k at w)) (Err (refusal 2 k)))
        by true true w = heading-before ed (line_at s at)
        by true false w = record-before w
        by false u w = refl

  -- ---- the lines and the sheet

  added-before : (net : Network) (w : Stepped) → added net (step_before w) ≡ read_before (added net w)
  added-before net (Ok Nothing) = refl
  added-before net (Ok (Site a e m)) = refl
  added-before net (Ok (Link a b size)) = refl
  added-before net (Err r) = refl

  then_before : (r : Read) (f g : Network → Read) → ((net : Network) → f net ≡ read_before (g net)) → and_then (read_before r) f ≡ read_before (and_then r g)
  unfolding and_then
  then_before (refused n k) f g e = refl
  then_before (accepted net) f g e = e net

  either : (t : Bool) (q r x : Read) → q ≡ read_before r → x ≡ read_before x → cond t q x ≡ read_before (cond t r x)
  either true q r x e f = e
  either false q r x e f = f

  lines-before : (fuel k at : ℕ) (net : Network)
      → read_lines_by kind_before lookup ed s fuel k at net ≡ read_before (read_lines_by kind_bare lookup ed s fuel k at net)
  unfolding read_lines_by
  lines-before zero k at net = refl
  lines-before (suc fuel) k at net =
      let step = step_by kind_bare lookup ed s net k at in
      let rest = read_lines_by kind_bare lookup ed s fuel (suc k) (after_line s at) in
      either (has_line s at) _ (and_then (added net step) rest) (accepted net)
      (rw (step-before net k at, added-before net step)
      (then_before (added net step) (read_lines_by kind_before lookup ed s fuel (suc k) (after_line s at)) rest
      (λ next. lines-before fuel (suc k) (after_line s at) next)))
      refl

  finish_stays : (net : Network) → finish net ≡ read_before (finish net)
  unfolding finish number_before
  finish_stays net = by (leb 2 (length net.names) && all_joined net.links (sites (length net.names)))
    where
      by : (t : Bool) → cond t (accepted net) (refused 8 0) ≡ read_before (cond t (accepted net) (refused 8 0))
      by true = refl
      by false = refl

  -- today's reading is the one by today's kinds of lines and look-up
  pub a_sheet_is_read_by_its_kinds : read_as_by kind lookup ed s ≡ read_as ed s
  unfolding step_by step_of
  a_sheet_is_read_by_its_kinds =
      a_sheet_is_read_alike kind lookup ed s (λ k at net r. rw (record_by_the_look_up ed s net k at (kind ed (line_at s at))))

  -- what was 2 before was one of 2, 10, 11, 12 up to Card 9, at the same line, and everything else stayed as it was
  pub a_sheet_was_read_as_before : read_as_by kind_before lookup ed s ≡ read_before (read_as_by kind_bare lookup ed s)
  unfolding read_as_by number_before
  a_sheet_was_read_as_before =
      let lines = read_lines_by kind_bare lookup ed s (length s) 1 0 empty in
      either (leb 1 (length s) && leb (length s) ed.bytes) _ (and_then lines finish) (refused 1 0)
      (rw (lines-before (length s) 1 0 empty) (then_before lines finish finish finish_stays))
      refl

  -- and so it is now, where no name is a bare number
  pub a_sheet_is_read_as_before : WithoutBareNames s → read_as_by kind_before lookup ed s ≡ read_before (read_as ed s)
  a_sheet_is_read_as_before none = a_sheet_was_read_as_before ∙ rw (a_sheet_without_bare_names_is_read_as_before ed s none)
