-- What Card 9 changed in reading (document 02): a sheet without bare numbers for names is read as it was, and so is every sheet that is not refused with 17
-- now; no site of an accepted sheet has a bare number for its name. Line by line.
use Rattle.std.specs.Prelude.{Err, Bool, List, ◌⊎◌, ◌≢◌, ◌≡◌, ℕ, ◌+◌, ◌<◌, length, drop}
use Rattle.std.proofs.Math.Bool.{true, false, cond, and-false}
use Rattle.std.proofs.Math.Logic.{inl, inr, ⊎_elim}
use Rattle.std.proofs.Math.Path.{refl}
use Rattle.std.proofs.Math.Decide.{dec_lt}
use Rattle.std.proofs.Common.{arith}
use Rattle.std.proofs.Math.Dec.{eqb, ltb}
use borrow.Author.Tests.{eqb-false, ltb-true, lt-leb}
use Rattle.lists.specs.Sums.{cases, contradiction}
use Rattle.model.specs.declared.Edition.{Edition}
use Rattle.model.specs.declared.Sizing.{Sizing}
use Rattle.text_lines.specs.Lines.{line_length, line_at}
use Rattle.text_lines.specs.LineLaws.{length_of_line}
use Rattle.sheet_kinds.specs.LineKinds.{digits_alone, kind}
use Rattle.sheet_kinds.specs.LineKindLaws.{site_parts}
use Rattle.sheet_kinds.specs.FaultyLines as faulty
use Rattle.sheet_kinds.specs.FaultyLines.{BareName, Broken}
use Rattle.sheet_kinds.specs.BareNames.{a_line_is_as_before_or_bare}
use Rattle.sheet_names.specs.Names.{name_at}
use Rattle.sheet.specs.Sheet.{refusal, Network, refused, accepted, heading_step, record_step, step_of, read_line, read_as, lookup}
use Rattle.sheet.specs.StepCases.{later_step}
use Rattle.sheet.specs.Earlier.{kind_bare, record_by, record_by_the_look_up, step_by, read_as_by}
use Rattle.sheet.specs.Alike.{offset, placed, a_sheet_is_read_alike}
use Rattle.sheet.specs.Causes.{Ended, fields_at, bare_name, Reached, by_line}
use Rattle.sheet.specs.OwnLines.{a_name_stands_on_its_own_line}
use Rattle.sheet.specs.SheetTheorem.{a_sheet_is_refused_for_its_cause}

-- the line at an offset has a bare number for a name: the cause of 17
abbrev pub BareAt : Sizing → List ℕ → ℕ → Type 0
BareAt z s at = Broken z BareName (line_at s at)

-- no line of the sheet has one
abbrev pub WithoutBareNames : List ℕ → Type 0
WithoutBareNames s = (above : ℕ) (z : Sizing) → ¬ (BareAt z s (offset s above))

-- ---- a line

module _ (ed : Edition) (s : List ℕ) (net : Network) (k at : ℕ) where
  -- a line below the heading has a bare number for a name
  abbrev Bare : Type 0
  Bare = Ended s at × (k ≢ 1) × BareAt ed.sizing s at

  -- a line adds what it added, but for such a line
  step_as_before : (step_by kind_bare lookup ed s net k at ≡ step_of ed s net k at) ⊎ Bare
  unfolding step_by step_of
  step_as_before =
      by (ltb (at + line_length (drop at s)) (length s)) refl (eqb k 1) refl (a_line_is_as_before_or_bare ed (line_at s at))
    where
      by : (t : Bool) → ltb (at + line_length (drop at s)) (length s) ≡ t → (u : Bool) → eqb k 1 ≡ u
          → (kind_bare ed (line_at s at) ≡ kind ed (line_at s at)) ⊎ BareAt ed.sizing s at → let first = heading_step ed (line_at s at) in
          (cond t (cond u first (record_by lookup ed s net k at (kind_bare ed (line_at s at)))) (Err (refusal 2 k))
          ≡ cond t (cond u first (record_step ed s net k at (kind ed (line_at s at)))) (Err (refusal 2 k))) ⊎ Bare
      by false e u f o = inl refl
      by true e true f o = inl refl
      by true e false f (inl z) = inl (rw z (record_by_the_look_up ed s net k at (kind ed (line_at s at))))
      by true e false f (inr b) =
          inr (omega (arith, ltb-true (at + line_length (drop at s)) (length s) e, length_of_line s at), eqb-false k 1 f, b)

  -- which is refused with 17
  bare_is_17 : Bare → read_line ed s net k at ≡ refused 17 k
  unfolding read_line record_step
  bare_is_17 h =
      rw (later_step ed s net k at h.0 h.1, (faulty.a_line_is_a_fault_just_for_its_cause ed (line_at s at) 17).1 (faulty.bare_name h.2))

  -- so a line that is read without fault adds what it added
  pub an_accepted_line_is_as_before : (after : Network) → read_line ed s net k at ≡ accepted after
      → step_by kind_bare lookup ed s net k at ≡ step_of ed s net k at
  an_accepted_line_is_as_before after e = ⊎_elim (λ z. z) (λ h. let is = bare_is_17 h in contradiction cc) step_as_before

-- ---- a sheet

module _ (ed : Edition) (s : List ℕ) where
  -- the name of a site of an accepted sheet is not of digits alone
  pub no_name_is_a_bare_number : (net : Network) → read_as ed s ≡ accepted net → (i : ℕ) → i < length net.names
      → digits_alone (name_at s net.names i) ≡ false
  no_name_is_a_bare_number net e i l =
      let own = a_name_stands_on_its_own_line ed s net e i l in
      rw own.name (site_parts (fields_at s own.offset) own.is-site).lettered

  -- a sheet without bare numbers for names is read as it was
  module _ (none : WithoutBareNames s) where
    pub a_line_that_is_reached_is_as_before : {k at : ℕ} {net : Network} → Reached ed s k at net
        → step_by kind_bare lookup ed s net k at ≡ step_of ed s net k at
    a_line_that_is_reached_is_as_before {k} {at} {net} r =
        ⊎_elim (λ z. z) (λ h. let p = placed r in absurd (none p.0 ed.sizing (rw (← p.2) h.2))) (step_as_before ed s net k at)

    pub a_sheet_without_bare_names_is_read_as_before : read_as_by kind_bare lookup ed s ≡ read_as ed s
    a_sheet_without_bare_names_is_read_as_before =
        a_sheet_is_read_alike kind_bare lookup ed s (λ k at net r. a_line_that_is_reached_is_as_before r)

  -- and so is every sheet that is not refused with 17
  pub a_sheet_not_refused_with_17_is_read_as_before : ((k : ℕ) → ¬ (read_as ed s ≡ refused 17 k)) → read_as_by kind_bare lookup ed s ≡ read_as ed s
  unfolding read_as_by read_as
  a_sheet_not_refused_with_17_is_read_as_before none = cases (dec_lt ed.bytes (length s))
      (λ long. rw (lt-leb (length s) ed.bytes long, and-false))
      (λ few. a_sheet_is_read_alike kind_bare lookup ed s (λ k at net r. ⊎_elim (λ z. z)
      (λ h. absurd (none k ((a_sheet_is_refused_for_its_cause ed s 17 k).1
      (by_line (omega (arith, h.0)) (omega arith) r (omega (arith, h.0)) (bare_name h.0 h.1 h.2)))))
      (step_as_before ed s net k at)))
