-- Lines from before Card 9: a name of digits alone was a name like any other. Document 02, Card 9 ("No bare numbers as names").
-- A line is what it was, or a name of it is of digits alone: by the rules, one of which is new.
use Rattle.std.specs.Prelude.{Bool, ◌&&◌, List, [], ◌∷◌, ◌⊎◌, ◌≡◌, ℕ, ◌+◌, length, Ok, Err, Result}
use Rattle.std.proofs.Math.Bool.{true, false, cond}
use Rattle.std.proofs.Math.Logic.{inl, inr}
use Rattle.std.proofs.Common.{⊎_elim, sym, ap, ◌∙◌}
use Rattle.std.proofs.Math.Path.{refl}
use Rattle.std.proofs.Math.Dec.{leb}
use Rattle.std.proofs.Math.Seq.{slice}
use Rattle.model.specs.Text.{bytes}
use Rattle.model.specs.declared.Edition.{Edition}
use Rattle.text_grammar.specs.Grammar.{is_lettered, RightCount}
use Rattle.text_grammar.specs.RuleLaws as rule
use Rattle.text_grammar.specs.declared.Form.{Form}
use Rattle.text_grammar.specs.Grammar.{Check}
use Rattle.text_grammar.specs.declared.Broken.TheVariants as check
use Rattle.sheet_kinds.specs.LineKinds.{same, fields, field, all, is_name, is_number, checked_fields, checked, site_form, link_form, judged}
use Rattle.sheet_kinds.specs.LineKinds.{site_line, sized_link, link_line, kind_of, kind}
use Rattle.sheet_kinds.specs.FaultyLines.{BareName, Broken}
use Rattle.sheet_kinds.specs.declared.Line.{Line}
use Rattle.sheet_kinds.specs.declared.Line.TheVariants.{Site}

-- ---- the definitions

-- the first rule that fields broke: the letter, the number of fields; names are names; numbers are numbers
unfoldable pub checked_bare : Form → List (List ℕ) → Check
checked_bare form fs =
    let end = 1 + form.names in
    cond (same (field fs 0) (form.letter ∷ []))
    (cond (leb (end + form.least) (length fs) && leb (length fs) (end + form.most))
    (cond (all is_name (slice 1 end fs)) (cond (all is_number (slice end (length fs) fs)) (Ok tt) (Err check.Number)) (Err check.Name))
    (Err check.Count)) (Err check.Letter)

-- a line as a site with a letter and a mark, and as a link
unfoldable pub site_bare : ℕ → ℕ → List (List ℕ) → Result Line ℕ
site_bare letter mark fs = judged (checked_bare (site_form letter) fs) (Ok (Site 2 (2 + length (field fs 1)) mark))

unfoldable pub link_bare : Edition → List (List ℕ) → Result Line ℕ
link_bare ed fs = judged (checked_bare (link_form ed.sizing) fs) (sized_link ed fs)

-- what a line was
unfoldable pub kind_bare : Edition → List ℕ → Result Line ℕ
kind_bare ed l =
    let fs = fields l in
    cond (same (field fs 0) (bytes "L")) (link_bare ed fs)
    (cond (same (field fs 0) (bytes "T")) (site_bare 84 1 fs) (site_bare 78 0 fs))

-- ---- the laws

module _ (form : Form) (fs : List (List ℕ)) where
  -- fields were found to be what they are, or a name is of digits alone
  pub checked_as_before : (checked_bare form fs ≡ checked form fs) ⊎ BareName form fs
  unfolding checked_bare checked checked_fields
  checked_as_before =
      by (same (field fs 0) (form.letter ∷ [])) (leb (1 + form.names + form.least) (length fs) && leb (length fs) (1 + form.names + form.most))
      (all is_name (slice 1 (1 + form.names) fs)) (all is_lettered (slice 1 (1 + form.names) fs))
      (rule.a_finding_tells_its_rule form fs)
    where
      by : (t u v w : Bool) → let x = cond (all is_number (slice (1 + form.names) (length fs) fs)) (Ok tt) (Err check.Number) in
          rule.Tells form fs (cond t (cond u (cond v (cond w x (Err check.Digits)) (Err check.Name)) (Err check.Count)) (Err check.Letter))
          → (cond t (cond u (cond v x (Err check.Name)) (Err check.Count)) (Err check.Letter)
          ≡ cond t (cond u (cond v (cond w x (Err check.Digits)) (Err check.Name)) (Err check.Count)) (Err check.Letter)) ⊎ BareName form fs
      by false u v w h = inl refl
      by true false v w h = inl refl
      by true true false w h = inl refl
      by true true true false h = inr h
      by true true true true h = inl refl

  -- fields that were found to be formed have the right number
  pub formed_are_counted : checked_bare form fs ≡ Ok tt → RightCount form fs
  formed_are_counted e =
      ⊎_elim (λ s. (rule.a_formed_line_keeps_the_rules form fs (sym s ∙ e)).counted) (λ h. h.counted) checked_as_before

module _ (ed : Edition) (l : List ℕ) where
  judged_as_before : (form : Form) (w : Result Line ℕ)
      → (judged (checked_bare form (fields l)) w ≡ judged (checked form (fields l)) w) ⊎ BareName form (fields l)
  judged_as_before form w = ⊎_elim (λ e. inl (ap (λ c. judged c w) e)) inr (checked_as_before form (fields l))

  -- a line is what it was, or a name of it is of digits alone
  pub a_line_is_as_before_or_bare : (kind_bare ed l ≡ kind ed l) ⊎ Broken ed.sizing BareName l
  unfolding kind_bare kind kind_of site_bare link_bare site_line link_line
  a_line_is_as_before_or_bare =
      by (same (field (fields l) 0) (bytes "L")) _ _ _ _ (⊎_elim inl (λ h. inr (inr h)) (judged_as_before (link_form ed.sizing) _))
      (by (same (field (fields l) 0) (bytes "T")) _ _ _ _ (⊎_elim inl (λ h. inr (inl (inr h))) (judged_as_before (site_form 84) _))
      (⊎_elim inl (λ h. inr (inl (inl h))) (judged_as_before (site_form 78) _)))
    where
      by : (t : Bool) (v w x y : Result Line ℕ) → (v ≡ w) ⊎ Broken ed.sizing BareName l → (x ≡ y) ⊎ Broken ed.sizing BareName l
          → (cond t v x ≡ cond t w y) ⊎ Broken ed.sizing BareName l
      by true v w x y h k = h
      by false v w x y h k = k
