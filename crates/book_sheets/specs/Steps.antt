-- A line of the sheet read: the heading, a site line and a link line add what they say. By the forms of lines and the look-up of names.
use Rattle.std.specs.Prelude.{Option, Some, None, ◌≡◌, List, [], ◌∷◌, ◌++◌, ℕ, suc, ◌+◌, ◌-◌, ◌<◌, drop}
use Rattle.std.proofs.Math.Path.{refl, ap}
use Rattle.std.proofs.Common.{sym, ◌∙◌, drop_at, drop-drop}
use native.Mathlib.Omega.{arith}
use Rattle.std.proofs.Math.Decide.{dec_lt}
use Rattle.std.proofs.Math.ListN.{length, length-append, get_or-append}
use Rattle.std.proofs.lemmas.List.{get_or_at}
use Rattle.lists.specs.Numbers.{Each}
use Rattle.lists.specs.Sums.{cases}
use Rattle.model.specs.declared.Edition.{Edition}
use Rattle.model.specs.declared.Sizing.TheVariants.{Reserved}
use Rattle.sheet_kinds.specs.declared.Line.TheVariants as kinds
use Rattle.sheet_names.specs.Names.{part, lookup, name_at}
use Rattle.sheet_names.specs.LookupLaws.{Says, lookup_says}
use Rattle.demands.specs.Parsing.{Plain}
use Rattle.book_sheets.specs.Sheet.{site_name, heading}
use Rattle.book_sheets.specs.Rows.{row, NoEnd, row_no_end}
use Rattle.book_sheets.specs.Rows.{names_tell_sites}

module _ (s : List ℕ) (at : ℕ) (l rest : List ℕ) (plain : NoEnd l) (here : drop at s ≡ l ++ (10 ∷ rest)) where
  pub rest-is : drop (at + length l + 1) s ≡ rest
  rest-is =
      let turned : at + length l + 1 ≡ at + (length l + 1) = omega arith in
      ap (λ k. drop k s) turned ∙ sym (drop-drop (length l + 1) at s) ∙ ap (drop (length l + 1)) here
      ∙ sym (drop-drop 1 (length l) (l ++ (10 ∷ rest))) ∙ ap (drop 1) (drop_at l (10 ∷ rest) (length l) refl)

-- ---- the heading

pub heading-plain : Each Plain heading
heading-plain = ((omega arith, (omega arith, (omega arith, (omega arith, (omega arith, (omega arith, (omega arith, tt))))))), ((omega arith, tt), tt))

module _ (ed : Edition) (s : List ℕ) (rest : List ℕ) (network : ed.sizing ≡ Reserved) (digit : ed.digit ≡ 49)
    (here : drop 0 s ≡ row heading ++ (10 ∷ rest)) where
  pub below_the_heading : drop (0 + length (row heading) + 1) s ≡ rest
  below_the_heading = rest-is s 0 (row heading) rest (row_no_end heading heading-plain) here

-- ---- names

-- the names read so far are those of sites 1, 2, ..
abbrev pub NamesAre : List ℕ → List (ℕ × ℕ) → Type 0
NamesAre s names = (i : ℕ) → i < length names → name_at s names i ≡ site_name (suc i)

module _ (s : List ℕ) (names : List (ℕ × ℕ)) (N : NamesAre s names) where
  -- and one that is not given is not
  pub a_new_name_is_absent : (v : ℕ) → length names < v → lookup s names (site_name v) ≡ None
  a_new_name_is_absent v h = by (lookup s names (site_name v)) (lookup_says s (site_name v) names 1)
    where
      by : (w : Option ℕ) → Says s names 1 (site_name v) w → w ≡ None
      by (Some u) e = let z = names_tell_sites (suc e.0) v (rw (N e.0 e.2) at e.3) in absurd (omega (arith, e.2))
      by None e = refl

  -- one name more
  pub one_name_more : (r : ℕ × ℕ) → part s r ≡ site_name (suc (length names)) → NamesAre s (names ++ (r ∷ []))
  one_name_more r e i l = cases (dec_lt i (length names))
      (λ h. ap (part s) (get_or-append names (r ∷ []) (0, 0) i h) ∙ N i h)
      (λ h. let last : i ≡ length names = omega (arith, length-append names (r ∷ [])) in
      rw last (ap (part s) (get_or_at names r [] (0, 0) (length names) refl) ∙ e))
