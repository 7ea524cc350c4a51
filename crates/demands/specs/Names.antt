-- The names of an accepted sheet, read back: a name leads to its own site, `-` to none, and a name holds no tab and no byte 10.
use Rattle.std.specs.Prelude.{Option, Some, None, ◌≡◌, Bool, true, false, cond, ◌&&◌, List, [], ◌∷◌, ℕ, ◌-◌, ◌≤◌, ◌<◌, leb, length, get_or}
use Rattle.std.proofs.Math.Path.{refl}
use Rattle.std.proofs.Common.{sym, ap, subst, true≢false, arith, leb-true}
use Rattle.std.proofs.Math.Decide.{dec_lt}
use Rattle.std.proofs.lemmas.Bool.{lt-leb}
use Rattle.model.specs.Flows.{Site}
use Rattle.model.specs.Text.{bytes}
use Rattle.model.specs.declared.Edition.{Edition}
use Rattle.lists.specs.Sums.{cases, contradiction}
use Rattle.text_fields.specs.Fields.{capitals, SameName}
use Rattle.sheet_kinds.specs.LineKinds.{all, is_letter_or_digit, is_name}
use Rattle.sheet_kinds.specs.LineKindLaws.{both}
use Rattle.sheet.specs.Sheet.{Network, lookup}
use Rattle.sheet_names.specs.Names.{name_at}
use Rattle.sheet_names.specs.LookupLaws.{Says, lookup_says}
use Rattle.sheet.specs.SheetTheorem.{IsNetwork}
use Rattle.planner.specs.Small.{name-or-nothing}
use Rattle.demands.specs.Printed.{site_found, site_named}
use Rattle.demands.specs.Parsing.{Plain}

-- ---- bytes of a name

letter_is_plain : (b : ℕ) → is_letter_or_digit b ≡ true → 45 ≤ b
letter_is_plain b e = cases (dec_lt b 45)
    (λ l. contradiction (cc (lt-leb 65 b (omega arith), lt-leb 97 b (omega arith), lt-leb 48 b (omega arith))))
    (λ l. omega arith)

letters_are_plain : (f : List ℕ) → all is_letter_or_digit f ≡ true → Plain f
unfolding all
letters_are_plain [] e = tt
letters_are_plain (b ∷ f) e = let h = both (is_letter_or_digit b) (all is_letter_or_digit f) e in (letter_is_plain b h.0, letters_are_plain f h.1)

a-name-is-plain : (f : List ℕ) → is_name f ≡ true → Plain f
unfolding is_name
a-name-is-plain f e = letters_are_plain f (both (leb 1 (length f) && leb (length f) 12) (all is_letter_or_digit f) e).1

-- no name is the same as `-`
not-dash : (f : List ℕ) → is_name f ≡ true → ¬ (SameName f (bytes "-"))
unfolding is_name all capitals
not-dash [] e z = true≢false (sym e)
not-dash (b ∷ f) e z = by (leb 97 b && leb b 122) refl (ap (λ l. get_or l 0 0) z)
    (both (is_letter_or_digit b) (all is_letter_or_digit f) (both (leb 1 (length (b ∷ f)) && leb (length (b ∷ f)) 12) (all is_letter_or_digit (b ∷ f)) e).1).0
  where
    by : (t : Bool) → (leb 97 b && leb b 122) ≡ t → cond t (b - 32) b ≡ 45 → is_letter_or_digit b ≡ true → ⊥
    by true q h letter = omega (arith, leb-true 97 b (both (leb 97 b) (leb b 122) q).0)
    by false q h letter = true≢false (sym (subst (λ x. is_letter_or_digit x ≡ true) h letter))

-- ---- names of sites

module _ {ed : Edition} {s : List ℕ} {net : Network} (N : IsNetwork ed s net) where
  -- no two sites have the same name
  one-site : (i j : ℕ) → i < length net.names → j < length net.names → SameName (name_at s net.names i) (name_at s net.names j) → i ≡ j
  one-site i j l k e = cases (dec_lt i j)
      (λ h. absurd (N.different j k i h e))
      (λ h. cases (dec_lt j i) (λ g. absurd (N.different i l j g (sym e))) (λ g. omega arith))

  -- the name of a site leads to the site
  pub name_read_back : (v : ℕ) → Site (length net.names) v → site_named s net (name_at s net.names (v - 1)) ≡ v
  unfolding site_named site_found
  name_read_back v p = by (lookup s net.names (name_at s net.names (v - 1))) (lookup_says s (name_at s net.names (v - 1)) net.names 1)
    where
      by : (w : Option ℕ) → Says s net.names 1 (name_at s net.names (v - 1)) w → site_found w ≡ v
      by (Some u) h = omega (arith, one-site h.0 (v - 1) h.2 (omega arith) h.3)
      by None h = absurd (h (v - 1) (omega arith) refl)

  -- `-` leads to none
  pub dash_read_back : site_named s net (bytes "-") ≡ 0
  unfolding site_named site_found
  dash_read_back = by (lookup s net.names (bytes "-")) (lookup_says s (bytes "-") net.names 1)
    where
      by : (w : Option ℕ) → Says s net.names 1 (bytes "-") w → site_found w ≡ 0
      by (Some u) h = absurd (not-dash (name_at s net.names h.0) (N.names h.0 h.2).name h.3)
      by None h = refl

  pub site-name-is-plain : (v : ℕ) → Plain (name_at s net.names (v - 1))
  site-name-is-plain = name-or-nothing N Plain a-name-is-plain tt
