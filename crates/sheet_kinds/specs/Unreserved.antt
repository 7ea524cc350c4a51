-- Lines from before Card 5: a link line has four fields, its capacity is its size, and a site line has the letter `N`. Document 02, Card 5 ("may carry a
-- fifth field"). A line that is no link line of five fields was the same up to Card 7: by the count of its fields, and since no digits have the value 0.
use Rattle.std.specs.Prelude.{Bool, true, false, cond, List, ◌≢◌, ◌≡◌, refl, ℕ, ◌+◌, ◌<◌, leb, length, Ok, Err, Result}
use Rattle.std.proofs.Common.{⊎_elim, sym, ◌∙◌, arith}
use Rattle.std.proofs.Math.Decide.{dec_le}
use Rattle.std.proofs.Math.Nat.{sub-zero}
use borrow.Author.Tests.{le-leb, lt-leb}
use Rattle.lists.specs.Sums.{cases}
use Rattle.model.specs.Text.{bytes}
use Rattle.model.specs.declared.Edition.{Edition}
use Rattle.model.specs.declared.Sizing.TheVariants.{Reserved}
use Rattle.text_grammar.specs.declared.Form.{Form}
use Rattle.text_grammar.specs.Grammar.{Check}
use Rattle.text_grammar.specs.declared.Broken.TheVariants as check
use Rattle.sheet_kinds.specs.LineKinds.{same, fields, field, fault_of, link_form, judged, size, link_of, sized_link}
use Rattle.sheet_kinds.specs.LineKindLaws.{same_are_equal, no_fifth, capacity_cases}
use Rattle.sheet_kinds.specs.BareNames.{checked_bare, site_bare, link_bare, formed_are_counted}
use Rattle.sheet_kinds.specs.Unmarked.{kind_unmarked}
use Rattle.sheet_kinds.specs.declared.Line.{Line}
use Rattle.sheet_kinds.specs.declared.Line.TheVariants.{Link}

-- ---- the definitions

-- `L`, tab, name, tab, name, tab, size
abbrev pub link_form_before : Form
link_form_before = record { letter = 76; names = 2; least = 1; most = 1 }

-- a line of that form, or fault 3 where its size is above the limit
unfoldable pub sized_before : Edition → List (List ℕ) → Result Line ℕ
sized_before ed fs =
    let a = length (field fs 1) in
    let b = length (field fs 2) in
    cond (leb (size fs) ed.size) (Ok (Link 2 (2 + a) (3 + a) (3 + a + b) (size fs))) (Err 3)

-- what a line was
unfoldable pub kind_unreserved : Edition → List ℕ → Result Line ℕ
kind_unreserved ed l =
    let fs = fields l in
    cond (same (field fs 0) (bytes "L")) (judged (checked_bare link_form_before fs) (sized_before ed fs)) (site_bare 78 0 fs)

-- ---- the laws

-- a line that is not formed is its fault, whatever it would be
judged-alike : (c : Check) (v w : Result Line ℕ) → (c ≡ Ok tt → v ≡ w) → judged c v ≡ judged c w
unfolding judged fault_of
judged-alike (Ok tt) v w h = h refl
judged-alike (Err check.Letter) v w h = refl
judged-alike (Err check.Count) v w h = refl
judged-alike (Err check.Name) v w h = refl
judged-alike (Err check.Digits) v w h = refl
judged-alike (Err check.Number) v w h = refl

-- of network sheets alone: a link line of a range sheet came with Card 11
module _ (ed : Edition) (network : ed.sizing ≡ Reserved) (fs : List (List ℕ)) where
  -- a link line of at most four fields has its size for its capacity
  sized_as_before : length fs < 5 → sized_link ed fs ≡ sized_before ed fs
  unfolding sized_link sized_before
  sized_as_before h =
      let none = no_fifth fs h in
      rw network (capacity_cases (λ c. link_of (length (field fs 1)) (length (field fs 2)) c ≡ sized_before ed fs) Reserved ed.size (field fs 3) (field fs 4)
      (λ o. rw (lt-leb (size fs) ed.size (⊎_elim (λ p. p) (λ p. absurd (omega arith)) o)))
      (λ p q r. absurd (omega arith))
      (λ p q r. rw (le-leb (size fs) ed.size p, none, sub-zero (size fs))))

  -- and it is held against its form as it was; more than five fields are too many for either form
  counted_as_before : length fs ≢ 5 → checked_bare (link_form ed.sizing) fs ≡ checked_bare link_form_before fs
  unfolding checked_bare
  counted_as_before d = rw network (cases (dec_le (length fs) 4)
      (λ h. rw (le-leb (length fs) 5 (omega arith), le-leb (length fs) 4 h))
      (λ h. rw (lt-leb (length fs) 5 (omega (arith, d)), lt-leb (length fs) 4 (omega arith))))

  link_as_before : length fs ≢ 5 → link_bare ed fs ≡ judged (checked_bare link_form_before fs) (sized_before ed fs)
  unfolding link_bare
  link_as_before d =
      judged-alike (checked_bare (link_form ed.sizing) fs) (sized_link ed fs) (sized_before ed fs)
      (λ e. sized_as_before (omega (arith, d, (formed_are_counted (link_form ed.sizing) fs e).no_more)))
      ∙ rw (counted_as_before d)

-- a line that is no link line of five fields was the same up to Card 7
pub a_line_without_reserve_is_as_before : (ed : Edition) → ed.sizing ≡ Reserved → (l : List ℕ) → (field (fields l) 0 ≡ bytes "L" → length (fields l) ≢ 5)
    → kind_unreserved ed l ≡ kind_unmarked ed l
unfolding kind_unreserved kind_unmarked
a_line_without_reserve_is_as_before ed network l none = by (same (field (fields l) 0) (bytes "L")) refl
  where
    by : (u : Bool) → same (field (fields l) 0) (bytes "L") ≡ u → let fs = fields l in
        cond u (judged (checked_bare link_form_before fs) (sized_before ed fs)) (site_bare 78 0 fs)
        ≡ cond u (link_bare ed fs) (site_bare 78 0 fs)
    by true e = sym (link_as_before ed network (fields l) (none (same_are_equal _ _ e)))
    by false e = refl
