-- Lines by another numbering of the form faults, all else being as before Card 9, and the numbering from before Card 1: 2 for each of them.
-- Document 02, Card 1 ("Refusal 2 covers too much"). What was 2 then is 2, 10, 11 or 12 since, and every other line stayed as it was: by the cases of a kind.
use Rattle.std.specs.Prelude.{Bool, true, false, cond, List, ◌≡◌, refl, ℕ, ◌+◌, eqb, length, Ok, Err, Result}
use Rattle.std.proofs.Common.{ap}
use Rattle.model.specs.Text.{bytes}
use Rattle.model.specs.declared.Edition.{Edition}
use Rattle.model.specs.declared.Sizing.{Sizing}
use Rattle.model.specs.declared.Sizing.TheVariants.{Reserved, Low, High}
pub use Rattle.text_grammar.specs.Grammar.{Check}
use Rattle.text_grammar.specs.declared.Broken.TheVariants.{Letter, Count, Name, Digits, Number}
use Rattle.sheet_kinds.specs.LineKinds.{same, fields, field, fault_of, plain_form, marked_form, link_form, judged, link_of, sized_link}
use Rattle.sheet_kinds.specs.LineKindLaws.{apart_is, capacity_cases}
use Rattle.sheet_kinds.specs.BareNames.{checked_bare, site_bare, link_bare, kind_bare}
use Rattle.sheet_kinds.specs.declared.Line.{Line}
use Rattle.sheet_kinds.specs.declared.Line.TheVariants.{Site}

-- ---- the definitions

-- a line that is formed, or its fault, by a numbering
unfoldable pub judged_by : (Check → ℕ) → Check → Result Line ℕ → Result Line ℕ
judged_by number c line = cond (eqb (number c) 0) line (Err (number c))

-- what a line was, by a numbering: `kindBare` is that by `faultOf`
unfoldable pub kind_by : (Check → ℕ) → Edition → List ℕ → Result Line ℕ
kind_by number ed l =
    let fs = fields l in
    cond (same (field fs 0) (bytes "L")) (judged_by number (checked_bare (link_form ed.sizing) fs) (sized_link ed fs))
    (cond (same (field fs 0) (bytes "T")) (judged_by number (checked_bare marked_form fs) (Ok (Site 2 (2 + length (field fs 1)) 1)))
    (judged_by number (checked_bare plain_form fs) (Ok (Site 2 (2 + length (field fs 1)) 0))))

-- the number from before Card 1, by today's: 2 for 10, 11 and 12; every other stays
unfoldable pub number_before : ℕ → ℕ
number_before n = cond (eqb n 10) 2 (cond (eqb n 11) 2 (cond (eqb n 12) 2 n))

-- the numbering from before Card 1 (01: 2, line of the wrong form); that a name is of digits alone was not found then (`checkedBare`)
unfoldable pub fault_before : Check → ℕ
fault_before c = number_before (fault_of c)

abbrev pub line_before : Result Line ℕ → Result Line ℕ
line_before (Ok w) = Ok w
line_before (Err n) = Err (number_before n)

-- ---- the laws

pub kind_is_by_the_numbering : (ed : Edition) (l : List ℕ) → kind_by fault_of ed l ≡ kind_bare ed l
unfolding kind_by judged_by kind_bare site_bare link_bare judged
kind_is_by_the_numbering ed l = refl

-- a line that is no fault of its form
judged-before : (c : Check) (w : Result Line ℕ) → line_before w ≡ w → judged_by fault_before c w ≡ line_before (judged c w)
unfolding judged_by judged fault_of fault_before number_before
judged-before (Ok u) w e = rw e
judged-before (Err Letter) w e = refl
judged-before (Err Count) w e = refl
judged-before (Err Name) w e = refl
judged-before (Err Digits) w e = refl
judged-before (Err Number) w e = refl

apart_stays : (z : Sizing) → number_before (apart_is z) ≡ apart_is z
unfolding number_before
apart_stays Reserved = refl
apart_stays Low = refl
apart_stays High = refl

sized_stays : (ed : Edition) (fs : List (List ℕ)) → line_before (sized_link ed fs) ≡ sized_link ed fs
unfolding sized_link number_before
sized_stays ed fs = capacity_cases (λ c. line_before (link_of one two c) ≡ link_of one two c) ed.sizing ed.size (field fs 3) (field fs 4) (λ o. refl)
    (λ a b h. ap Err (apart_stays ed.sizing)) (λ a b h. refl)
  where
    one : ℕ
    one = length (field fs 1)

    two : ℕ
    two = length (field fs 2)

pub a_line_is_as_before : (ed : Edition) (l : List ℕ) → kind_by fault_before ed l ≡ line_before (kind_bare ed l)
unfolding kind_by kind_bare site_bare link_bare
a_line_is_as_before ed l =
    by (same (field (fields l) 0) (bytes "L")) _ _ _ _
    (judged-before (checked_bare (link_form ed.sizing) (fields l)) (sized_link ed (fields l)) (sized_stays ed (fields l)))
    (by (same (field (fields l) 0) (bytes "T")) _ _ _ _
    (judged-before (checked_bare marked_form (fields l)) (Ok (Site 2 (2 + length (field (fields l) 1)) 1)) refl)
    (judged-before (checked_bare plain_form (fields l)) (Ok (Site 2 (2 + length (field (fields l) 1)) 0)) refl))
  where
    by : (t : Bool) (v w x y : Result Line ℕ) → v ≡ line_before w → x ≡ line_before y → cond t v x ≡ line_before (cond t w y)
    by true v w x y e f = e
    by false v w x y e f = f
