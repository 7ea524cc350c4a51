-- Lines from before Card 7: a site line has the letter `N`, and `T` is no known letter. Document 02, Card 7 ("a site line with letter `T` in place of `N`").
-- A line that does not start with `T` was the same up to Card 9, and one that does had no known letter: by the first field.
use Rattle.std.specs.Prelude.{false, cond, List, ◌≢◌, ◌≡◌, refl, ℕ, Result, Err}
use Rattle.std.proofs.Math.Bool.{and-false}
use Rattle.model.specs.Text.{bytes}
use Rattle.model.specs.declared.Edition.{Edition}
use Rattle.model.specs.declared.Sizing.{Sizing}
use Rattle.model.specs.declared.Sizing.TheVariants.{Reserved, Low, High}
use Rattle.text_fields.specs.FieldLaws.{not_same}
use Rattle.sheet_kinds.specs.LineKinds.{same, fields, field, heading_word, is_heading, fault_of, judged}
use Rattle.sheet_kinds.specs.BareNames.{checked_bare, site_bare, link_bare, kind_bare}
use Rattle.sheet_kinds.specs.declared.Line.{Line}

-- what a line was: a link where the first field is `L`, else a site
unfoldable pub kind_unmarked : Edition → List ℕ → Result Line ℕ
kind_unmarked ed l =
    let fs = fields l in
    cond (same (field fs 0) (bytes "L")) (link_bare ed fs) (site_bare 78 0 fs)

module _ (ed : Edition) (l : List ℕ) where
  -- a line that does not start with `T` was the same up to Card 9
  pub a_line_without_mark_is_as_before : field (fields l) 0 ≢ bytes "T" → kind_unmarked ed l ≡ kind_bare ed l
  unfolding kind_unmarked kind_bare
  a_line_without_mark_is_as_before d = rw (not_same (field (fields l) 0) (bytes "T") d)

  -- a line that starts with `T` had no known letter
  pub a_marked_line_had_no_known_letter : field (fields l) 0 ≡ bytes "T" → kind_unmarked ed l ≡ Err 2
  unfolding kind_unmarked site_bare checked_bare same judged fault_of
  a_marked_line_had_no_known_letter e = rw e

-- and it was, and is, no heading
pub a_marked_line_is_no_heading : (ed : Edition) (l : List ℕ) → field (fields l) 0 ≡ bytes "T" → is_heading ed (fields l) ≡ false
unfolding is_heading same
a_marked_line_is_no_heading ed l e = rw (e, no_word ed.sizing, and-false)
  where
    no_word : (z : Sizing) → same (bytes "T") (heading_word z) ≡ false
    no_word Reserved = refl
    no_word Low = refl
    no_word High = refl
