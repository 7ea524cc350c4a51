-- A range sheet read with its low sizes and with its high sizes (document 02, Card 11): both are refused alike, or give the same sites, marks and links, and no
-- low size is above its high one. By the lines, each of which adds the same but for the capacity.
use Rattle.std.specs.Prelude.{Option, Some, None, Ok, Err, Bool, cond, ◌&&◌, List, [], ◌∷◌, ◌++◌, ◌≡◌, ℕ, zero, suc, ◌+◌, ◌≤◌, eqb, leb, ltb, length, drop, Result}
use Rattle.std.proofs.Math.Bool.{true, false}
use Rattle.std.proofs.Math.Path.{refl}
use Rattle.std.proofs.Common.{ap, ◌∙◌, arith, length-append}
use Rattle.lists.specs.Numbers.{look}
use Rattle.model.specs.Edition.{ranges_low, ranges_high}
use Rattle.model.specs.Flows.{sites, joined}
use Rattle.text_lines.specs.Lines.{line_length, line_at, after_line, has_line}
use Rattle.sheet_kinds.specs.LineKinds.{is_heading}
use Rattle.sheet_kinds.specs.RangeLines.{LineAlike, kinds_alike}
use Rattle.sheet_kinds.specs.declared.Line.{Line}
use Rattle.sheet_kinds.specs.declared.Line.TheVariants as line
use Rattle.sheet.specs.Sheet.{Stepped, refusal, Network, empty, with_site, with_link, Read, refused, accepted}
use Rattle.sheet.specs.Sheet.{part, lookup, site_step, link_step, heading_step, record_step}
use Rattle.sheet.specs.Sheet.{step_of, added, read_line, and_then, read_lines, all_joined, finish, read_as}
use Rattle.sheet.specs.declared.stepping.Step.TheVariants.{Nothing, Site, Link}
use Rattle.sheet.specs.Ranges.{Ranged, ReadAlike, StepAlike}

-- one capacity more
appended_below : (p q : List ℕ) (c d : ℕ) → length q ≡ length p → ((j : ℕ) → look p j ≤ look q j) → c ≤ d
    → (j : ℕ) → look (p ++ (c ∷ [])) j ≤ look (q ++ (d ∷ [])) j
appended_below [] [] c d e below h zero = h
appended_below [] [] c d e below h (suc j) = omega arith
appended_below [] (y ∷ q) c d e below h j = absurd (omega arith)
appended_below (x ∷ p) [] c d e below h j = absurd (omega arith)
appended_below (x ∷ p) (y ∷ q) c d e below h zero = below 0
appended_below (x ∷ p) (y ∷ q) c d e below h (suc j) = appended_below p q c d (omega arith) (λ i. below (suc i)) h j

module _ (s : List ℕ) (a b : Network) (r : Ranged a b) (k at : ℕ) where
  same_step : (w : Stepped) → StepAlike w w
  same_step (Ok Nothing) = refl
  same_step (Ok (Site x e m)) = refl
  same_step (Ok (Link x y c)) = (c, refl, omega arith)
  same_step (Err why) = refl

  link-alike : (c d : ℕ) → c ≤ d → (u w : Option ℕ) → StepAlike (link_step k a.links c u w) (link_step k a.links d u w)
  unfolding link_step
  link-alike c d h None w = refl
  link-alike c d h (Some x) None = refl
  link-alike c d h (Some x) (Some y) = by (eqb (joined a.links x y) 1)
    where
      by : (t : Bool) → StepAlike (cond t (Err (refusal 7 k)) (Ok (Link x y c))) (cond t (Err (refusal 7 k)) (Ok (Link x y d)))
      by true = refl
      by false = (d, refl, h)

  record_alike : (v w : Result Line ℕ) → LineAlike v w → StepAlike (record_step ranges_low s a k at v) (record_step ranges_high s b k at w)
  unfolding record_step site_step
  record_alike (Ok (line.Site x e m)) w h = rw (h, r.names) (same_step (site_step ranges_low k (length a.names) (at + x, at + e) m (lookup s a.names
      (part s (at + x, at + e)))))
  record_alike (Ok (line.Link x e y f c)) w h = rw (h.1, r.names, r.links) (link-alike c h.0 h.2 _ _)
  record_alike (Err n) w h = rw h refl

  step_alike : StepAlike (step_of ranges_low s a k at) (step_of ranges_high s b k at)
  unfolding step_of heading_step is_heading
  step_alike = by (ltb (at + line_length (drop at s)) (length s)) (eqb k 1) _ _ _ (record_alike _ _ (kinds_alike (line_at s at)))
    where
      by : (t u : Bool) (x v w : Stepped) → StepAlike v w → StepAlike (cond t (cond u x v) (Err (refusal 2 k))) (cond t (cond u x w) (Err (refusal 2 k)))
      by true true x v w h = same_step x
      by true false x v w h = h
      by false u x v w h = refl

  added-alike : (v w : Stepped) → StepAlike v w → ReadAlike (added a v) (added b w)
  added-alike (Ok Nothing) w h = rw h (b, refl, r)
  added-alike (Ok (Site x e m)) w h = rw h (
    with_site b (x, e) m,
    refl,
    record {
      names = ap (λ l. l ++ ((x, e) ∷ [])) r.names;
      marks = ap (λ l. l ++ (m ∷ [])) r.marks;
      links = r.links;
      each = r.each;
      below = r.below;
    },
  )
  added-alike (Ok (Link x y c)) w h = rw h.1 (
    with_link b (x, y) h.0,
    refl,
    record {
      names = r.names;
      marks = r.marks;
      links = ap (λ l. l ++ ((x, y) ∷ [])) r.links;
      each = omega (arith, r.each, length-append a.capacities (c ∷ []), length-append b.capacities (h.0 ∷ []));
      below = appended_below a.capacities b.capacities c h.0 r.each r.below h.2;
    },
  )
  added-alike (Err why) w h = rw h refl

then_alike : (f g : Network → Read) → ((a b : Network) → Ranged a b → ReadAlike (f a) (g b)) → (v w : Read) → ReadAlike v w
    → ReadAlike (and_then v f) (and_then w g)
unfolding and_then
then_alike f g alike (refused n k) w h = rw h refl
then_alike f g alike (accepted a) w h = rw h.1 (alike a h.0 h.2)

lines-alike : (s : List ℕ) (fuel k at : ℕ) (a b : Network) → Ranged a b → ReadAlike (read_lines ranges_low s fuel k at a) (read_lines ranges_high s fuel k at b)
unfolding read_lines read_line
lines-alike s zero k at a b r = (b, refl, r)
lines-alike s (suc fuel) k at a b r = by (has_line s at) _ _
    (then_alike _ _ (lines-alike s fuel (suc k) (after_line s at)) _ _
    (added-alike s a b r k at (step_of ranges_low s a k at) (step_of ranges_high s b k at) (step_alike s a b r k at)))
  where
    by : (t : Bool) (v w : Read) → ReadAlike v w → ReadAlike (cond t v (accepted a)) (cond t w (accepted b))
    by true v w h = h
    by false v w h = (b, refl, r)

finish-alike : (a b : Network) → Ranged a b → ReadAlike (finish a) (finish b)
unfolding finish
finish-alike a b r = by (leb 2 (length a.names) && all_joined a.links (sites (length a.names))) _
    (ap (λ ns. leb 2 (length ns) && all_joined b.links (sites (length ns))) r.names
    ∙ ap (λ ls. leb 2 (length a.names) && all_joined ls (sites (length a.names))) r.links)
  where
    by : (t u : Bool) → u ≡ t → ReadAlike (cond t (accepted a) (refused 8 0)) (cond u (accepted b) (refused 8 0))
    by true u e = rw e (b, refl, r)
    by false u e = rw e refl

-- a range sheet is refused alike, or gives the same sites, marks and links, and no low size above its high one
pub a_range_sheet_is_read_alike : (s : List ℕ) → ReadAlike (read_as ranges_low s) (read_as ranges_high s)
unfolding read_as
a_range_sheet_is_read_alike s = by (leb 1 (length s) && leb (length s) ranges_low.bytes) _ _
    (then_alike finish finish finish-alike _ _ (lines-alike s (length s) 1 0 empty empty nothing))
  where
    nothing : Ranged empty empty
    nothing = record { names = refl; marks = refl; links = refl; each = refl; below = λ j. omega arith }

    by : (t : Bool) (v w : Read) → ReadAlike v w → ReadAlike (cond t v (refused 1 0)) (cond t w (refused 1 0))
    by true v w h = h
    by false v w h = refl
