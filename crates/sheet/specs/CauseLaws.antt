-- A line is refused for its cause and for no other. One way by the cases of reading a line; the other cause by cause.
use Rattle.std.specs.Prelude.{Option, Some, None, Ok, Err, Bool, cond, List, ◌⊎◌, ◌≢◌, ◌≡◌, ℕ, ◌+◌, ◌-◌, ◌<◌, length, drop, Result}
use Rattle.std.proofs.Math.Bool.{true, false}
use Rattle.std.proofs.Math.Logic.{inl, inr}
use Rattle.std.proofs.Common.{⊎_elim, sym, ap, ◌∙◌, arith}
use Rattle.std.proofs.Math.Path.{refl, subst}
use Rattle.std.proofs.Math.Decide.{dec_lt}
use Rattle.std.proofs.Math.Dec.{eqb, leb, ltb}
use borrow.Author.Tests.{eqb-true, eqb-false, eq-eqb, leb-true, leb-false, le-leb, lt-leb, ltb-true, ltb-false}
use Rattle.model.specs.Flows.{joined}
use Rattle.model.specs.declared.Edition.{Edition}
use Rattle.model.specs.declared.Sizing.{Sizing}
use Rattle.lists.specs.Sums.{same?, cases, contradiction}
use Rattle.theory_trees.proofs.Labels.{joined_iff}
use Rattle.text_lines.specs.Lines.{line_length, line_at}
use Rattle.text_lines.specs.LineLaws.{length_of_line}
use Rattle.sheet_kinds.specs.LineKinds.{field, is_heading, mark, IsSite, IsLink, kind}
use Rattle.sheet_kinds.specs.FaultyLines as faulty
use Rattle.sheet_kinds.specs.FormedLines.{site_is_formed, link_is_formed}
use Rattle.sheet_kinds.specs.KindForms.{LinkWithin, Tells, a_kind_tells_its_form, a_site_by_its_form}
use Rattle.sheet_kinds.specs.KindForms.{a_link_by_its_form, site_name_is_field_1, link_name_is_field_1, link_name_is_field_2}
use Rattle.sheet_kinds.specs.declared.Line.{Line}
use Rattle.sheet_kinds.specs.declared.Line.TheVariants as line
use Rattle.sheet.specs.Sheet.{Stepped, refusal, Network, refused, part, lookup, site_by, site_step, link_step, heading_step, record_step, step_of, added, read_line}
use Rattle.sheet.specs.StepCases.{unended_step, first_step, later_step}
use Rattle.sheet.specs.declared.stepping.Step.TheVariants.{Nothing, Site, Link}
use Rattle.sheet_names.specs.LookupLaws.{Says, lookup_says}
use Rattle.sheet.specs.Sound.{Sound, part_of_line}
use Rattle.sheet.specs.Causes.{Named, NotGiven, Ended, Cause, unended, no_heading, no_letter, wrong_count, bad_name, bare_name, bad_number}
use Rattle.sheet.specs.Causes.{too_large, too_much_held, low-above-high, too_many, given, not-given, already_joined, fields_at}

-- ---- look-ups

-- what a look-up finds is the site of that name
abbrev pub Finds : List ℕ → List (ℕ × ℕ) → List ℕ → Option ℕ → Type 0
Finds s names f (Some v) = Named s names f v
Finds s names f None = NotGiven s names f

pub finds : (s f : List ℕ) (names : List (ℕ × ℕ)) → Finds s names f (lookup s names f)
finds s f names = by (lookup s names f) (lookup_says s f names 1)
  where
    by : (w : Option ℕ) → Says s names 1 f w → Finds s names f w
    by (Some v) h = let place : v - 1 ≡ h.0 = omega arith in record { site = omega arith; name = rw place h.3 }
    by None h = λ v n. h (v - 1) (omega (arith, n.site)) n.name

absent_is_not_given : (s f : List ℕ) (names : List (ℕ × ℕ)) → NotGiven s names f → lookup s names f ≡ None
absent_is_not_given s f names none = by (lookup s names f) (finds s f names)
  where
    by : (w : Option ℕ) → Finds s names f w → w ≡ None
    by (Some v) h = absurd (none v h)
    by None h = refl

module _ (ed : Edition) (s : List ℕ) (net : Network) (sound : Sound ed s net) where
  -- names being different, there is one site of a name
  one-site : (f : List ℕ) (u v : ℕ) → Named s net.names f u → Named s net.names f v → u < v → ⊥
  one-site f u v m n l = sound.different (v - 1) (omega (arith, n.site)) (u - 1) (omega (arith, m.site)) (m.name ∙ sym n.name)

  found_is_named : (f : List ℕ) (v : ℕ) → Named s net.names f v → lookup s net.names f ≡ Some v
  found_is_named f v n = by (lookup s net.names f) (finds s f net.names)
    where
      by : (w : Option ℕ) → Finds s net.names f w → w ≡ Some v
      by (Some u) h = same? u v (λ e. ap Some e) (λ d. absurd (⊎_elim (one-site f u v h n) (one-site f v u n h) (cases (dec_lt u v) inl (λ n. inr (omega arith)))))
      by None h = absurd (h v n)

-- ---- names on a line

module _ (s : List ℕ) (at : ℕ) where
  -- where the names of a site line and of a link line stand on the sheet
  abbrev pub first_name : ℕ × ℕ
  first_name = (at + 2, at + (2 + length (field (fields_at s at) 1)))

  abbrev pub second_name : ℕ × ℕ
  second_name = let a = length (field (fields_at s at) 1) in (at + (3 + a), at + (3 + a + length (field (fields_at s at) 2)))

  -- the part of the sheet that is looked up is that field
  pub a_site_is_looked_up_by_field_1 : IsSite (fields_at s at) → part s first_name ≡ field (fields_at s at) 1
  a_site_is_looked_up_by_field_1 h =
      let f = site_is_formed (line_at s at) 0 h 0 (omega arith) in
      part_of_line s at _ _ f.0 f.1 ∙ site_name_is_field_1 (line_at s at) h

  pub a_link_is_looked_up_by_field_1 : (z : Sizing) → IsLink z (fields_at s at) → part s first_name ≡ field (fields_at s at) 1
  a_link_is_looked_up_by_field_1 z h =
      let f = link_is_formed (line_at s at) 0 z h 0 (omega arith) in
      part_of_line s at _ _ f.0 f.1 ∙ link_name_is_field_1 (line_at s at) z h

  pub a_link_is_looked_up_by_field_2 : (z : Sizing) → IsLink z (fields_at s at) → part s second_name ≡ field (fields_at s at) 2
  a_link_is_looked_up_by_field_2 z h =
      let f = link_is_formed (line_at s at) 0 z h 0 (omega arith) in
      part_of_line s at _ _ f.2 f.3 ∙ link_name_is_field_2 (line_at s at) z h

-- ---- a refused line has a cause

module _ (ed : Edition) (s : List ℕ) (net : Network) (k at : ℕ) where
  -- a refusal is at its line and has its cause
  abbrev Right : Stepped → Type 0
  Right (Ok Nothing) = Unit {0}
  Right (Ok (Site a e m)) = Unit {0}
  Right (Ok (Link a b size)) = Unit {0}
  Right (Err r) = (r.line ≡ k) × Cause ed s net k at r.number

  -- the names of the line, as fields
  abbrev one : List ℕ
  one = field (fields_at s at) 1

  abbrev two : List ℕ
  two = field (fields_at s at) 2

  module _ (h : Ended s at) (d : k ≢ 1) where
    site_right : IsSite (fields_at s at) → (r : ℕ × ℕ) (m : ℕ) → part s r ≡ one
        → Right (site_step ed k (length net.names) r m (lookup s net.names (part s r)))
    unfolding site_step
    site_right is r m at_one = rw at_one (by (leb ed.sites (length net.names)) refl (lookup s net.names one) (finds s one net.names))
      where
        by : (t : Bool) → leb ed.sites (length net.names) ≡ t → (w : Option ℕ) → Finds s net.names one w → Right (cond t (Err (refusal 4 k)) (site_by k r m w))
        by true q w f = (refl, too_many h d is (leb-true _ _ q))
        by false q (Some v) f = (refl, given h d is (leb-false _ _ q) v f)
        by false q None f = tt

    link_right : LinkWithin ed (line_at s at) → (size : ℕ)
        → Right (link_step k net.links size (lookup s net.names one) (lookup s net.names two))
    unfolding link_step
    link_right is size = by (lookup s net.names one) (finds s one net.names) (lookup s net.names two) (finds s two net.names)
      where
        either : (v w : ℕ) → Named s net.names one v → Named s net.names two w
            → (t : Bool) → eqb (joined net.links v w) 1 ≡ t → Right (cond t (Err (refusal 7 k)) (Ok (Link v w size)))
        either v w p q true z = (refl, already_joined h d is v w p q ((joined_iff net.links v w).0 (eqb-true _ _ z)))
        either v w p q false z = tt

        by : (u : Option ℕ) → Finds s net.names one u → (w : Option ℕ) → Finds s net.names two w → Right (link_step k net.links size u w)
        by None p w q = (refl, not-given h d is (inl p))
        by (Some v) p None q = (refl, not-given h d is (inr q))
        by (Some v) p (Some w) q = either v w p q (eqb (joined net.links v w) 1) refl

    fault-right : (n : ℕ) → faulty.LineFault ed (line_at s at) n → Cause ed s net k at n
    fault-right n (faulty.no_letter f) = no_letter h d f
    fault-right n (faulty.wrong_count f) = wrong_count h d f
    fault-right n (faulty.bad_name f) = bad_name h d f
    fault-right n (faulty.bare_name f) = bare_name h d f
    fault-right n (faulty.bad_number f) = bad_number h d f
    fault-right n (faulty.too_large f) = too_large h d f
    fault-right n (faulty.too_much_held f) = too_much_held h d f
    fault-right n (faulty.low-above-high f) = low-above-high h d f

    record-right : (w : Result Line ℕ) → kind ed (line_at s at) ≡ w → Tells ed (line_at s at) w → Right (record_step ed s net k at w)
    unfolding record_step
    record-right (Ok (line.Site a e m)) is form =
        subst (λ w. Right (record_step ed s net k at (Ok w))) (sym form.1)
        (site_right form.0 (first_name s at) (mark (fields_at s at)) (a_site_is_looked_up_by_field_1 s at form.0))
    record-right (Ok (line.Link a e b f size)) is form =
        let g = form.0.link in
        subst (λ w. Right (record_step ed s net k at (Ok w))) (sym form.1)
        (rw (a_link_is_looked_up_by_field_1 s at ed.sizing g, a_link_is_looked_up_by_field_2 s at ed.sizing g) (link_right form.0 _))
    record-right (Err n) is form = (refl, fault-right n ((faulty.a_line_is_a_fault_just_for_its_cause ed (line_at s at) n).0 is))

  heading_right : Ended s at → k ≡ 1 → Right (heading_step ed (line_at s at))
  unfolding heading_step
  heading_right h e = by (is_heading ed (fields_at s at)) refl
    where
      by : (t : Bool) → is_heading ed (fields_at s at) ≡ t → Right (cond t (Ok Nothing) (Err (refusal 2 1)))
      by true is = tt
      by false is = (sym e, no_heading h e is)

  step_right : Right (step_of ed s net k at)
  unfolding step_of
  step_right =
      by (ltb (at + line_length (drop at s)) (length s)) refl (eqb k 1) refl (kind ed (line_at s at)) refl
      (a_kind_tells_its_form ed (line_at s at))
    where
      by : (t : Bool) → ltb (at + line_length (drop at s)) (length s) ≡ t → (u : Bool) → eqb k 1 ≡ u → (w : Result Line ℕ) → kind ed (line_at s at) ≡ w
          → Tells ed (line_at s at) w → Right (cond t (cond u (heading_step ed (line_at s at)) (record_step ed s net k at w)) (Err (refusal 2 k)))
      by false e u f w is form = (refl, unended (λ h. omega (arith, ltb-false (at + line_length (drop at s)) (length s) e, length_of_line s at)))
      by true e true f w is form =
          heading_right (omega (arith, ltb-true (at + line_length (drop at s)) (length s) e, length_of_line s at)) (eqb-true k 1 f)
      by true e false f w is form =
          record-right (omega (arith, ltb-true (at + line_length (drop at s)) (length s) e, length_of_line s at)) (eqb-false k 1 f) w is form

  pub a_refused_line_has_its_cause : (n m : ℕ) → read_line ed s net k at ≡ refused n m → (m ≡ k) × Cause ed s net k at n
  unfolding read_line
  a_refused_line_has_its_cause n m = by (step_of ed s net k at) step_right
    where
      by : (w : Stepped) → Right w → added net w ≡ refused n m → (m ≡ k) × Cause ed s net k at n
      by (Ok Nothing) h e = contradiction cc
      by (Ok (Site a b m)) h e = contradiction cc
      by (Ok (Link a b size)) h e = contradiction cc
      by (Err r) h e = let same : r.number ≡ n = cc in let here : r.line ≡ m = cc in (sym here ∙ h.0, rw (← same) h.1)

-- ---- a cause refuses its line

module _ (ed : Edition) (s : List ℕ) (net : Network) (k at : ℕ) where
  link-to-none : (size : ℕ) (u w : Option ℕ) → (u ≡ None) ⊎ (w ≡ None) → link_step k net.links size u w ≡ Err (refusal 6 k)
  unfolding link_step
  link-to-none size None w o = refl
  link-to-none size (Some a) None o = refl
  link-to-none size (Some a) (Some b) o = contradiction (⊎_elim (λ e. cc) (λ e. cc) o)

  -- a later line, by its kind
  later : Ended s at → k ≢ 1 → (w : Result Line ℕ) → kind ed (line_at s at) ≡ w → step_of ed s net k at ≡ record_step ed s net k at w
  later h d w is = later_step ed s net k at h d ∙ ap (record_step ed s net k at) is

  -- a line at fault by itself
  at_fault : Ended s at → k ≢ 1 → (n : ℕ) → faulty.LineFault ed (line_at s at) n → step_of ed s net k at ≡ Err (refusal n k)
  unfolding record_step
  at_fault h d n f = later h d _ ((faulty.a_line_is_a_fault_just_for_its_cause ed (line_at s at) n).1 f)

  step_of_a_cause : Sound ed s net → (n : ℕ) → Cause ed s net k at n → step_of ed s net k at ≡ Err (refusal n k)
  unfolding heading_step record_step site_step link_step
  step_of_a_cause sound n (unended h) = unended_step ed s net k at (omega arith)
  step_of_a_cause sound n (no_heading h e other) =
      first_step ed s net k at h e ∙ rw (other, e)
  step_of_a_cause sound n (no_letter h d f) = at_fault h d 2 (faulty.no_letter f)
  step_of_a_cause sound n (wrong_count h d f) = at_fault h d 10 (faulty.wrong_count f)
  step_of_a_cause sound n (bad_name h d f) = at_fault h d 11 (faulty.bad_name f)
  step_of_a_cause sound n (bare_name h d f) = at_fault h d 17 (faulty.bare_name f)
  step_of_a_cause sound n (bad_number h d f) = at_fault h d 12 (faulty.bad_number f)
  step_of_a_cause sound n (too_large h d f) = at_fault h d 3 (faulty.too_large f)
  step_of_a_cause sound n (too_much_held h d f) = at_fault h d 13 (faulty.too_much_held f)
  step_of_a_cause sound n (low-above-high h d f) = at_fault h d 19 (faulty.low-above-high f)
  step_of_a_cause sound n (too_many h d is l) = later h d _ (a_site_by_its_form ed (line_at s at) is) ∙ rw (le-leb _ _ l)
  step_of_a_cause sound n (given h d is l v f) =
      later h d _ (a_site_by_its_form ed (line_at s at) is)
      ∙ rw (lt-leb _ _ l, a_site_is_looked_up_by_field_1 s at is, found_is_named ed s net sound (field (fields_at s at) 1) v f)
  step_of_a_cause sound n (not-given h d is o) =
      let one = field (fields_at s at) 1 in
      let two = field (fields_at s at) 2 in
      later h d _ (a_link_by_its_form ed (line_at s at) is)
      ∙ rw (a_link_is_looked_up_by_field_1 s at ed.sizing is.link, a_link_is_looked_up_by_field_2 s at ed.sizing is.link)
      (link-to-none _ (lookup s net.names one) (lookup s net.names two)
      (⊎_elim (λ z. inl (absent_is_not_given s one net.names z)) (λ z. inr (absent_is_not_given s two net.names z)) o))
  step_of_a_cause sound n (already_joined h d is v w p q j) =
      later h d _ (a_link_by_its_form ed (line_at s at) is)
      ∙ rw (
        a_link_is_looked_up_by_field_1 s at ed.sizing is.link,
        a_link_is_looked_up_by_field_2 s at ed.sizing is.link,
        found_is_named ed s net sound (field (fields_at s at) 1) v p,
        found_is_named ed s net sound (field (fields_at s at) 2) w q,
        eq-eqb _ _ ((joined_iff net.links v w).1 j),
      )

  pub a_cause_refuses_its_line : Sound ed s net → (n : ℕ) → Cause ed s net k at n → read_line ed s net k at ≡ refused n k
  unfolding read_line
  a_cause_refuses_its_line sound n c = rw (step_of_a_cause sound n c)
