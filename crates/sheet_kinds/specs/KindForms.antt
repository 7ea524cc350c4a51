-- What a line of each kind is: the kind of a line is a site or a link just where its fields have that form; and its names are its
-- fields 1 and 2. By the first field, as the kind of a line is found.
use Rattle.std.specs.Prelude.{Bool, cond, List, ◌≡◌, ℕ, ◌+◌, ◌-◌, ◌≤◌, length, take, drop, Result, Ok, Err}
use Rattle.std.proofs.Math.Bool.{true, false}
use Rattle.std.proofs.Common.{inl, inr, ap, ◌∙◌, arith}
use Rattle.std.proofs.Math.Path.{refl}
use Rattle.model.specs.Text.{bytes}
use Rattle.model.specs.declared.Edition.{Edition}
use Rattle.model.specs.declared.Sizing.{Sizing}
use Rattle.text_grammar.specs.RuleLaws as rule
use Rattle.sheet_kinds.specs.LineKinds.{same, fields, field, checked, fault_of, plain_form, marked_form, link_form, IsSite, IsLink, judged}
use Rattle.sheet_kinds.specs.LineKinds.{site_line, mark, value, capacity, link_of, sized_link, link_line, kind_of, kind}
use Rattle.sheet_kinds.specs.LineKindLaws.{judged_cases, site_parts, one_letter, link_parts, Together, capacity_cases, else_is_usable}
use Rattle.sheet_kinds.specs.FormedLines.{part_of_field_1, part_of_field_2}
use Rattle.sheet_kinds.specs.FaultyLines.{kind_of_N, kind_of_T, kind_of_L}
use Rattle.sheet_kinds.specs.declared.Line.{Line}
use Rattle.sheet_kinds.specs.declared.Line.TheVariants.{Site, Link}

-- the line is a link whose numbers are within the limit and give a capacity: its reserve is not above its size, or its low size is not above its high one
pub record LinkWithin (ed : Edition) (l : List ℕ) : Type 0 where
  pub link : IsLink ed.sizing (fields l)
  pub within : value (field (fields l) 3) ≤ ed.size
  pub within2 : value (field (fields l) 4) ≤ ed.size
  pub together : Together ed.sizing (value (field (fields l) 3)) (value (field (fields l) 4))

module _ (l : List ℕ) where
  -- the name of a site, and the names of a link
  pub site_name_is_field_1 : IsSite (fields l) → take (2 + length (field (fields l) 1) - 2) (drop 2 l) ≡ field (fields l) 1
  site_name_is_field_1 h =
      let k = site_parts (fields l) h in
      part_of_field_1 l (omega (arith, k.count)) (one_letter (fields l) k)

  pub link_name_is_field_1 : (z : Sizing) → IsLink z (fields l) → take (2 + length (field (fields l) 1) - 2) (drop 2 l) ≡ field (fields l) 1
  link_name_is_field_1 z h =
      let k = link_parts z (fields l) h in
      part_of_field_1 l (omega (arith, k.enough)) (ap length k.letter)

  pub link_name_is_field_2 : (z : Sizing) → IsLink z (fields l) → let a = length (field (fields l) 1) in let b = length (field (fields l) 2) in
      take (3 + a + b - (3 + a)) (drop (3 + a) l) ≡ field (fields l) 2
  link_name_is_field_2 z h =
      let k = link_parts z (fields l) h in
      part_of_field_2 l (omega (arith, k.enough)) (ap length k.letter)

module _ (ed : Edition) (l : List ℕ) where
  -- what a kind tells of the line: its form, the places of its names, the mark of a site, and the capacity of a link
  abbrev pub Tells : Result Line ℕ → Type 0
  Tells (Ok (Site a e m)) = IsSite (fields l) × (Site a e m ≡ Site 2 (2 + length (field (fields l) 1)) (mark (fields l)))
  Tells (Ok (Link a e b f c)) =
      let one = length (field (fields l) 1) in
      let two = length (field (fields l) 2) in
      LinkWithin ed l × (Link a e b f c ≡ Link 2 (2 + one) (3 + one) (3 + one + two) (capacity ed.sizing (fields l)))
  Tells (Err n) = Unit {0}

  sized_tells : IsLink ed.sizing (fields l) → Tells (sized_link ed (fields l))
  unfolding sized_link
  sized_tells g = capacity_cases (λ c. Tells (link_of (length (field (fields l) 1)) (length (field (fields l) 2)) c)) ed.sizing ed.size
      (field (fields l) 3) (field (fields l) 4) (λ o. tt) (λ a b h. tt) (λ a b h. (record { link = g; within = a; within2 = b; together = h }, refl))

  link-tells : Tells (link_line ed (fields l))
  unfolding link_line
  link-tells = judged_cases Tells (checked (link_form ed.sizing) (fields l)) _ sized_tells (λ d. tt)

  site-tells : same (field (fields l) 0) (bytes "T") ≡ false → Tells (site_line 78 0 (fields l))
  unfolding site_line mark
  site-tells e = judged_cases Tells (checked plain_form (fields l)) _ (λ g. (inl g, rw e)) (λ d. tt)

  marked-tells : same (field (fields l) 0) (bytes "T") ≡ true → Tells (site_line 84 1 (fields l))
  unfolding site_line mark
  marked-tells e = judged_cases Tells (checked marked_form (fields l)) _ (λ g. (inr g, rw e)) (λ d. tt)

  -- the kind of a line tells its form
  pub a_kind_tells_its_form : Tells (kind ed l)
  unfolding kind kind_of
  a_kind_tells_its_form = by (same (field (fields l) 0) (bytes "L")) (same (field (fields l) 0) (bytes "T")) refl
    where
      by : (u v : Bool) → same (field (fields l) 0) (bytes "T") ≡ v → let fs = fields l in
          Tells (cond u (link_line ed fs) (cond v (site_line 84 1 fs) (site_line 78 0 fs)))
      by true v f = link-tells
      by false true f = marked-tells f
      by false false f = site-tells f

  -- and the form its kind
  pub a_site_by_its_form : IsSite (fields l) → kind ed l ≡ Ok (Site 2 (2 + length (field (fields l) 1)) (mark (fields l)))
  unfolding site_line judged fault_of mark same
  a_site_by_its_form (inl e) = let n = (rule.a_formed_line_keeps_the_rules plain_form (fields l) e).counted.letter in kind_of_N ed l n ∙ rw (e, n)
  a_site_by_its_form (inr e) = let t = (rule.a_formed_line_keeps_the_rules marked_form (fields l) e).counted.letter in kind_of_T ed l t ∙ rw (e, t)

  pub a_link_by_its_form : LinkWithin ed l → let a = length (field (fields l) 1) in let b = length (field (fields l) 2) in
      kind ed l ≡ Ok (Link 2 (2 + a) (3 + a) (3 + a + b) (capacity ed.sizing (fields l)))
  unfolding link_line judged fault_of sized_link
  a_link_by_its_form h =
      kind_of_L ed l (link_parts ed.sizing (fields l) h.link).letter
      ∙ rw (h.link, else_is_usable ed.sizing ed.size (field (fields l) 3) (field (fields l) 4) h.within h.within2 h.together)
