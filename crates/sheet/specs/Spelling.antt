-- What Card 4 changed in reading (document 02): a sheet on which no two names differ in case alone is read as it was when names were looked up by
-- their bytes. By induction over the lines: the names that the lines above gave are those of site lines, so a name that is the same as one of
-- them has its bytes.
use Rattle.std.specs.Prelude.{Bool, true, false, List, [], ◌∷◌, ◌⊎◌, ◌≡◌, ℕ, suc, ◌+◌, ◌<◌, length, get_or, Result, Ok, Err}
use Rattle.std.proofs.Common.{true≢false, inl, inr, sym, ap, ◌∙◌, arith}
use Rattle.std.proofs.Math.Path.{refl, subst}
use Rattle.model.specs.declared.Edition.{Edition}
use Rattle.model.specs.declared.Sizing.{Sizing}
use Rattle.lists.specs.Numbers.{look}
use Rattle.text_lines.specs.Lines.{line_at}
use Rattle.text_fields.specs.Fields.{same, capitals, SameName, same_name}
use Rattle.text_fields.specs.FieldLaws.{same_are_equal, equal_are_same, not_same}
use Rattle.sheet_kinds.specs.LineKinds.{field, IsSite, IsLink, kind}
use Rattle.sheet_kinds.specs.KindForms.{Tells, a_kind_tells_its_form}
use Rattle.sheet_kinds.specs.declared.Line.{Line}
use Rattle.sheet_kinds.specs.declared.Line.TheVariants as line
use Rattle.sheet_names.specs.Names.{name_at}
use Rattle.sheet.specs.Sheet.{Network, record_step, step_of, read_as, part, lookup, lookup_from}
use Rattle.sheet.specs.Earlier.{lookup_bytes, lookup_bytes_from, record_by, step_by, read_as_by}
use Rattle.sheet.specs.Alike.{offset, placed, a_sheet_is_read_alike}
use Rattle.sheet.specs.Causes.{fields_at, Reached}
use Rattle.sheet.specs.CauseLaws.{first_name, second_name, a_site_is_looked_up_by_field_1, a_link_is_looked_up_by_field_1, a_link_is_looked_up_by_field_2}
use Rattle.sheet.specs.OwnLines.{OwnLine, own-lines}

-- ---- names on the lines of a sheet

-- f is the name of a site line
pub record SiteName (s f : List ℕ) : Type 0 where
  pub above : ℕ
  pub is-site : IsSite (fields_at s (offset s above))
  pub name : f ≡ field (fields_at s (offset s above)) 1

-- f is a name of a link line
pub record LinkName (s f : List ℕ) : Type 0 where
  pub above : ℕ
  pub sizing : Sizing
  pub is-link : IsLink sizing (fields_at s (offset s above))
  pub name : (f ≡ field (fields_at s (offset s above)) 1) ⊎ (f ≡ field (fields_at s (offset s above)) 2)

-- no two names of site lines differ in case alone, and the link lines spell them as the site lines do
abbrev pub SpeltAlike : List ℕ → Type 0
SpeltAlike s = (f g : List ℕ) → SiteName s f → SiteName s g ⊎ LinkName s g → SameName f g → f ≡ g

-- ---- look-ups

lookups_alike : (s f : List ℕ) (rs : List (ℕ × ℕ)) (k : ℕ) → ((i : ℕ) → i < length rs → SameName (name_at s rs i) f → name_at s rs i ≡ f)
    → lookup_bytes_from s rs k f ≡ lookup_from s rs k f
unfolding lookup_bytes_from lookup_from
lookups_alike s f [] k h = refl
lookups_alike s f (r ∷ rs) k h = rw (alike (same_name (part s r) f) refl, lookups_alike s f rs (suc k) (λ i l. h (suc i) (omega arith)))
  where
    alike : (t : Bool) → same_name (part s r) f ≡ t → same (part s r) f ≡ same_name (part s r) f
    alike true e = let alike = h 0 (omega arith) (same_are_equal (capitals (part s r)) (capitals f) e) in
        rw e (ap (λ g. same g f) alike ∙ equal_are_same f)
    alike false e = rw e (not_same (part s r) f (λ z. true≢false (sym (equal_are_same (capitals f)) ∙ ap (λ g. same_name g f) (sym z) ∙ e)))

-- ---- a line

module _ (ed : Edition) (s : List ℕ) (alike : SpeltAlike s) where
  module _ {k at : ℕ} {net : Network} (r : Reached ed s k at net) where
    -- a name of this line that is the same as one given above has its bytes
    given-alike : (f : List ℕ) → SiteName s f ⊎ LinkName s f → (i : ℕ) → i < length net.names → SameName (name_at s net.names i) f
        → name_at s net.names i ≡ f
    given-alike f on i l = alike (name_at s net.names i) f own on
      where
        line : OwnLine ed s i (get_or net.names i (0, 0)) (look net.marks i)
        line = (own-lines ed s r).1 i l

        own : SiteName s (name_at s net.names i)
        own =
            let p = placed (line).reached in
            record { above = p.0; is-site = rw (← p.2) (line).is-site; name = rw (← p.2) (line).name }

    found_alike : (q : ℕ × ℕ) → SiteName s (part s q) ⊎ LinkName s (part s q) → lookup_bytes s net.names (part s q) ≡ lookup s net.names (part s q)
    found_alike q on = lookups_alike s (part s q) net.names 1 (given-alike (part s q) on)

    -- the names of this line
    site-name : IsSite (fields_at s at) → SiteName s (part s (first_name s at))
    site-name is =
        let p = placed r in
        record { above = p.0; is-site = rw (← p.2) is; name = rw (← p.2) (a_site_is_looked_up_by_field_1 s at is) }

    link-names : IsLink ed.sizing (fields_at s at) → LinkName s (part s (first_name s at)) × LinkName s (part s (second_name s at))
    link-names is =
        let p = placed r in (
          record {
            above = p.0;
            sizing = ed.sizing;
            is-link = rw (← p.2) is;
            name = inl (rw (← p.2) (a_link_is_looked_up_by_field_1 s at
                ed.sizing is));
          },
          record {
            above = p.0;
            sizing = ed.sizing;
            is-link = rw (← p.2) is;
            name = inr (rw (← p.2) (a_link_is_looked_up_by_field_2 s at
                ed.sizing is));
          },
        )

    site-alike : IsSite (fields_at s at) → (m : ℕ) → let w = Ok (line.Site 2 (2 + length (field (fields_at s at) 1)) m) in
        record_by lookup_bytes ed s net k at w ≡ record_step ed s net k at w
    unfolding record_by record_step
    site-alike is m = rw (found_alike (first_name s at) (inl (site-name is)))

    link-alike : IsLink ed.sizing (fields_at s at) → (size : ℕ) → let one = length (field (fields_at s at) 1) in
        let w = Ok (line.Link 2 (2 + one) (3 + one) (3 + one + length (field (fields_at s at) 2)) size) in
        record_by lookup_bytes ed s net k at w ≡ record_step ed s net k at w
    unfolding record_by record_step
    link-alike is size =
        let names = link-names is in
        rw (found_alike (first_name s at) (inr names.0), found_alike (second_name s at) (inr names.1))

    record_alike : (w : Result Line ℕ) → Tells ed (line_at s at) w → record_by lookup_bytes ed s net k at w ≡ record_step ed s net k at w
    unfolding record_by record_step
    record_alike (Ok (line.Site a e m)) form =
        subst (λ w. record_by lookup_bytes ed s net k at (Ok w) ≡ record_step ed s net k at (Ok w)) (sym form.1) (site-alike form.0 _)
    record_alike (Ok (line.Link a e b f size)) form =
        subst (λ w. record_by lookup_bytes ed s net k at (Ok w) ≡ record_step ed s net k at (Ok w)) (sym form.1) (link-alike form.0.link _)
    record_alike (Err n) form = refl

    step_alike : step_by kind lookup_bytes ed s net k at ≡ step_of ed s net k at
    unfolding step_by step_of
    step_alike = rw (record_alike (kind ed (line_at s at)) (a_kind_tells_its_form ed (line_at s at)))

  -- a sheet on which no two names differ in case alone is read as it was
  pub a_sheet_spelt_alike_is_read_as_before : read_as_by kind lookup_bytes ed s ≡ read_as ed s
  a_sheet_spelt_alike_is_read_as_before = a_sheet_is_read_alike kind lookup_bytes ed s (λ k at net r. step_alike r)
