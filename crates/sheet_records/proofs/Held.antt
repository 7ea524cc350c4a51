-- A network that holds a site for each site record and a link for each link record among some, and no other: with one more line it holds one more.
use Rattle.std.specs.Prelude.{List, [], ◌∷◌, ◌++◌, ◌≡◌, refl, ℕ, suc, ◌-◌, length}
use Rattle.std.proofs.Common.{inl, inr, sym, ap, subst, ◌∙◌, arith, length-append}
use Rattle.std.proofs.Math.ListN.{get_or-append}
use Rattle.std.proofs.Math.Seq.{get_or-append_seam}
use Rattle.lists.specs.Numbers.{look}
use Rattle.lists.specs.Sums.{same?}
use Rattle.model.specs.Flows.{Site, one, two}
use Rattle.model.specs.declared.Edition.{Edition}
use Rattle.model.specs.declared.Sizing.TheVariants.{Reserved}
use Rattle.text_records.specs.Records.{Record}
use Rattle.sheet_kinds.specs.LineKinds.{field, mark, size, reserve, capacity, IsSite, IsLink}
use Rattle.sheet_kinds.specs.LineKindLaws.{Together}
use Rattle.sheet.specs.Sheet.{Network, with_site, with_link}
use Rattle.sheet.specs.Causes.{Named, fields_at}
use Rattle.sheet.specs.CauseLaws.{first_name, a_site_is_looked_up_by_field_1}
use Rattle.sheet.specs.OwnLines.{IsLinkLine}
use Rattle.sheet_records.specs.SameRecords.{name_on}
use Rattle.theory_shuffled.specs.ShuffledLaws.{stands_front, stands_behind, stands_either}
use Rattle.sheet_records.specs.Held.{SiteRecord, LinkRecord, Holds}

-- ---- one more
module _ (ed : Edition) (s : List ℕ) (net : Network) where
  name_stays : (q : ℕ × ℕ) (m v : ℕ) → Site (length net.names) v → name_on s (with_site net q m) v ≡ name_on s net v
  name_stays q m v p = rw (get_or-append net.names (q ∷ []) (0, 0) (v - 1) (omega arith))

  named_stays : (q : ℕ × ℕ) (m : ℕ) (f : List ℕ) (v : ℕ) → Named s net.names f v → Named s (with_site net q m).names f v
  named_stays q m f v h = record {
    site = omega (arith, h.site, length-append net.names (q ∷ []));
    name = rw (name_stays q m v h.site) h.name;
  }

  pub site_stays : length net.marks ≡ length net.names → (q : ℕ × ℕ) (m v : ℕ) (r : Record) → SiteRecord s net v r → SiteRecord s (with_site net q m) v r
  site_stays e q m v r h = record {
    site = omega (arith, h.site, length-append net.names (q ∷ []));
    is-site = h.is-site;
    name = name_stays q m v h.site ∙ h.name;
    marked = get_or-append net.marks (m ∷ []) 0 (v - 1) (omega (arith, h.site)) ∙ h.marked;
  }

  link_stays : (q : ℕ × ℕ) (m j : ℕ) (r : Record) → LinkRecord ed s net j r → LinkRecord ed s (with_site net q m) j r
  link_stays q m j r h = record {
    link = h.link;
    is-link = h.is-link;
    within = h.within;
    held = h.held;
    first = named_stays q m (field r 1) _ h.first;
    second = named_stays q m (field r 2) _ h.second;
    usable = h.usable;
  }

  site-kept : (l : ℕ × ℕ) (c v : ℕ) (r : Record) → SiteRecord s net v r → SiteRecord s (with_link net l c) v r
  site-kept l c v r h = record { site = h.site; is-site = h.is-site; name = h.name; marked = h.marked }

  link-kept : length net.capacities ≡ length net.links → (l : ℕ × ℕ) (c j : ℕ) (r : Record)
      → LinkRecord ed s net j r → LinkRecord ed s (with_link net l c) j r
  link-kept paired l c j r h =
      let e = get_or-append net.links (l ∷ []) (0, 0) j h.link in
      record {
        link = omega (arith, h.link, length-append net.links (l ∷ []));
        is-link = h.is-link;
        within = h.within;
        held = h.held;
        first = rw (one, e) h.first;
        second = rw (two, e) h.second;
        usable = get_or-append net.capacities (c ∷ []) 0 j (omega (arith, h.link)) ∙ h.usable;
      }

  module _ (rs : List Record) (H : Holds ed s rs net) (at : ℕ) where
    abbrev here : Record
    here = fields_at s at

    -- the line is a site
    pub new_site : (is : IsSite here) → SiteRecord s (with_site net (first_name s at) (mark here)) (suc (length net.names)) here
    new_site is =
        let q = first_name s at in
        let n = length net.names in
        let place : suc n - 1 ≡ n = omega arith in
        record {
          site = omega (arith, length-append net.names (q ∷ []));
          is-site = is;
          name = rw (place, get_or-append_seam net.names q [] (0, 0)) (a_site_is_looked_up_by_field_1 s at is);
          marked = rw place (ap (λ i. look (net.marks ++ (mark here ∷ [])) i) (sym H.marks) ∙ get_or-append_seam net.marks (mark here) [] 0);
        }

    pub more_site : IsSite here → Holds ed s (rs ++ (here ∷ [])) (with_site net (first_name s at) (mark here))
    more_site is =
        let q = first_name s at in
        let m = mark here in
        let n = length net.names in
        let long = length-append net.names (q ∷ []) in
        let new = new_site is in
        record {
          sites = λ v p. same? v (suc n)
              (λ z. (here, stands_behind here rs (here ∷ []) (inl refl), rw z new))
              (λ d. let k = H.sites v (omega arith) in (k.0, stands_front k.0 rs (here ∷ []) k.1, site_stays H.marks q m v k.0 k.2));
          links = λ j l. let k = H.links j l in (k.0, stands_front k.0 rs (here ∷ []) k.1, link_stays q m j k.0 k.2);
          held = λ w o. elim (stands_either w rs (here ∷ []) o) [
            | inl p ↦ elim (H.held w p) [
              | inl k ↦ inl (k.0, site_stays H.marks q m k.0 w k.1)
              | inr k ↦ inr (k.0, link_stays q m k.0 w k.1)
            ]
            | inr z ↦ elim z [ inl e ↦ inl (suc n, subst (SiteRecord s (with_site net q m) (suc n)) e new) | inr f ↦ absurd f ]
          ];
          marks = omega (arith, H.marks, length-append net.marks (m ∷ []));
          capacities = H.capacities;
        }

    -- the line is a link, of a network sheet
    pub more_link : ed.sizing ≡ Reserved → (a b c : ℕ) → IsLinkLine ed s net.names at a b c → Holds ed s (rs ++ (here ∷ [])) (with_link net (a, b) c)
    more_link network a b c is =
        let k = length net.links in
        let long = length-append net.links ((a, b) ∷ []) in
        let seam = get_or-append_seam net.links (a, b) [] (0, 0) in
        let new : LinkRecord ed s (with_link net (a, b) c) k here = record {
          link = omega arith;
          is-link = subst (λ z. IsLink z here) network is.is-link.link;
          within = is.is-link.within;
          held = subst (λ z. Together z (size here) (reserve here)) network is.is-link.together;
          first = rw (one, seam) is.first;
          second = rw (two, seam) is.second;
          usable = ap (look (net.capacities ++ (c ∷ []))) (sym H.capacities) ∙ get_or-append_seam net.capacities c [] 0
              ∙ is.usable ∙ ap (λ z. capacity z here) network;
        } in
        record {
          sites = λ v p. let k = H.sites v p in (k.0, stands_front k.0 rs (here ∷ []) k.1, site-kept (a, b) c v k.0 k.2);
          links = λ j l. same? j k
              (λ z. (here, stands_behind here rs (here ∷ []) (inl refl), rw z new))
              (λ d. let h = H.links j (omega arith) in
              (h.0, stands_front h.0 rs (here ∷ []) h.1, link-kept H.capacities (a, b) c j h.0 h.2));
          held = λ w o. elim (stands_either w rs (here ∷ []) o) [
            | inl p ↦ elim (H.held w p) [
              | inl h ↦ inl (h.0, site-kept (a, b) c h.0 w h.1)
              | inr h ↦ inr (h.0, link-kept H.capacities (a, b) c h.0 w h.1)
            ]
            | inr z ↦ elim z [ inl e ↦ inr (k, subst (LinkRecord ed s (with_link net (a, b) c) k) e new) | inr f ↦ absurd f ]
          ];
          marks = H.marks;
          capacities = omega (arith, H.capacities, length-append net.capacities (c ∷ []));
        }
