-- Two accepted sheets that hold the same records give one network, numbered in two ways: sites go by their names, and links by the names of their
-- sites, since a tree has no two links between the same sites.
use Rattle.std.specs.Prelude.{List, ◌≡◌, refl, ℕ, ◌-◌, ◌<◌}
use Rattle.std.proofs.Common.{inl, inr, sym, ◌∙◌}
use Rattle.std.proofs.Math.Decide.{dec_lt}
use Rattle.std.proofs.Math.ListN.{length}
use Rattle.lists.specs.Numbers.{look}
use Rattle.model.specs.Flows.{Site, one, two}
use Rattle.model.specs.declared.Edition.{Edition}
use Rattle.model.specs.declared.Sizing.TheVariants.{Reserved}
use Rattle.text_fields.specs.Fields.{SameName}
use Rattle.text_records.specs.Records.{Record}
use Rattle.sheet_kinds.specs.LineKinds.{field, IsSite, IsLink}
use Rattle.sheet.specs.Sheet.{Network}
use Rattle.sheet.specs.Causes.{Named}
use Rattle.sheet.specs.SheetTheorem.{IsNetwork}
use Rattle.sheet_records.specs.SameRecords.{name_on, SameRecord, same-site, same-link, records_of}
use Rattle.sheet_records.specs.RecordLaws.{a_site_is_no_link}
use Rattle.sheet_records.proofs.RecordLaws.{same-mark}
use Rattle.sheet_records.specs.Held.{SiteRecord, LinkRecord, Holds}
use Rattle.theory_regions.specs.JoinedTree.{Between}
use Rattle.theory_regions.specs.SharingLaws.{no_double_link}
use Rattle.theory_shuffled.specs.Matched.{Carries, Matched}
use Rattle.theory_shuffled.specs.Shuffled.{Stands}
use Rattle.demands.specs.Printed.{site_count}
use Rattle.shuffled.specs.SameReports.{SameSite, SameLink, EachIsThere}
use Rattle.shuffled.specs.Networks.{Among, found_by_name, site_to}

module _ (s : List ℕ) (net : Network) (t : List ℕ) (other : Network) where
  -- sites that answer to the same names have the same name
  same_answer : (f g : List ℕ) (v w : ℕ) → SameName f g → Named s net.names f v → Named t other.names g w → SameSite s net t other v w
  same_answer f g v w e h k = record { here = h.site; there = k.site; name = h.name ∙ e ∙ sym k.name }

  site-and-site : (v w : ℕ) (r q : Record) → SiteRecord s net v r → SiteRecord t other w q → SameRecord r q
      → SameSite s net t other v w × (look net.marks (v - 1) ≡ look other.marks (w - 1))
  site-and-site v w r q h k (same-site a b letter name) = (
    record { here = h.site; there = k.site; name = rw (h.name, k.name) name },
    h.marked ∙ same-mark r q letter ∙ sym k.marked,
  )
  site-and-site v w r q h k (same-link a b names size reserve) = absurd (a_site_is_no_link r h.is-site a)

  link-and-link : {ed ed' : Edition} (i j : ℕ) (r q : Record) → LinkRecord ed s net i r → LinkRecord ed' t other j q → SameRecord r q
      → SameLink s net t other i j × (look net.capacities i ≡ look other.capacities j)
  link-and-link i j r q h k (same-site a b letter name) = absurd (a_site_is_no_link r a h.is-link)
  link-and-link i j r q h k (same-link a b names size reserve) = (
    record {
      here = h.link;
      there = k.link;
      sites = elim names [
        | inl e ↦ inl (
          same_answer (field r 1) (field q 1) _ _ e.0 h.first k.first,
          same_answer (field r 2) (field q 2) _ _ e.1 h.second k.second,
        )
        | inr e ↦ inr (
          same_answer (field r 1) (field q 2) _ _ e.0 h.first k.second,
          same_answer (field r 2) (field q 1) _ _ e.1 h.second k.first,
        )
      ];
    },
    h.usable ∙ rw (size, reserve) (sym k.usable),
  )

  -- where each record of the one stands in the other, so does each site and link
  pub covered-is-among : {ed ed' : Edition} → Holds ed s (records_of s) net → Holds ed' t (records_of t) other
      → ((r : Record) → Stands r (records_of s) → (q : Record) × Stands q (records_of t) × SameRecord r q) → Among s net t other
  covered-is-among H K cover = record {
    sites = λ v p.
        let h = H.sites v p in
        let o = cover h.0 h.1 in
        elim (K.held o.0 o.1) [
          | inl k ↦ let same = site-and-site v k.0 h.0 o.0 h.2 k.1 o.2 in (k.0, same.0, same.1)
          | inr k ↦ absurd (site-and-link h.0 o.0 h.2.is-site k.1.is-link o.2)
        ];
    links = λ i l.
        let h = H.links i l in
        let o = cover h.0 h.1 in
        elim (K.held o.0 o.1) [
          | inl k ↦ absurd (link-and-site h.0 o.0 h.2.is-link k.1.is-site o.2)
          | inr k ↦ let same = link-and-link i k.0 h.0 o.0 h.2 k.1 o.2 in (k.0, same.0, same.1)
        ];
  }
    where
      site-and-link : (r q : Record) → IsSite r → IsLink Reserved q → SameRecord r q → ⊥
      site-and-link r q a b (same-site c d letter name) = a_site_is_no_link q d b
      site-and-link r q a b (same-link c d names size reserve) = a_site_is_no_link r a c

      link-and-site : (r q : Record) → IsLink Reserved r → IsSite q → SameRecord r q → ⊥
      link-and-site r q a b (same-site c d letter name) = a_site_is_no_link r c a
      link-and-site r q a b (same-link c d names size reserve) = a_site_is_no_link q b d

-- ---- where sites and links go

-- a choice for each place for which there is one
chosen : {P : Type 0} {Q : ℕ → Type 0} → Dec P → (P → (j : ℕ) × Q j) → ℕ
chosen (yes p) h = (h p).0
chosen (no p) h = 0

chosen_is : {P : Type 0} {Q : ℕ → Type 0} (d : Dec P) (h : P → (j : ℕ) × Q j) → P → Q (chosen {P = P} {Q = Q} d h)
unfolding chosen
chosen_is (yes p) h q = (h p).1
chosen_is (no p) h q = absurd (p q)

module _ {ed' : Edition} {s : List ℕ} {net : Network} {t : List ℕ} {other : Network} (N' : IsNetwork ed' t other) where
  pub site_of_the_name : (v w : ℕ) → SameSite s net t other v w → site_to s net t other v ≡ w
  site_of_the_name v w h = found_by_name t other N'.different (name_on s net v) w (record { site = h.there; name = sym h.name })

  -- a link joins the sites of its names
  pub same-link-joins : (i j : ℕ) → SameLink s net t other i j
      → Between other.links j (site_to s net t other (one net.links i)) (site_to s net t other (two net.links i))
  same-link-joins i j h = elim h.sites [
    | inl z ↦ inl (sym (site_of_the_name _ _ z.0), sym (site_of_the_name _ _ z.1))
    | inr z ↦ inr (sym (site_of_the_name _ _ z.1), sym (site_of_the_name _ _ z.0))
  ]

  module _ (A : Among s net t other) where
    -- link i of the sheet s with its place j on the sheet t
    abbrev Placed : ℕ → ℕ → Type 0
    Placed i j = SameLink s net t other i j × (look net.capacities i ≡ look other.capacities j)

    pub link_to : ℕ → ℕ
    link_to i = chosen {P = i < length net.links} {Q = Placed i} (dec_lt i (length net.links)) (λ l. let k = A.links i l in (k.0, (k.1, k.2)))

    pub link-to : (i : ℕ) → i < length net.links → SameLink s net t other i (link_to i) × (look net.capacities i ≡ look other.capacities (link_to i))
    unfolding link_to
    link-to i l = chosen_is {P = i < length net.links} {Q = Placed i} (dec_lt i (length net.links)) (λ l. let k = A.links i l in (k.0, (k.1, k.2))) l

    pub site-to : (v : ℕ) → Site (site_count net) v → SameSite s net t other v (site_to s net t other v)
        × (look net.marks (v - 1) ≡ look other.marks (site_to s net t other v - 1))
    site-to v p = let k = A.sites v p in rw (site_of_the_name v k.0 k.1) (k.1, k.2)

    is_carried : Carries net.links other.links (site_count net) (site_count other) (look net.capacities) (look other.capacities)
        (site_to s net t other) link_to
    is_carried = record {
      to-site = λ v p. (site-to v p).0.there;
      to-link = λ i l. (link-to i l).0.there;
      joins = λ i l. same-link-joins i (link_to i) (link-to i l).0;
      capacity = λ i l. (link-to i l).1;
    }

-- there and back
module _ {ed ed' : Edition} {s : List ℕ} {net : Network} {t : List ℕ} {other : Network} (N : IsNetwork ed s net) (N' : IsNetwork ed' t other)
    (A : Among s net t other) where
  site-again : (v : ℕ) → Site (site_count net) v → site_to t other s net (site_to s net t other v) ≡ v
  site-again v p =
      let h = (site-to N' A v p).0 in
      site_of_the_name {s = t} {net = other} N (site_to s net t other v) v (record { here = h.there; there = h.here; name = sym h.name })

  link-again : (i j k : ℕ) → SameLink s net t other i j → SameLink t other s net j k → k ≡ i
  link-again i j k p q =
      let ls = net.links in
      let e = N.tree.ends i p.here in
      let ex = site-again (one ls i) e.0 in
      let ey = site-again (two ls i) e.1 in
      let there = same-link-joins N' i j p in
      let back = same-link-joins N j k q in
      elim there [
        | inl b ↦ no_double_link N.tree k i (one ls i) (two ls i) q.there p.here (rw (b.0, b.1, ex, ey) at back) (inl (refl, refl))
        | inr b ↦ no_double_link N.tree k i (two ls i) (one ls i) q.there p.here (rw (b.0, b.1, ex, ey) at back) (inr (refl, refl))
      ]

-- the two networks are one, numbered in two ways
pub are_matched : {ed ed' : Edition} {s : List ℕ} {net : Network} {t : List ℕ} {other : Network} (N : IsNetwork ed s net) (N' : IsNetwork ed' t other)
    (A : Among s net t other) (B : Among t other s net)
    → Matched net.links other.links (site_count net) (site_count other) (look net.capacities) (look other.capacities)
    (site_to s net t other) (site_to t other s net) (link_to N' A) (link_to N B)
are_matched N N' A B = record {
  ends = N.tree.ends;
  ends' = N'.tree.ends;
  there = is_carried N' A;
  back = is_carried N B;
  site-there = site-again N N' A;
  site-back = site-again N' N B;
  link-there = λ i l.
      let j = link_to N' A i in
      let p = (link-to N' A i l).0 in
      link-again N N' A i j (link_to N B j) p (link-to N B j p.there).0;
  link-back = λ j l.
      let i = link_to N B j in
      let p = (link-to N B j l).0 in
      link-again N' N B j i (link_to N' A i) p (link-to N' A i p.there).0;
}

-- what is among a sheet is there
pub among-is-there : {s : List ℕ} {net : Network} {t : List ℕ} {other : Network} → Among s net t other → EachIsThere s net t other
among-is-there A = record { sites = λ v p. let k = A.sites v p in (k.0, k.1); links = λ i l. let k = A.links i l in (k.0, k.1) }
