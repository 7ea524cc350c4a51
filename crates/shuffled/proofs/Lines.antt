-- The lines of the reports on two sheets whose figures agree: each `L`, `N` and `X` line of the one has its like in the other, and none stands twice.
use mathlib.Core.List.{List, [], ◌∷◌, map, flat_map}
use Rattle.std.proofs.Math.Logic.{inl, inr}
use Rattle.std.specs.Prelude.{◌≡◌, refl, length}
use Rattle.std.proofs.Common.{sym, ap, subst, ◌∙◌}
use Prim.Native.Nat.{ℕ, zero, suc, ◌+◌, ◌≤◌, ◌<◌}
use native.Mathlib.Omega.{arith}
use Rattle.std.proofs.lemmas.List.{length-map}
use Rattle.std.proofs.Math.ListN.{get_or-map}
use Rattle.lists.specs.Numbers.{pick, look, upfrom}
use Rattle.lists.specs.Sums.{same?, pick_same, pick_other}
use Rattle.model.specs.Flows.{Site, one, two}
use Rattle.model.specs.Text.{bytes}
use Rattle.model.specs.declared.Edition.{Edition}
use Rattle.text_fields.specs.Fields.{SameName}
use Rattle.text_records.specs.Records.{Record, records}
use Rattle.theory_trees.proofs.Sites.{look-site}
use Rattle.theory_regions.specs.SharingLaws.{no_double_link}
use Rattle.theory_shuffled.specs.Shuffled.{Stands, Shuffled}
use Rattle.theory_shuffled.specs.ShuffledLaws.{Apart, same_once_is_shuffled}
use Rattle.sheet.specs.Sheet.{Network}
use Rattle.sheet.specs.SheetTheorem.{IsNetwork}
use Rattle.sheet_records.proofs.RecordLaws.{names_turned, names_chained}
use Rattle.sheet_records.specs.SameRecords.{name_on}
use Rattle.report.specs.Report.{decimal, owner_name, Plan, report_of}
use Rattle.planner.specs.Figures.{Figures, plan_showing, Showable}
use Rattle.demands.specs.Printed.{site_count, is_end, headed}
use Rattle.demands.specs.Records.{link_fields, site_fields, cut_fields, link-lines, site-lines, cut-lines}
use Rattle.demands.specs.Names.{name_read_back, site-name-is-plain}
use Rattle.shuffled.specs.SameReports.{SameLinkLine, SameSiteLine, SameSetLine, SameSite, SameLink, EachIsThere}
use Rattle.shuffled.proofs.Networks.{site_of_the_name}
use Rattle.shuffled.specs.Agree.{Agree}
use Rattle.shuffled.specs.Lines.{stands_mapped, mapped_stands}

-- ---- lists made place by place
module _ {A : Type 0} (f : ℕ → A) where
  apart_mapped : (Same : A → A → Type 0) (b n : ℕ) → ((i j : ℕ) → b ≤ i → i < j → j < b + n → ¬ (Same (f i) (f j))) → Apart Same (map f (upfrom b n))
  unfolding upfrom
  apart_mapped Same b zero h = tt
  apart_mapped Same b (suc n) h = (
    λ q z s. let k = mapped_stands f (suc b) n q z in h b k.0 (omega arith) k.1 (omega (arith, k.2)) (subst (Same (f b)) (sym k.3) s),
    apart_mapped Same (suc b) n (λ i j l p d. h i j (omega arith) p (omega arith)),
  )

  -- of some places alone, those where g is 1
  module _ (g : ℕ → ℕ) where
    abbrev picked : ℕ → ℕ → List A
    picked b n = flat_map (λ a. pick (g a) 1 (f a ∷ []) []) (upfrom b n)

    stands-picked : (b n i : ℕ) → b ≤ i → i < b + n → g i ≡ 1 → Stands (f i) (picked b n)
    unfolding upfrom flat_map
    stands-picked b zero i l h e = absurd (omega arith)
    stands-picked b (suc n) i l h e = same? b i
        (λ z. rw (z, pick_same {A = List A} e) (inl refl))
        (λ d. let k = stands-picked (suc b) n i (omega arith) (omega arith) e in
        same? (g b) 1 (λ o. rw (pick_same {A = List A} o) (inr k)) (λ o. rw (pick_other {A = List A} o) k))

    picked-stands : (b n : ℕ) (q : A) → Stands q (picked b n) → (i : ℕ) × (b ≤ i) × (i < b + n) × (g i ≡ 1) × (f i ≡ q)
    unfolding upfrom flat_map
    picked-stands b zero q z = absurd z
    picked-stands b (suc n) q z =
        let later : Stands q (picked (suc b) n) → (i : ℕ) × (b ≤ i) × (i < b + suc n) × (g i ≡ 1) × (f i ≡ q)
        = λ y. let k = picked-stands (suc b) n q y in (k.0, omega (arith, k.1), omega (arith, k.2), k.3, k.4) in
        same? (g b) 1
        (λ o. elim (rw (pick_same {A = List A} o) at z) [
          | inl e ↦ (b, omega arith, omega arith, o, e)
          | inr y ↦ later y
        ])
        (λ o. later (rw (pick_other {A = List A} o) at z))

    apart-picked : (Same : A → A → Type 0) (b n : ℕ) → ((i j : ℕ) → b ≤ i → i < j → j < b + n → ¬ (Same (f i) (f j))) → Apart Same (picked b n)
    unfolding upfrom flat_map
    apart-picked Same b zero h = tt
    apart-picked Same b (suc n) h =
        let rest = apart-picked Same (suc b) n (λ i j l p d. h i j (omega arith) p (omega arith)) in
        same? (g b) 1
        (λ o. rw (pick_same {A = List A} o) (
          λ q z s. let k = picked-stands (suc b) n q z in h b k.0 (omega arith) k.1 (omega (arith, k.2)) (subst (Same (f b)) (sym k.4) s),
          rest,
        ))
        (λ o. rw (pick_other {A = List A} o) rest)

-- ---- the lines of a report
module _ {ed : Edition} {s : List ℕ} {net : Network} (N : IsNetwork ed s net) (f : Figures) (h : Showable net f) where
  abbrev p : Plan
  p = plan_showing net s f

  abbrev link_shown : ℕ → Record
  link_shown i = bytes "L" ∷ name_on s net (one net.links i) ∷ name_on s net (two net.links i) ∷ decimal (look net.capacities i)
      ∷ decimal (look f.shown i) ∷ []

  abbrev site_shown : ℕ → Record
  site_shown x = bytes "N" ∷ name_on s net x ∷ owner_name (name_on s net) (f.owner x) ∷ []

  abbrev set_shown : ℕ → Record
  set_shown a = bytes "X" ∷ name_on s net a ∷ decimal (f.size a) ∷ decimal (f.count a) ∷ []

  link-shown : (i : ℕ) → link_fields p i ≡ link_shown i
  link-shown i = rw (get_or-map (λ r. r.0) net.links i (0, 0), get_or-map (λ r. r.1) net.links i (0, 0))

  site-shown : (x : ℕ) → Site (site_count net) x → site_fields p x ≡ site_shown x
  site-shown x q = rw (look-site f.owner (site_count net) x q)

  set-shown : (x : ℕ) → Site (site_count net) x → cut_fields p x ≡ set_shown x
  set-shown x q = rw (look-site f.size (site_count net) x q, look-site f.count (site_count net) x q)

  -- the lines of each letter
  abbrev rows : List ℕ → List Record
  rows k = headed k (records (report_of p))

  link-rows : rows (bytes "L") ≡ map (link_fields p) (upfrom 0 (length net.links))
  link-rows = link-lines p f.pieces h.long h.plain refl (site-name-is-plain N) ∙ rw (length-map net.links (λ r. r.0))

  site-rows : rows (bytes "N") ≡ map (site_fields p) (upfrom 1 (site_count net))
  site-rows = site-lines p f.pieces h.long h.plain refl (site-name-is-plain N)

  set-rows : rows (bytes "X") ≡ flat_map (λ a. pick (is_end net a) 1 (cut_fields p a ∷ []) []) (upfrom 1 (site_count net))
  set-rows = cut-lines p f.pieces h.long h.plain refl (site-name-is-plain N)

  -- each stands there, and no other
  link-line-there : (i : ℕ) → i < length net.links → Stands (link_shown i) (rows (bytes "L"))
  link-line-there i l = rw (link-rows, ← (link-shown i)) (stands_mapped (link_fields p) 0 (length net.links) i (omega arith) (omega arith))

  link_line_of : (q : Record) → Stands q (rows (bytes "L")) → (i : ℕ) × (i < length net.links) × (link_shown i ≡ q)
  link_line_of q z =
      let k = mapped_stands (link_fields p) 0 (length net.links) q (rw link-rows at z) in
      (k.0, omega (arith, k.2), sym (link-shown k.0) ∙ k.3)

  site-line-there : (x : ℕ) → Site (site_count net) x → Stands (site_shown x) (rows (bytes "N"))
  site-line-there x q = rw (site-rows, ← (site-shown x q)) (stands_mapped (site_fields p) 1 (site_count net) x (omega arith) (omega arith))

  site_line_of : (q : Record) → Stands q (rows (bytes "N")) → (x : ℕ) × Site (site_count net) x × (site_shown x ≡ q)
  site_line_of q z =
      let k = mapped_stands (site_fields p) 1 (site_count net) q (rw site-rows at z) in
      let w : Site (site_count net) k.0 = omega (arith, k.1, k.2) in
      (k.0, w, sym (site-shown k.0 w) ∙ k.3)

  set-line-there : (x : ℕ) → Site (site_count net) x → is_end net x ≡ 1 → Stands (set_shown x) (rows (bytes "X"))
  set-line-there x q e = rw (set-rows, ← (set-shown x q)) (stands-picked (cut_fields p) (is_end net) 1 (site_count net) x (omega arith) (omega arith) e)

  set_line_of : (q : Record) → Stands q (rows (bytes "X")) → (x : ℕ) × Site (site_count net) x × (is_end net x ≡ 1) × (set_shown x ≡ q)
  set_line_of q z =
      let k = picked-stands (cut_fields p) (is_end net) 1 (site_count net) q (rw set-rows at z) in
      let w : Site (site_count net) k.0 = omega (arith, k.1, k.2) in
      (k.0, w, k.3, sym (set-shown k.0 w) ∙ k.4)

  -- ---- no line stands twice

  name_once : (v w : ℕ) → Site (site_count net) v → Site (site_count net) w → SameName (name_on s net v) (name_on s net w) → v ≡ w
  name_once v w a b e = sym (name_read_back N v a) ∙ site_of_the_name {s = s} {net = net} N v w (record { here = a; there = b; name = e })

  link_once : (i j : ℕ) → i < length net.links → j < length net.links → SameLinkLine (link_shown i) (link_shown j) → i ≡ j
  link_once i j l k same =
      let a = N.tree.ends i l in
      let b = N.tree.ends j k in
      no_double_link N.tree i j (one net.links i) (two net.links i) l k (inl (refl, refl)) (elim same.names [
        | inl e ↦ inl (sym (name_once _ _ a.0 b.0 e.0), sym (name_once _ _ a.1 b.1 e.1))
        | inr e ↦ inr (sym (name_once _ _ a.1 b.0 e.1), sym (name_once _ _ a.0 b.1 e.0))
      ])

  link-lines-apart : Apart SameLinkLine (rows (bytes "L"))
  link-lines-apart = rw link-rows (apart_mapped (link_fields p) SameLinkLine 0 (length net.links)
      (λ i j l k d. rw (link-shown i, link-shown j) (λ same. omega (arith, link_once i j (omega arith) (omega arith) same))))

  site-lines-apart : Apart SameSiteLine (rows (bytes "N"))
  site-lines-apart = rw site-rows (apart_mapped (site_fields p) SameSiteLine 1 (site_count net)
      (λ i j l k d same. omega (arith, name_once i j (omega arith) (omega arith) same.site)))

  set-lines-apart : Apart SameSetLine (rows (bytes "X"))
  set-lines-apart = rw set-rows (apart-picked (cut_fields p) (is_end net) SameSetLine 1 (site_count net)
      (λ i j l k d same. omega (arith, name_once i j (omega arith) (omega arith) same.end)))

-- ---- lines that are the same, turned round and chained

link-line-turned : (l m : Record) → SameLinkLine l m → SameLinkLine m l
link-line-turned l m h = record { names = names_turned _ _ _ _ h.names; usable = sym h.usable; trimmed = sym h.trimmed }

link_line_chained : (l m n : Record) → SameLinkLine l m → SameLinkLine m n → SameLinkLine l n
link_line_chained l m n h k = record {
  names = names_chained _ _ _ _ _ _ h.names k.names;
  usable = h.usable ∙ k.usable;
  trimmed = h.trimmed ∙ k.trimmed;
}

site-line-turned : (l m : Record) → SameSiteLine l m → SameSiteLine m l
site-line-turned l m h = record { site = sym h.site; end = sym h.end }

site_line_chained : (l m n : Record) → SameSiteLine l m → SameSiteLine m n → SameSiteLine l n
site_line_chained l m n h k = record { site = h.site ∙ k.site; end = h.end ∙ k.end }

set-line-turned : (l m : Record) → SameSetLine l m → SameSetLine m l
set-line-turned l m h = record { end = sym h.end; size = sym h.size; count = sym h.count }

set_line_chained : (l m n : Record) → SameSetLine l m → SameSetLine m n → SameSetLine l n
set_line_chained l m n h k = record { end = h.end ∙ k.end; size = h.size ∙ k.size; count = h.count ∙ k.count }

-- ---- the lines of one report in the other
module _ {s : List ℕ} {net : Network} {t : List ℕ} {other : Network} where
  pub same-site-turned : (v w : ℕ) → SameSite t other s net w v → SameSite s net t other v w
  same-site-turned v w h = record { here = h.there; there = h.here; name = sym h.name }

  same-link-turned : (i j : ℕ) → SameLink t other s net j i → SameLink s net t other i j
  same-link-turned i j h = record {
    here = h.there;
    there = h.here;
    sites = elim h.sites [
      | inl e ↦ inl (same-site-turned _ _ e.0, same-site-turned _ _ e.1)
      | inr e ↦ inr (same-site-turned _ _ e.1, same-site-turned _ _ e.0)
    ];
  }

module _ {ed ed' : Edition} {s : List ℕ} {net : Network} {t : List ℕ} {other : Network} (N : IsNetwork ed s net) (N' : IsNetwork ed' t other)
    (A : EachIsThere s net t other) (B : EachIsThere t other s net) (f g : Figures) (h : Showable net f) (k : Showable other g)
    (G : Agree s net f t other g) where
  same-link-lines : (i j : ℕ) → SameLink s net t other i j → SameLinkLine (link_shown N f h i) (link_shown N' g k j)
  same-link-lines i j e = record {
    names = elim e.sites [ inl z ↦ inl (z.0.name, z.1.name) | inr z ↦ inr (z.0.name, z.1.name) ];
    usable = ap decimal (G.usable i j e);
    trimmed = ap decimal (G.shown i j e);
  }

  same-site-lines : (v w : ℕ) → SameSite s net t other v w → SameSiteLine (site_shown N f h v) (site_shown N' g k w)
  same-site-lines v w e = record { site = e.name; end = G.owners v w e }

  same-set-lines : (v w : ℕ) → SameSite s net t other v w → SameSetLine (set_shown N f h v) (set_shown N' g k w)
  same-set-lines v w e = record { end = e.name; size = ap decimal (G.sizes v w e); count = ap decimal (G.counts v w e) }

  abbrev here : List ℕ → List Record
  here = rows N f h

  abbrev there : List ℕ → List Record
  there = rows N' g k

  pub link_lines_are_shuffled : Shuffled SameLinkLine (here (bytes "L")) (there (bytes "L"))
  link_lines_are_shuffled =
      same_once_is_shuffled SameLinkLine link-line-turned link_line_chained _ _ (link-lines-apart N f h) (link-lines-apart N' g k)
      (λ q z. let a = link_line_of N f h q z in let o = A.links a.0 a.1 in (
        link_shown N' g k o.0,
        link-line-there N' g k o.0 o.1.there,
        subst (λ y. SameLinkLine y (link_shown N' g k o.0)) a.2 (same-link-lines a.0 o.0 o.1),
      ))
      (λ q z. let b = link_line_of N' g k q z in let o = B.links b.0 b.1 in (
        link_shown N f h o.0,
        link-line-there N f h o.0 o.1.there,
        subst (SameLinkLine (link_shown N f h o.0)) b.2 (same-link-lines o.0 b.0 (same-link-turned o.0 b.0 o.1)),
      ))

  pub site_lines_are_shuffled : Shuffled SameSiteLine (here (bytes "N")) (there (bytes "N"))
  site_lines_are_shuffled =
      same_once_is_shuffled SameSiteLine site-line-turned site_line_chained _ _ (site-lines-apart N f h) (site-lines-apart N' g k)
      (λ q z. let a = site_line_of N f h q z in let o = A.sites a.0 a.1 in (
        site_shown N' g k o.0,
        site-line-there N' g k o.0 o.1.there,
        subst (λ y. SameSiteLine y (site_shown N' g k o.0)) a.2 (same-site-lines a.0 o.0 o.1),
      ))
      (λ q z. let b = site_line_of N' g k q z in let o = B.sites b.0 b.1 in (
        site_shown N f h o.0,
        site-line-there N f h o.0 o.1.there,
        subst (SameSiteLine (site_shown N f h o.0)) b.2 (same-site-lines o.0 b.0 (same-site-turned o.0 b.0 o.1)),
      ))

  pub set_lines_are_shuffled : Shuffled SameSetLine (here (bytes "X")) (there (bytes "X"))
  set_lines_are_shuffled =
      same_once_is_shuffled SameSetLine set-line-turned set_line_chained _ _ (set-lines-apart N f h) (set-lines-apart N' g k)
      (λ q z. let a = set_line_of N f h q z in let o = A.sites a.0 a.1 in (
        set_shown N' g k o.0,
        set-line-there N' g k o.0 o.1.there (sym (G.ends a.0 o.0 o.1) ∙ a.2),
        subst (λ y. SameSetLine y (set_shown N' g k o.0)) a.3 (same-set-lines a.0 o.0 o.1),
      ))
      (λ q z. let b = set_line_of N' g k q z in let o = B.sites b.0 b.1 in
      let e = same-site-turned o.0 b.0 o.1 in (
        set_shown N f h o.0,
        set-line-there N f h o.0 o.1.there (G.ends o.0 b.0 e ∙ b.2),
        subst (SameSetLine (set_shown N f h o.0)) b.3 (same-set-lines o.0 b.0 e),
      ))
