-- Card 14 over what is printed as the demands read it: by the numbers that sites and links have on the two sheets, matched by their names.
use mathlib.Core.List.{List, map}
use Rattle.std.proofs.Math.Logic.{inl, inr}
use Rattle.std.specs.Prelude.{◌≡◌, refl}
use Rattle.std.proofs.Common.{sym, ◌∙◌}
use Rattle.std.proofs.Math.Path.{subst}
use Prim.Native.Nat.{ℕ, zero, suc, ◌+◌, ◌≤◌, ◌<◌}
use native.Mathlib.Omega.{arith}
use Rattle.lists.specs.Numbers.{upfrom}
use Rattle.lists.specs.Sums.{same?, pick_same, pick_other}
use Rattle.model.specs.Flows.{Site, sites}
use Rattle.model.specs.declared.Edition.{Edition}
use Rattle.model.specs.declared.Sizing.TheVariants.{Reserved}
use Rattle.theory_shuffled.specs.Shuffled.{Stands}
use Rattle.sheet.specs.Sheet.{Network, accepted, read_sheet, edition_of}
use Rattle.sheet.specs.SheetTheorem.{an_accepted_sheet_is_a_tree}
use Rattle.sheet_records.specs.SameRecords.{SameRecords}
use Rattle.planner.specs.Figures.{Figures, halves}
use Rattle.planner.specs.Outcome.{number, planned}
use Rattle.demands.specs.Printed.{site_count, is_end, ends_among, EndSet, printed_by, printed_owner}
use Rattle.demands.specs.ReadBack.{figures_say}
use Rattle.demands.specs.Sets.{set_by, the_owner_told_is_the_owner}
use Rattle.demands.proofs.MetLaws.{the_plan_is_printed}
use Rattle.shuffled.specs.SameReports.{SameSite, EachIsThere, SamePrinted}
use Rattle.shuffled.proofs.Networks.{among-is-there}
use Rattle.shuffled.specs.Agree.{Agree}
use Rattle.shuffled.proofs.Agree.{the_halves_agree}
use Rattle.shuffled.proofs.Lines.{same-site-turned}
use Rattle.shuffled.proofs.ShuffledSheets.{each-is-among, each-is-among-turned}

-- ---- the sets told

module _ {A : Type 0} (end : ℕ → ℕ) (f : ℕ → A) where
  stands_told : (b n a : ℕ) → b ≤ a → a < b + n → end a ≡ 1 → Stands (f a) (map f (ends_among end (upfrom b n)))
  unfolding upfrom ends_among
  stands_told b zero a l h e = absurd (omega arith)
  stands_told b (suc n) a l h e = same? b a
      (λ z. rw (z, pick_same {A = List ℕ} e) (inl refl))
      (λ d. let k = stands_told (suc b) n a (omega arith) (omega arith) e in
      same? (end b) 1 (λ o. rw (pick_same {A = List ℕ} o) (inr k)) (λ o. rw (pick_other {A = List ℕ} o) k))

  told_stands : (b n : ℕ) (x : A) → Stands x (map f (ends_among end (upfrom b n))) → (a : ℕ) × (b ≤ a) × (a < b + n) × (end a ≡ 1) × (f a ≡ x)
  unfolding upfrom ends_among
  told_stands b zero x z = absurd z
  told_stands b (suc n) x z =
      let later : Stands x (map f (ends_among end (upfrom (suc b) n))) → (a : ℕ) × (b ≤ a) × (a < b + suc n) × (end a ≡ 1) × (f a ≡ x)
      = λ y. let k = told_stands (suc b) n x y in (k.0, omega (arith, k.1), omega (arith, k.2), k.3, k.4) in
      same? (end b) 1
      (λ o. elim (rw (pick_same {A = List ℕ} o) at z) [
        | inl e ↦ (b, omega arith, omega arith, o, e)
        | inr y ↦ later y
      ])
      (λ o. later (rw (pick_other {A = List ℕ} o) at z))

-- ---- what figures that agree say

module _ {s : List ℕ} {net : Network} {t : List ℕ} {other : Network} (A : EachIsThere s net t other) (B : EachIsThere t other s net)
    (f g : Figures) (G : Agree s net f t other g) (H : Agree t other g s net f) where
  owner-told : (net : Network) (f : Figures) (v : ℕ) → Site (site_count net) v → printed_owner (figures_say net f) v ≡ f.owner v
  unfolding figures_say
  owner-told net f v p = the_owner_told_is_the_owner (site_count net) f.owner v p

  sets_agree : (x : EndSet) → Stands x (figures_say net f).sets
      → (y : EndSet) × Stands y (figures_say other g).sets × SameSite s net t other x.end y.end × (x.size ≡ y.size) × (x.count ≡ y.count)
  unfolding figures_say
  sets_agree x z =
      let k = told_stands (is_end net) (set_by f) 1 (site_count net) x z in
      let a = k.0 in
      let o = A.sites a (omega (arith, k.1), omega (arith, k.2)) in
      let b = o.0 in
      let h = o.1 in
      let there : Stands (set_by g b) (map (set_by g) (ends_among (is_end other) (sites (site_count other))))
      = stands_told (is_end other) (set_by g) 1 (site_count other) b (omega (arith, h.there)) (omega (arith, h.there)) (sym (G.ends a b h) ∙ k.3) in
      subst (λ x. (y : EndSet) × Stands y (map (set_by g) (ends_among (is_end other) (sites (site_count other))))
      × SameSite s net t other x.end y.end × (x.size ≡ y.size) × (x.count ≡ y.count)) k.4
      (set_by g b, there, h, G.sizes a b h, G.counts a b h)

  figures_print_the_same : SamePrinted s net (figures_say net f) t other (figures_say other g)
  unfolding figures_say
  figures_print_the_same = record {
    there = A;
    back = B;
    total = G.totals;
    trimmed = G.shown;
    members = λ v w a b h k. (
      λ e. owner-told other g w h.there ∙ G.members v w a b h k (sym (owner-told net f v h.here) ∙ e),
      λ e. owner-told net f v h.here ∙ H.members w v b a (same-site-turned w v h) (same-site-turned b a k) (sym (owner-told other g w h.there) ∙ e),
    );
    sets = sets_agree;
  }

-- ---- Card 14

-- for two network sheets that hold the same records in different orders and two buffers for which planning tells success
pub shuffled_sheets_print_the_same : (known : List Edition) (s t b d : List ℕ) → (edition_of known s).sizing ≡ Reserved → (edition_of known t).sizing ≡ Reserved
    → (net other : Network) → read_sheet known s ≡ accepted net → read_sheet known t ≡ accepted other
    → number (planned known s b).outcome ≡ 0 → number (planned known t d).outcome ≡ 0 → SameRecords s t
    → SamePrinted s net (printed_by s net (planned known s b)) t other (printed_by t other (planned known t d))
shuffled_sheets_print_the_same known s t b d network network-other net other read read-other success success-other same =
    let N = an_accepted_sheet_is_a_tree (edition_of known s) s net read in
    let N' = an_accepted_sheet_is_a_tree (edition_of known t) t other read-other in
    let A = each-is-among known s t network network-other net other read read-other same in
    let B = each-is-among-turned known s t network network-other net other read read-other same in
    rw (the_plan_is_printed known s b net read success, the_plan_is_printed known t d other read-other success-other)
    (figures_print_the_same (among-is-there A) (among-is-there B) (halves net) (halves other) (the_halves_agree N N' A B) (the_halves_agree N' N B A))
