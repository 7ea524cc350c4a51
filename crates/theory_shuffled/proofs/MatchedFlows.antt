-- Plans carried from one numbering of a network to the other: loads and totals stay, so the largest total is the same, among all plans and among those in
-- whole circuits, or of whatever kind. A chain of links stays a chain, so a link separates the same sites.
use mathlib.Core.List.{List, [], ◌∷◌}
use Rattle.std.specs.Prelude.{◌≢◌, ◌≡◌, length}
use Rattle.std.proofs.Math.Logic.{inl, inr}
use Rattle.std.proofs.Math.Path.{refl, sym, ap}
use Rattle.std.proofs.Common.{◌∙◌, arith}
use Prim.Native.Nat.{ℕ, ◌≤◌, ◌<◌}
use Rattle.lists.specs.Numbers.{count, Each}
use Rattle.model.specs.Flows.{Links, Site, one, two, side, separates, Route, Multiflow, load, total, Fits}
use Rattle.model.specs.declared.Pair.{Pair}
use Rattle.lists.specs.Sums.{same?, is_same}
use Rattle.theory_trees.specs.Trees.{side-link, separates-same, separates-le}
use Rattle.theory_trees.specs.Chains.{Chain}
use Rattle.theory_trees.proofs.Paths.{a-chain-without}
use Rattle.theory_shuffled.specs.Matched.{Matched, Largest}
use Rattle.theory_shuffled.proofs.MatchedLaws.{turned, terminals-turned, at_matched}
use Rattle.theory_shuffled.specs.MatchedFlows.{carry, carry_entry}

module _ {ls ms : Links} {n m : ℕ} {d c site site⁻ link link⁻ : ℕ → ℕ} (M : Matched ls ms n m d c site site⁻ link link⁻) where
  link_once : (i j : ℕ) → i < length ls → j < length ls → link i ≡ link j → i ≡ j
  link_once i j l k e = sym (M.link-there i l) ∙ ap link⁻ e ∙ M.link-there j k

  -- a chain without link i stays on one side of that link in the other numbering
  chain-side : (i : ℕ) → i < length ls → (a : ℕ) (js : List ℕ) (b : ℕ) → Chain ls a js b → count js i ≡ 0
      → side ms (link i) (site a) ≡ side ms (link i) (site b)
  unfolding count
  chain-side i l a [] b h z = ap (λ y. side ms (link i) (site y)) h
  chain-side i l a (j ∷ js) b h z =
      let other : j ≢ i = λ e. omega (arith, is_same e) in
      let f : ℕ → ℕ = side ms (link i) in
      let e = side-link ms (link j) (link i) (M.there.to-link j h.0) (λ q. other (link_once j i h.0 l q)) in
      let first : f (site (one ls j)) ≡ f (site (two ls j)) = elim (M.there.joins j h.0) [
        | inl b ↦ ap f (sym b.0) ∙ e ∙ ap f b.1
        | inr b ↦ ap f (sym b.1) ∙ sym e ∙ ap f b.0
      ] in
      elim h.1 [
        | inl q ↦ ap (λ y. f (site y)) (sym q.0) ∙ first ∙ chain-side i l (two ls j) js b q.1 (omega arith)
        | inr q ↦ ap (λ y. f (site y)) (sym q.0) ∙ sym first ∙ chain-side i l (one ls j) js b q.1 (omega arith)
      ]

  separates_stays : (i x y : ℕ) → i < length ls → separates ls i x y ≡ 0 → separates ms (link i) (site x) (site y) ≡ 0
  separates_stays i x y l e =
      let k = a-chain-without ls i x y e in
      separates-same ms (link i) (site x) (site y) (chain-side i l x k.0 y k.1 k.2)

module _ {ls ms : Links} {n m : ℕ} {d c site site⁻ link link⁻ : ℕ → ℕ} (M : Matched ls ms n m d c site site⁻ link link⁻) where
  -- a link separates the same sites
  pub separates_matched : (i x y : ℕ) → i < length ls → Site n x → Site n y → separates ls i x y ≡ separates ms (link i) (site x) (site y)
  separates_matched i x y l p q = same? (separates ls i x y) 0
      (λ e. e ∙ sym (separates_stays M i x y l e))
      (λ e. same? (separates ms (link i) (site x) (site y)) 0
      (λ z. absurd (e (rw (M.link-there i l, M.site-there x p, M.site-there y q) at
      (separates_stays (turned M) (link i) (site x) (site y) (M.there.to-link i l) z))))
      (λ z. omega (arith, separates-le ls i x y, separates-le ms (link i) (site x) (site y))))

carry-total : (site : ℕ → ℕ) (es : List Pair) → total (carry site es) ≡ total es
unfolding carry total
carry-total site [] = refl
carry-total site (e ∷ es) = omega (arith, carry-total site es)

carry-each : (site : ℕ → ℕ) (K : ℕ → Type 0) (es : List Pair) → Each (λ e. K e.amount) es → Each (λ e. K e.amount) (carry site es)
unfolding carry
carry-each site K [] h = tt
carry-each site K (e ∷ es) h = (h.0, carry-each site K es h.1)

module _ {ls ms : Links} {n m : ℕ} {d c site site⁻ link link⁻ : ℕ → ℕ} (M : Matched ls ms n m d c site site⁻ link link⁻)
    (terminal terminal' : ℕ → ℕ) (agree : (x : ℕ) → Site n x → terminal x ≡ terminal' (site x)) where
  route_matched : (e : Pair) → Route ls n terminal e → Route ms m terminal' (carry_entry site e)
  route_matched e r =
      let a = e.first in
      let b = e.second in
      record {
        first-site = M.there.to-site a r.first-site;
        second-site = M.there.to-site b r.second-site;
        first-terminal = sym (agree a r.first-site) ∙ r.first-terminal;
        second-terminal = sym (agree b r.second-site) ∙ r.second-terminal;
        different = λ z. r.different (sym (M.site-there a r.first-site) ∙ ap site⁻ z ∙ M.site-there b r.second-site);
        free = λ w j p o wa wb l k.
            let v = site⁻ w in
            let i = link⁻ j in
            let pv = M.back.to-site w p in
            let li = M.back.to-link j l in
            let back = M.site-back w p in
            let none = r.free v i pv (agree v pv ∙ ap terminal' back ∙ o) (λ z. wa (sym back ∙ ap site z)) (λ z. wb (sym back ∙ ap site z)) li
            (sym (at_matched (turned M) w j p l) ∙ k) in
            rw (M.link-back j l) at (sym (separates_matched M i a b li r.first-site r.second-site) ∙ none);
      }

  pub multiflow_matched : (es : List Pair) → Multiflow ls n terminal es → Multiflow ms m terminal' (carry site es)
  unfolding carry
  multiflow_matched [] h = tt
  multiflow_matched (e ∷ es) h = (route_matched e h.0, multiflow_matched es h.1)

  pub load_matched : (es : List Pair) → Multiflow ls n terminal es → (i : ℕ) → i < length ls → load ls es i ≡ load ms (carry site es) (link i)
  unfolding carry load
  load_matched [] h i l = refl
  load_matched (e ∷ es) h i l =
      rw (separates_matched M i e.first e.second l h.0.first-site h.0.second-site) (omega (arith, load_matched es h.1 i l))

  pub fits_matched : (k : ℕ) (es : List Pair) → Multiflow ls n terminal es → Fits ls k d es → Fits ms k c (carry site es)
  fits_matched k es h f j l =
      let i = link⁻ j in
      let p = M.back.to-link j l in
      let e : load ms (carry site es) j ≡ load ls es i = ap (load ms (carry site es)) (sym (M.link-back j l)) ∙ sym (load_matched es h i p) in
      rw (e, M.back.capacity j l) (f i p)

module _ {ls ms : Links} {n m : ℕ} {d c site site⁻ link link⁻ : ℕ → ℕ} (M : Matched ls ms n m d c site site⁻ link link⁻)
    (terminal terminal' : ℕ → ℕ) (agree : (x : ℕ) → Site n x → terminal x ≡ terminal' (site x)) (k : ℕ) (K : ℕ → Type 0) where
  largest-le : (w w' : ℕ) → Largest ls n terminal d k K w → Largest ms m terminal' c k K w' → w ≤ w'
  largest-le w w' L L' = omega (
    arith,
    L.reached,
    carry-total site L.plan,
    L'.most (carry site L.plan) (multiflow_matched M terminal terminal' agree L.plan L.routes)
        (fits_matched M terminal terminal' agree k L.plan L.routes L.fits)
        (carry-each site K L.plan L.kind),
  )

-- the largest totals agree, of whatever kind the plans are to be
pub the_largest_agree : {ls ms : Links} {n m : ℕ} {d c site site⁻ link link⁻ : ℕ → ℕ} → Matched ls ms n m d c site site⁻ link link⁻
    → (terminal terminal' : ℕ → ℕ) → ((x : ℕ) → Site n x → terminal x ≡ terminal' (site x)) → (k : ℕ) (K : ℕ → Type 0) (w w' : ℕ)
    → Largest ls n terminal d k K w → Largest ms m terminal' c k K w' → w ≡ w'
the_largest_agree M terminal terminal' agree k K w w' L L' = omega (
  arith,
  largest-le M terminal terminal' agree k K w w' L L',
  largest-le (turned M) terminal' terminal (terminals-turned M terminal terminal' agree) k K w' w L' L,
)
