-- Whether two regions share one link, decided test by test, as the code does; and what it looks up on the way.
use Rattle.std.specs.Prelude.{None, Some, Bool, true, false, ◌||◌, List, ◌≡◌, ◌≢◌, ℕ, suc, ◌*◌, ◌≤◌, ◌<◌, eqb, length}
use Rattle.std.proofs.Math.Path.{refl, sym, ap}
use Rattle.std.proofs.Common.{◌∙◌, arith, eqb-true, ne_eqb}
use Rattle.std.proofs.Math.Logic.{if_pos, if_neg}
use Rattle.std.proofs.Math.Decide.{dec_lt}
use Rattle.std.proofs.lemmas.Bool.{eqb-false}
use Rattle.lists.specs.Numbers.{pick, differ, sum, look}
use Rattle.lists.specs.Sums.{contradiction, same?, pick_same, pick_other, differ-le, product_one}
use Rattle.model.specs.Edition.{largest}
use Rattle.model.specs.Flows.{Site, one, two}
use Rattle.theory_regions.proofs.FarSites.{lone-le}
use Rattle.theory_regions.specs.Regions.{Region, lone}
use Rattle.theory_regions.specs.Sharing.{first_from, apart, commons, shared_first, shared_second, met, may_be_far, chosen, shared_at, sharing_of}
use Rattle.theory_regions.specs.SharingLaws.{one_is_found}
use Rattle.theory_walk.specs.Regions.{differ-one}
use Rattle.tree.specs.Accepted.{MarkedTree}
use Rattle.tree.specs.Links.{length-links, links-one, links-two}
use Rattle.tree.specs.Offer.{links}
use Rattle.region_links.specs.Partners.{both_in, joining}
use Rattle.region_sizes.specs.Offered.{region_by}
use Rattle.region_sharing.specs.Shared.{shared_by}

-- a site that is not lone decides for both
pub not_lone_in_both : (a : Region) (y b : ℕ) → eqb (lone a y) 1 ≡ false → false ≡ eqb (lone a y * b) 1
not_lone_in_both a y b e = sym (ne_eqb (lone a y * b) 1 (λ o. eqb-false (lone a y) 1 e (product_one (lone a y) b (lone-le a y) o).0))

-- of two tests one is told, or none
pub first-told : (u v : Bool) → u ≡ true → true ≡ (u || v)
first-told u v e = rw e refl

pub second-told : (u v : Bool) → u ≡ false → v ≡ (u || v)
second-told u v e = rw e refl

none_told : (u v : Bool) → (u || v) ≡ false → (u ≡ false) × (v ≡ false)
none_told false v e = (refl, e)
none_told true v e = contradiction cc

-- ---- two regions offered as lists, and the partners of the sites of the first

module _ {n : ℕ} {one₁ two₁ marks₁ c₁ : List ℕ} {m : ℕ} {one₂ two₂ marks₂ c₂ : List ℕ} (w : MarkedTree largest n one₁ two₁ marks₁ c₁)
    (v : MarkedTree largest m one₂ two₂ marks₂ c₂) (partner : ℕ → ℕ) where
  abbrev a : Region
  a = region_by n one₁ two₁ marks₁ c₁

  abbrev b : Region
  b = region_by m one₂ two₂ marks₂ c₂

  all_first : length (links one₁ two₁) ≡ length one₁
  all_first = length-links one₁ two₁ (omega (arith, w.within.firsts, w.within.seconds))

  all-second : length (links one₂ two₂) ≡ length one₂
  all-second = length-links one₂ two₂ (omega (arith, v.within.firsts, v.within.seconds))

  -- ---- what the code looks up

  -- the first link is found
  pub the_first_is_found : first_from (both_in partner (links one₁ two₁)) 0 (length one₁) ≡ shared_first a b partner
  unfolding shared_first
  the_first_is_found = ap (first_from (both_in partner (links one₁ two₁)) 0) (sym all_first)

  module _ (j : ℕ) (here : j < length one₁) where
    there : j < length two₁
    there = omega (arith, w.within.firsts, w.within.seconds)

    first-is : one (links one₁ two₁) j ≡ look one₁ j
    first-is = links-one one₁ two₁ j here there

    second_is : two (links one₁ two₁) j ≡ look two₁ j
    second_is = links-two one₁ two₁ j here there

    -- then the second
    pub the_second_is_found : first_from (joining (links one₂ two₂) (partner (look one₁ j)) (partner (look two₁ j))) 0 (length one₂)
        ≡ shared_second a b partner j
    unfolding shared_second
    the_second_is_found =
        rw (first-is, second_is) (ap (first_from (joining (links one₂ two₂) (partner (look one₁ j)) (partner (look two₁ j))) 0) (sym all-second))

    -- its sites are sites of the first region, and their partners of the second
    pub sites_of_the_link : Site n (look one₁ j) × Site n (look two₁ j)
    sites_of_the_link = let s = w.within.tree.ends j (omega (arith, all_first)) in rw (first-is, second_is) at s

    pub partners_of_the_sites : ((x : ℕ) → Site n x → partner x ≤ m) → j ≡ first_from (both_in partner (links one₁ two₁)) 0 (length one₁)
        → Site m (partner (look one₁ j)) × Site m (partner (look two₁ j))
    partners_of_the_sites most e =
        let s = sites_of_the_link in
        let test = both_in partner (links one₁ two₁) in
        let hit : test j ≡ 1 = rw e (one_is_found test (length one₁) (omega arith)) in
        let both = product_one (differ (partner (look one₁ j)) 0) (differ (partner (look two₁ j)) 0) (differ-le (partner (look one₁ j)) 0)
        (rw (first-is, second_is) at hit) in
        let p = differ-one both.0 in
        let q = differ-one both.1 in
        ((omega arith, most (look one₁ j) s.0), (omega arith, most (look two₁ j) s.1))

  -- ---- test by test

  pub not_two_names : sum n (λ i. differ (partner (suc i)) 0) ≢ 2 → None ≡ shared_by (sharing_of a b partner)
  unfolding sharing_of commons
  not_two_names d = ap shared_by (sym (pick_other d _ _))

  module _ (names : sum n (λ i. differ (partner (suc i)) 0) ≡ 2) (j : ℕ) (first : j ≡ first_from (both_in partner (links one₁ two₁)) 0 (length one₁)) where
    by_first : sharing_of a b partner ≡ shared_at a b partner j (shared_second a b partner j)
    unfolding sharing_of commons
    by_first = let e = first ∙ the_first_is_found in pick_same names _ _ ∙ ap (λ i. shared_at a b partner i (shared_second a b partner i)) (sym e)

    pub no_first_link : length one₁ ≤ j → None ≡ shared_by (sharing_of a b partner)
    unfolding shared_at
    no_first_link h = ap shared_by (sym (by_first ∙ if_neg (dec_lt j (length (links one₁ two₁))) (λ l. omega (arith, all_first)) _ _))

    module _ (here : j < length one₁) (k : ℕ)
        (second : k ≡ first_from (joining (links one₂ two₂) (partner (look one₁ j)) (partner (look two₁ j))) 0 (length one₂)) where
      by-second : sharing_of a b partner ≡ shared_at a b partner j k
      by-second = by_first ∙ ap (shared_at a b partner j) (sym (second ∙ the_second_is_found j here))

      pub no_second_link : length one₂ ≤ k → None ≡ shared_by (sharing_of a b partner)
      unfolding shared_at
      no_second_link h = ap shared_by (sym (
          by-second
          ∙ if_pos (dec_lt j (length (links one₁ two₁))) (omega (arith, all_first)) _ _
          ∙ if_neg (dec_lt k (length (links one₂ two₂))) (λ l. omega (arith, all-second)) _ _
          ))

      module _ (there : k < length one₂) where
        pub other-size : look c₁ j ≢ look c₂ k → None ≡ shared_by (sharing_of a b partner)
        unfolding shared_at
        other-size d = ap shared_by (sym (
            by-second
            ∙ if_pos (dec_lt j (length (links one₁ two₁))) (omega (arith, all_first)) _ _
            ∙ if_pos (dec_lt k (length (links one₂ two₂))) (omega (arith, all-second)) _ _
            ∙ pick_other d _ _
            ))

        module _ (size : look c₁ j ≡ look c₂ k) where
          by-far-sites : sharing_of a b partner ≡ chosen a b partner j k
          unfolding shared_at
          by-far-sites =
              by-second
              ∙ if_pos (dec_lt j (length (links one₁ two₁))) (omega (arith, all_first)) _ _
              ∙ if_pos (dec_lt k (length (links one₂ two₂))) (omega (arith, all-second)) _ _
              ∙ pick_same size _ _

          abbrev x : ℕ
          x = look one₁ j

          abbrev y : ℕ
          y = look two₁ j

          -- the first site or the second may be far
          by-sites : sharing_of a b partner
              ≡ pick (may_be_far a b partner x y) 1 (met a b partner j k x y) (pick (may_be_far a b partner y x) 1 (met a b partner j k y x) apart)
          unfolding chosen
          by-sites = by-far-sites ∙ rw (first-is j here, second_is j here) refl

          -- the same as the code tests it: whether y may be far from the first region and x, the other site, from the second
          abbrev far : ℕ → ℕ → Bool
          far x y = eqb (lone (region_by n one₁ two₁ marks₁ c₁) y * lone (region_by m one₂ two₂ marks₂ c₂) (partner x)) 1

          pub with_far_sites : (far x y || far y x) ≡ true → Some (record { first = j; second = k }) ≡ shared_by (sharing_of a b partner)
          unfolding may_be_far lone
          with_far_sites e = sym (ap shared_by by-sites ∙ same? (may_be_far a b partner x y) 1
              (λ h. ap shared_by (pick_same h _ _))
              (λ d. ap shared_by (pick_other d _ _ ∙ pick_same (eqb-true _ 1 (second-told _ _ (ne_eqb _ 1 d) ∙ e)) _ _)))

          pub without-far-sites : (far x y || far y x) ≡ false → None ≡ shared_by (sharing_of a b partner)
          unfolding may_be_far lone
          without-far-sites e =
              let none = none_told (far x y) (far y x) e in
              sym (ap shared_by (by-sites ∙ pick_other (eqb-false _ 1 none.0) _ _ ∙ pick_other (eqb-false _ 1 none.1) _ _))
