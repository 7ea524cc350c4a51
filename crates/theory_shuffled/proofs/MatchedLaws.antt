-- What two numberings of one network have in common: sums over links and over sites, ends, balanced capacities and the sum over the terminals, for any
-- terminals that agree. By carrying each place to its place in the other numbering; the greatest capacities are unique.
use Rattle.std.specs.Prelude.{◌≡◌, refl, ◌≢◌, ℕ, ◌+◌, ◌-◌, ◌*◌, ◌<◌, length}
use Rattle.std.proofs.Common.{sym, ◌∙◌, inl, inr, arith}
use Rattle.std.proofs.Math.Path.{ap}
use Rattle.lists.specs.Numbers.{is, sum, over}
use Rattle.lists.specs.Sums.{same?, sum-eq}
use Rattle.lists.specs.Parts.{over-upfrom}
use Rattle.model.specs.Flows.{Links, Site, sites, one, two, at, sum_at, leaf, at_terminals}
use Rattle.model.specs.Trimming.{Balanced, Greatest}
use Rattle.theory_trees.specs.Trees.{at_first, at_second, at_none}
use Rattle.theory_trees.specs.Sites.{at-site}
use Rattle.theory_trees.proofs.Greatest.{greatest_is_unique}
use Rattle.theory_regions.specs.Carried.{hits, sum_carried, hits-one}
use Rattle.theory_shuffled.specs.Matched.{Matched}

-- ---- sums whose terms stand in another order

-- place i of the one sum is place `to i` of the other, place j of the other is place `from j` of the one
sum_moved : (n m : ℕ) (to from f g : ℕ → ℕ) → ((i : ℕ) → i < n → to i < m) → ((j : ℕ) → j < m → from j < n)
    → ((i : ℕ) → i < n → from (to i) ≡ i) → ((j : ℕ) → j < m → to (from j) ≡ j) → ((i : ℕ) → i < n → f i ≡ g (to i)) → sum n f ≡ sum m g
sum_moved n m to from f g to_in from_in there back h =
    sum-eq n f (λ i. g (to i)) h
    ∙ sum_carried n m to g to_in
    ∙ sum-eq m (λ j. hits n to j * g j) g (λ j l.
    let k = from_in j l in
    let one : hits n to j ≡ 1 = rw (back j l) at (hits-one n to (from j) k (λ i p e. sym (there i p) ∙ ap from e ∙ there (from j) k)) in
    rw one (omega arith))

-- so for the sites
over-moved : (n m : ℕ) (to from f g : ℕ → ℕ) → ((x : ℕ) → Site n x → Site m (to x)) → ((y : ℕ) → Site m y → Site n (from y))
    → ((x : ℕ) → Site n x → from (to x) ≡ x) → ((y : ℕ) → Site m y → to (from y) ≡ y) → ((x : ℕ) → Site n x → f x ≡ g (to x))
    → over (sites n) f ≡ over (sites m) g
over-moved n m to from f g to_in from_in there back h =
    let up : (i : ℕ) → i < n → 1 + (to (1 + i) - 1) ≡ to (1 + i) = λ i l. omega (arith, to_in (1 + i) (omega arith)) in
    let down : (j : ℕ) → j < m → 1 + (from (1 + j) - 1) ≡ from (1 + j) = λ j l. omega (arith, from_in (1 + j) (omega arith)) in
    over-upfrom f 1 n
    ∙ sum_moved n m (λ i. to (1 + i) - 1) (λ j. from (1 + j) - 1) (λ i. f (1 + i)) (λ j. g (1 + j))
    (λ i l. omega (arith, to_in (1 + i) (omega arith)))
    (λ j l. omega (arith, from_in (1 + j) (omega arith)))
    (λ i l. omega (arith, ap from (up i l), there (1 + i) (omega arith)))
    (λ j l. omega (arith, ap to (down j l), back (1 + j) (omega arith)))
    (λ i l. h (1 + i) (omega arith) ∙ ap g (sym (up i l)))
    ∙ sym (over-upfrom g 1 m)

-- ---- sites and links

module _ {ls ms : Links} {n m : ℕ} {d c site site⁻ link link⁻ : ℕ → ℕ} (M : Matched ls ms n m d c site site⁻ link link⁻) where
  -- read the other way
  pub turned : Matched ms ls m n c d site⁻ site link⁻ link
  turned = record {
    ends = M.ends';
    ends' = M.ends;
    there = M.back;
    back = M.there;
    site-there = M.site-back;
    site-back = M.site-there;
    link-there = M.link-back;
    link-back = M.link-there;
  }

  pub sum_matched : (f g : ℕ → ℕ) → ((i : ℕ) → i < length ls → f i ≡ g (link i)) → sum (length ls) f ≡ sum (length ms) g
  sum_matched f g = sum_moved (length ls) (length ms) link link⁻ f g M.there.to-link M.back.to-link M.link-there M.link-back

  pub over_matched : (f g : ℕ → ℕ) → ((x : ℕ) → Site n x → f x ≡ g (site x)) → over (sites n) f ≡ over (sites m) g
  over_matched f g = over-moved n m site site⁻ f g M.there.to-site M.back.to-site M.site-there M.site-back

  pub site_once : (x y : ℕ) → Site n x → Site n y → site x ≡ site y → x ≡ y
  site_once x y p q e = sym (M.site-there x p) ∙ ap site⁻ e ∙ M.site-there y q

  -- a link is at the same sites
  pub at_matched : (v i : ℕ) → Site n v → i < length ls → at ls v i ≡ at ms (site v) (link i)
  at_matched v i p l = same? (one ls i) v
      (λ e. rw (at_first ls i e) (sym (elim (M.there.joins i l) [
        | inl b ↦ at_first ms (link i) (b.0 ∙ ap site e)
        | inr b ↦ at_second ms (link i) (b.1 ∙ ap site e)
      ])))
      (λ a. same? (two ls i) v
      (λ e. rw (at_second ls i e) (sym (elim (M.there.joins i l) [
        | inl b ↦ at_second ms (link i) (b.1 ∙ ap site e)
        | inr b ↦ at_first ms (link i) (b.0 ∙ ap site e)
      ])))
      (λ b. let x : site (one ls i) ≢ site v = λ e. a (site_once (one ls i) v (M.ends i l).0 p e) in
      let y : site (two ls i) ≢ site v = λ e. b (site_once (two ls i) v (M.ends i l).1 p e) in
      rw (at_none ls i a b) (sym (elim (M.there.joins i l) [
        | inl b ↦ at_none ms (link i) (λ e. x (sym b.0 ∙ e)) (λ e. y (sym b.1 ∙ e))
        | inr b ↦ at_none ms (link i) (λ e. y (sym b.0 ∙ e)) (λ e. x (sym b.1 ∙ e))
      ]))))

  pub sum_at_matched : (v : ℕ) → Site n v → (f g : ℕ → ℕ) → ((i : ℕ) → i < length ls → f i ≡ g (link i)) → sum_at ls v f ≡ sum_at ms (site v) g
  unfolding sum_at
  sum_at_matched v p f g h = sum_matched (λ i. at ls v i * f i) (λ j. at ms (site v) j * g j) (λ i l. rw (at_matched v i p l, h i l))

  -- a site has one link in both or in none
  pub leaf_matched : (x : ℕ) → Site n x → leaf ls x ≡ leaf ms (site x)
  unfolding leaf
  leaf_matched x p = ap (λ k. is k 1) (sum_at_matched x p (λ i. 1) (λ j. 1) (λ i l. refl))

  -- terminals that agree, read the other way
  pub terminals-turned : (terminal terminal' : ℕ → ℕ) → ((x : ℕ) → Site n x → terminal x ≡ terminal' (site x))
      → (y : ℕ) → Site m y → terminal' y ≡ terminal (site⁻ y)
  terminals-turned terminal terminal' agree y p = ap terminal' (sym (M.site-back y p)) ∙ sym (agree (site⁻ y) (M.back.to-site y p))

-- ---- balanced capacities

-- what is balanced in the one, carried over, is balanced in the other
balanced_matched : {ls ms : Links} {n m : ℕ} {d c site site⁻ link link⁻ : ℕ → ℕ} → Matched ls ms n m d c site site⁻ link link⁻
    → (terminal terminal' : ℕ → ℕ) → ((x : ℕ) → Site n x → terminal x ≡ terminal' (site x))
    → (t : ℕ → ℕ) → Balanced ms terminal' t → Balanced ls terminal (λ i. t (link i))
balanced_matched {ls} {ms} {site = site} {link = link} M terminal terminal' agree t b v inner j l a =
    let p = at-site ls M.ends j l a in
    rw (sum_at_matched M v p (λ i. t (link i)) t (λ i k. refl))
    (b (site v) (λ e. inner (agree v p ∙ e)) (link j) (M.there.to-link j l) (sym (at_matched M v j p l) ∙ a))

module _ {ls ms : Links} {n m : ℕ} {d c site site⁻ link link⁻ : ℕ → ℕ} (M : Matched ls ms n m d c site site⁻ link link⁻)
    {terminal terminal' : ℕ → ℕ} (agree : (x : ℕ) → Site n x → terminal x ≡ terminal' (site x)) where
  -- the greatest of the one, carried over, is the greatest of the other
  greatest_matched : {t : ℕ → ℕ} → Greatest ms terminal' c t → Greatest ls terminal d (λ i. t (link i))
  greatest_matched {t} g = record {
    below = λ i l. omega (arith, M.there.capacity i l, g.below (link i) (M.there.to-link i l));
    balanced = balanced_matched M terminal terminal' agree t g.balanced;
    greatest = λ s b h i l.
        let back = g.greatest (λ j. s (link⁻ j))
        (balanced_matched (turned M) terminal' terminal (terminals-turned M terminal terminal' agree) s b)
        (λ j k. omega (arith, M.back.capacity j k, h (link⁻ j) (M.back.to-link j k))) in
        rw (M.link-there i l) at (back (link i) (M.there.to-link i l));
  }

  module _ {u t : ℕ → ℕ} (h : Greatest ls terminal d u) (g : Greatest ms terminal' c t) where
    -- each link's balanced capacity is the same
    pub the_balanced_agree : (i : ℕ) → i < length ls → u i ≡ t (link i)
    the_balanced_agree = greatest_is_unique ls terminal h (greatest_matched g)

    -- and so is the sum over the terminals
    pub the_sums_agree : at_terminals ls n terminal u ≡ at_terminals ms m terminal' t
    unfolding at_terminals
    the_sums_agree = over_matched M (λ w. is (terminal w) 1 * sum_at ls w u) (λ w. is (terminal' w) 1 * sum_at ms w t)
        (λ w p. rw (agree w p, sum_at_matched M w p u t the_balanced_agree))
