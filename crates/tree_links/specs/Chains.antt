-- The links at a site as a chain, the last first: what the functions are given and give, and the laws of a walk along a chain.
-- Between a link of the chain and the one before it no link is at the site: a walk along the chain meets every link there,
-- and sums what a sum over all links sums.
use Rattle.std.specs.Prelude.{◌≡◌, ◌≢◌, List, length}
use Rattle.std.proofs.Math.Path.{refl, ap}
use Rattle.std.proofs.Common.{sym, ◌∙◌}
use Prim.Native.Nat.{ℕ, zero, suc, ◌+◌, ◌-◌, ◌*◌, ◌≤◌, ◌<◌}
use native.Mathlib.Omega.{arith}
use Rattle.std.proofs.Math.Nat.{mul-le-mul_right}
use Rattle.model.specs.Limits.{LINKS, SITES, SIZE}
use Rattle.lists.specs.Numbers.{pick, is, sum, look}
use Rattle.model.specs.Flows.{Links, at, sum_at, leaf}
use Rattle.model.specs.Edition.{largest}
use Rattle.lists.specs.Sums.{pick_same, pick_other, same?, is_one, is_same, is-other}
use Rattle.theory_trees.specs.Trees.{at-le}
use Rattle.tree.specs.Offer.{links}
use Rattle.tree.specs.Accepted.{TreeWithin}
use Rattle.tree.specs.Links.{length-links, links-one, links-two, links-at-site}

-- at most LINKS links between sites up to SITES
pub record Placed (one two : List ℕ) : Type 0 where
  pub few : length one ≤ LINKS
  pub seconds : length two ≡ length one
  pub sites : (j : ℕ) → j < length one → (look one j ≤ SITES) × (look two j ≤ SITES)

-- the last of the first j links that is at v, counted from 1; 0 if there is none
unfoldable pub last_at : Links → ℕ → ℕ → ℕ
last_at ls zero v = 0
last_at ls (suc j) v = pick (at ls v j) 1 (suc j) (last_at ls j v)

-- the last link at each site, and for link j the links before it at its first site (place 2 j) and at its second (place 2 j + 1), zeros behind them
pub record Chained (one two last before : List ℕ) : Type 0 where
  pub placed : Placed one two
  pub lasts : (v : ℕ) → v ≤ SITES → look last v ≡ last_at (links one two) (length one) v
  pub firsts : (j : ℕ) → j < length one → look before (2 * j) ≡ last_at (links one two) j (look one j)
  pub others : (j : ℕ) → j < length one → look before (2 * j + 1) ≡ last_at (links one two) j (look two j)
  pub behind : (i : ℕ) → 2 * length one ≤ i → look before i ≡ 0

-- a place for each link, with a capacity of at most SIZE
pub record Limited (one c : List ℕ) : Type 0 where
  pub places : length one ≤ length c
  pub small : (j : ℕ) → j < length one → look c j ≤ SIZE

-- place v of a list holds what the links at site v carry together
abbrev pub Summed : Links → (ℕ → ℕ) → List ℕ → Type 0
Summed ls t l = (v : ℕ) → v ≤ SITES → look l v ≡ sum_at ls v t

-- an accepted tree is placed, and its capacities are limited
module _ {n : ℕ} {a b c : List ℕ} (w : TreeWithin largest n a b c) where
  pub offer-placed : Placed a b
  offer-placed = record {
    few = omega arith;
    seconds = omega arith;
    sites = λ j h.
        let all = length-links a b (omega arith) in
        let e = w.tree.ends j (omega arith) in
        (omega (arith, links-one a b j h (omega arith)), omega (arith, links-two a b j h (omega arith)));
  }

  pub offer_limited : Limited a c
  offer_limited = record { places = omega arith; small = λ j h. w.limited j (omega arith) }

-- ---- the last link at a site

module _ (ls : Links) (v : ℕ) where
  pub last_le : (j : ℕ) → last_at ls j v ≤ j
  unfolding last_at
  last_le zero = omega arith
  last_le (suc j) = same? (at ls v j) 1
      (λ e. rw (pick_same e) (omega arith))
      (λ d. rw (pick_other d) (omega (arith, last_le j)))

  last_at_lem : (j i : ℕ) → last_at ls j v ≡ suc i → at ls v i ≡ 1
  unfolding last_at
  last_at_lem zero i e = absurd (omega arith)
  last_at_lem (suc j) i e = same? (at ls v j) 1
      (λ a. let same : j ≡ i = omega (arith, rw (pick_same a) at e) in rw (← same) a)
      (λ d. last_at_lem j i (rw (pick_other d) at e))

  -- from the last link on none is at v
  pub last_none : (j i : ℕ) → last_at ls j v ≤ i → i < j → at ls v i ≢ 1
  unfolding last_at
  last_none zero i h l a = omega arith
  last_none (suc j) i h l a = same? (at ls v j) 1
      (λ e. omega (arith, rw (pick_same e) at h))
      (λ d. same? i j (λ e. d (rw e at a)) (λ e. last_none j i (rw (pick_other d) at h) (omega arith) a))

  pub last_sum : (f : ℕ → ℕ) (j : ℕ) → sum j (λ i. at ls v i * f i) ≡ sum (last_at ls j v) (λ i. at ls v i * f i)
  unfolding last_at sum
  last_sum f zero = refl
  last_sum f (suc j) = same? (at ls v j) 1
      (λ e. rw (pick_same e) refl)
      (λ d. let z : at ls v j ≡ 0 = omega (arith, at-le ls v j) in rw (pick_other d, z) (omega (arith, last_sum f j)))

  -- a place of the walk: none, or a link at v among the first m
  abbrev pub On : ℕ → ℕ → Type 0
  On m p = (p ≤ m) × (0 < p → at ls v (p - 1) ≡ 1)

  pub on_last : (m j : ℕ) → j ≤ m → On m (last_at ls j v)
  on_last m j h = (omega (arith, last_le j), λ l. last_at_lem j (last_at ls j v - 1) (omega arith))

  -- the sum up to a link at v is what the link has, and the sum up to the link before it
  pub sum_back : (f : ℕ → ℕ) (p : ℕ) → 0 < p → at ls v (p - 1) ≡ 1
      → sum p (λ i. at ls v i * f i) ≡ f (p - 1) + sum (last_at ls (p - 1) v) (λ i. at ls v i * f i)
  unfolding sum
  sum_back f p h a =
      let more : p ≡ suc (p - 1) = omega arith in
      ap (λ k. sum k (λ i. at ls v i * f i)) more ∙ rw a (omega (arith, last_sum f (p - 1)))

  pub sum_limit : (f : ℕ → ℕ) (k m : ℕ) → ((i : ℕ) → i < m → f i ≤ k) → sum m (λ i. at ls v i * f i) ≤ m * k
  unfolding sum
  sum_limit f k zero h = omega arith
  sum_limit f k (suc m) h = omega (arith, sum_limit f k m (λ i l. h i (omega arith)), mul-le-mul_right (f m) (at-le ls v m), h m (omega arith))

  -- v has just one link where there is a last link and none before it
  no_link : (m : ℕ) → last_at ls m v ≡ 0 → sum m (λ i. at ls v i * 1) ≡ 0
  unfolding sum
  no_link m e = last_sum (λ i. 1) m ∙ rw e refl

  -- what is at v is the last link there and what is before it
  at_last : (m : ℕ) → 0 < last_at ls m v → sum m (λ i. at ls v i * 1) ≡ 1 + sum (last_at ls (last_at ls m v - 1) v) (λ i. at ls v i * 1)
  at_last m h = last_sum (λ i. 1) m ∙ sum_back (λ i. 1) (last_at ls m v) h ((on_last m m (omega arith)).1 h)

  one_link : (m : ℕ) → 0 < last_at ls m v → last_at ls (last_at ls m v - 1) v ≡ 0 → sum m (λ i. at ls v i * 1) ≡ 1
  one_link m h e = omega (arith, at_last m h, last_sum (λ i. 1) (last_at ls m v - 1), no_link (last_at ls m v - 1) e)

  more_links : (m : ℕ) → 0 < last_at ls m v → 0 < last_at ls (last_at ls m v - 1) v → 2 ≤ sum m (λ i. at ls v i * 1)
  more_links m h k = omega (arith, at_last m h, last_sum (λ i. 1) (last_at ls m v - 1), at_last (last_at ls m v - 1) k)

-- ---- along the chain

module _ {a b last before : List ℕ} (c : Chained a b last before) where
  -- the link before a link at v
  pub walk_goes_on : (v j r : ℕ) → j < length a → at (links a b) v j ≡ 1
      → r ≡ pick (look a j) v (look before (2 * j)) (pick (look b j) v (look before (2 * j + 1)) 0) → r ≡ last_at (links a b) j v
  walk_goes_on v j r h at-v e =
      let k = c.placed.seconds in
      let site = links-at-site a b v j h (omega arith) in
      e ∙ same? (look a j) v
      (λ f. pick_same f _ _ ∙ c.firsts j h ∙ ap (last_at (links a b) j) f)
      (λ d. let f : look b j ≡ v = is_one (sym (pick_other d 1 (is (look b j) v)) ∙ sym site ∙ at-v) in
      pick_other d _ _ ∙ pick_same f _ _ ∙ c.others j h ∙ ap (last_at (links a b) j) f)

  -- ---- an end, by the last link at v and the link before it

  module _ (v : ℕ) (site : v ≤ SITES) where
    number : sum_at (links a b) v (λ i. 1) ≡ sum (length a) (λ i. at (links a b) v i * 1)
    unfolding sum_at
    number = rw (length-links a b (sym c.placed.seconds)) refl

    pub no_link_is_no_end : look last v ≡ 0 → leaf (links a b) v ≡ 0
    unfolding leaf
    no_link_is_no_end e = is-other (λ f. omega (arith, number, no_link (links a b) v (length a) (sym (c.lasts v site) ∙ e)))

    pub one_link_is_an_end : 0 < look last v → last_at (links a b) (look last v - 1) v ≡ 0 → leaf (links a b) v ≡ 1
    unfolding leaf
    one_link_is_an_end = rw (c.lasts v site) (λ h e. is_same (number ∙ one_link (links a b) v (length a) h e))

    pub more_links_are_no_end : 0 < look last v → 0 < last_at (links a b) (look last v - 1) v → leaf (links a b) v ≡ 0
    unfolding leaf
    more_links_are_no_end = rw (c.lasts v site) (λ h k. is-other (λ f. omega (arith, number, more_links (links a b) v (length a) h k)))
