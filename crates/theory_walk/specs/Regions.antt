-- The parts of a tree: the inner sites of a link have one region, so each link is of the part of just one root or is single.
-- Links at a terminal part no two inner sites of one region; so seen from a root every link of its part is open to the walk.
use Rattle.std.specs.Prelude.{◌≡◌, refl, ◌≢◌, ◌⊎◌, length}
use Rattle.std.proofs.Common.{sym, ◌∙◌}
use Rattle.std.proofs.Math.Path.{ap}
use Rattle.std.proofs.Math.Logic.{inl, inr}
use Prim.Native.Nat.{ℕ, ◌+◌, ◌*◌, ◌≤◌, ◌<◌}
use native.Mathlib.Omega.{arith}
use Rattle.std.proofs.Math.Decide.{dec_lt}
use Rattle.lists.specs.Numbers.{is, differ, over, count, upfrom}
use Rattle.lists.specs.Sums.{pick_same, pick_other, pick_cases, cases, same?, is_same, is-other, is_one, is_le, differ_same, differ-other, differ-le}
use Rattle.lists.specs.Sums.{product_one}
use Rattle.lists.specs.Places.{count_in, count-high, over-eq, over-is}
use Rattle.model.specs.Flows.{Links, Site, sites, one, two, at, Tree, side, separates}
use Rattle.model.specs.Pairing.{lowest_inner}
use Rattle.model.specs.Parts.{within, single, region, member, home, in_part, lowest, root}
use Rattle.theory_trees.specs.Trees.{separates-same, separates-one, separates_comm, side-link, at_first, at_second, at-end}
use Rattle.theory_trees.specs.Sites.{sites_once, at-site}
use Rattle.theory_trees.specs.TerminalCuts.{kept-linked, kept_agree}
use Rattle.theory_walk.specs.Subtrees.{Branch, separates-ends}
use Rattle.theory_walk.specs.Children.{over_none}
use Rattle.theory_walk.specs.Handed.{Open}
use Rattle.theory_walk.specs.Lowest.{lowest-none, lowest-some}

pub differ-one : {u v : ℕ} → differ u v ≡ 1 → u ≢ v
differ-one e z = omega (arith, differ_same z)

-- no other link parts the two sites of link k
pub link-side : (ls : Links) (i k a b : ℕ) → k < length ls → k ≢ i → at ls a k ≡ 1 → at ls b k ≡ 1 → side ls i a ≡ side ls i b
link-side ls i k a b l d p q = go (at-end ls k p) (at-end ls k q)
  where
    s : side ls i (one ls k) ≡ side ls i (two ls k)
    s = side-link ls k i l d

    go : (one ls k ≡ a) ⊎ (two ls k ≡ a) → (one ls k ≡ b) ⊎ (two ls k ≡ b) → side ls i a ≡ side ls i b
    go (inl x) (inl y) = ap (side ls i) (sym x ∙ y)
    go (inl x) (inr y) = ap (side ls i) (sym x) ∙ s ∙ ap (side ls i) y
    go (inr x) (inl y) = ap (side ls i) (sym x) ∙ sym s ∙ ap (side ls i) y
    go (inr x) (inr y) = ap (side ls i) (sym x ∙ y)

module _ (ls : Links) (terminal : ℕ → ℕ) where
  -- ---- members

  pub member-le : (g x : ℕ) → member ls terminal g x ≤ 1
  unfolding member
  member-le g x = same? (terminal x) 1
      (λ e. rw (differ_same e) (omega arith))
      (λ d. rw (differ-other d) (omega (arith, is_le (region ls terminal x) g)))

  pub member_in : (g x : ℕ) → terminal x ≢ 1 → region ls terminal x ≡ g → member ls terminal g x ≡ 1
  unfolding member
  member_in g x d e = rw (differ-other d, is_same e) (omega arith)

  pub member_inner : (g x : ℕ) → member ls terminal g x ≡ 1 → (terminal x ≢ 1) × (region ls terminal x ≡ g)
  unfolding member
  member_inner g x e =
      let r = product_one (differ (terminal x) 1) (is (region ls terminal x) g) (differ-le (terminal x) 1) e in
      (differ-one r.0, is_one r.1)

  -- ---- a link and its inner sites

  region-link : (k : ℕ) → k < length ls → terminal (one ls k) ≢ 1 → terminal (two ls k) ≢ 1 → region ls terminal (one ls k) ≡ region ls terminal (two ls k)
  unfolding region
  region-link k l d e = kept-linked (within ls terminal) ls k l (unfold within in (rw (differ-other d, differ-other e)))

  -- the inner sites of a link have one region
  pub region-ends : (k a b : ℕ) → k < length ls → at ls a k ≡ 1 → at ls b k ≡ 1 → terminal a ≢ 1 → terminal b ≢ 1 → region ls terminal a ≡ region ls terminal b
  region-ends k a b l p q d e = go (at-end ls k p) (at-end ls k q)
    where
      go : (one ls k ≡ a) ⊎ (two ls k ≡ a) → (one ls k ≡ b) ⊎ (two ls k ≡ b) → region ls terminal a ≡ region ls terminal b
      go (inl x) (inl y) = ap (region ls terminal) (sym x ∙ y)
      go (inl x) (inr y) = rw (x, y) at (region-link k l (rw x d) (rw y e))
      go (inr x) (inl y) = sym (rw (x, y) at (region-link k l (rw y e) (rw x d)))
      go (inr x) (inr y) = ap (region ls terminal) (sym x ∙ y)

  pub home_at : (k : ℕ) → at ls (home ls terminal k) k ≡ 1
  unfolding home
  home_at k = pick_cases (λ h. at ls h k ≡ 1) (terminal (one ls k)) 1 (two ls k) (one ls k) (λ e. at_second ls k refl) (λ d. at_first ls k refl)

  -- where the home is a terminal, both sites are
  pub home-terminal : (k v : ℕ) → terminal (home ls terminal k) ≡ 1 → at ls v k ≡ 1 → terminal v ≡ 1
  unfolding home
  home-terminal k v e a = same? (terminal (one ls k)) 1
      (λ o. elim (at-end ls k a) [ inl x ↦ rw x at o | inr x ↦ rw x at (rw (pick_same o (two ls k) (one ls k)) at e) ])
      (λ d. absurd (d (rw (pick_other d (two ls k) (one ls k)) at e)))

  -- so a link is single just where its home is a terminal
  pub single-home : (k : ℕ) → single ls terminal k ≡ is (terminal (home ls terminal k)) 1
  unfolding single home
  single-home k = same? (terminal (one ls k)) 1
      (λ e. rw (pick_same e (two ls k) (one ls k), is_same e) (omega arith))
      (λ d. rw (pick_other d (two ls k) (one ls k), is-other d) (omega arith))

  pub single-le : (k : ℕ) → single ls terminal k ≤ 1
  single-le k = omega (arith, single-home k, is_le (terminal (home ls terminal k)) 1)

  pub single-terminal : (k v : ℕ) → single ls terminal k ≡ 1 → at ls v k ≡ 1 → terminal v ≡ 1
  single-terminal k v e a = home-terminal k v (is_one (sym (single-home k) ∙ e)) a

  -- a link with an inner site is of the part of that site's region
  pub home-region : (k v : ℕ) → k < length ls → at ls v k ≡ 1 → terminal v ≢ 1 → in_part ls terminal (region ls terminal v) k ≡ 1
  home-region k v l a d =
      let h : terminal (home ls terminal k) ≢ 1 = λ e. d (home-terminal k v e a) in
      member_in (region ls terminal v) (home ls terminal k) h (region-ends k (home ls terminal k) v l (home_at k) a h d)

  -- a link at a terminal parts no two inner sites of one region
  pub not_within : (m x : ℕ) → at ls x m ≡ 1 → terminal x ≡ 1 → within ls terminal m ≢ 1
  unfolding within
  not_within m x p tx w =
      let r = product_one (differ (terminal (one ls m)) 1) (differ (terminal (two ls m)) 1) (differ-le (terminal (one ls m)) 1) w in
      elim (at-end ls m p) [ inl q ↦ differ-one r.0 (rw q tx) | inr q ↦ differ-one r.1 (rw q tx) ]

  pub region-side : (m x a b : ℕ) → at ls x m ≡ 1 → terminal x ≡ 1 → region ls terminal a ≡ region ls terminal b → side ls m a ≡ side ls m b
  unfolding region
  region-side m x a b p tx e = kept_agree (within ls terminal) ls (side ls m)
      (λ i li w. side-link ls i m li (λ z. not_within m x p tx (rw z at w))) a b e

  -- ---- the roots

  -- the lowest inner site of the region of y
  module _ (n y : ℕ) (py : Site n y) (ty : terminal y ≢ 1) where
    abbrev g : ℕ
    g = region ls terminal y

    abbrev low : ℕ
    low = lowest ls terminal n g

    pub low-is : (Site n low) × (terminal low ≢ 1) × (region ls terminal low ≡ g)
    unfolding lowest
    low-is =
        let f : ℕ → ℕ = λ x. differ (member ls terminal g x) 1 in
        let some : lowest_inner f 1 n ≢ 0 = λ z. differ-one (lowest-none f 1 n (omega arith) z y py.0 (omega arith)) (member_in g y ty refl) in
        let s = lowest-some f 1 n some in
        let m = member_inner g (lowest_inner f 1 n) (same? (member ls terminal g (lowest_inner f 1 n)) 1 (λ e. e) (λ d. absurd (s.2 (differ-other d)))) in
        ((s.0, omega (arith, s.1)), m.0, m.1)

    -- v is a root whose region y has just where it is that site
    root-of : (v : ℕ) → root ls terminal n v * member ls terminal (region ls terminal v) y ≡ is v low * 1
    unfolding root
    root-of v = same? v low
        (λ e. let r = low-is in
        let o : region ls terminal v ≡ g = ap (region ls terminal) e ∙ r.2 in
        rw (o, is_same e, is_same (sym e), differ-other {u = terminal v} {v = 1} (λ z. r.1 (rw e at z)), member_in g y ty refl) (omega arith))
        (λ d. rw (is-other d) (same? (region ls terminal v) g
        (λ e. rw (e, is-other {u = low} {v = v} (λ z. d (sym z))) (omega arith))
        (λ e. let z : member ls terminal (region ls terminal v) y ≡ 0 = omega (
          arith,
          member-le (region ls terminal v) y,
          same? (member ls terminal (region ls terminal v) y) 1 (λ o. absurd (e (sym (member_inner (region ls terminal v) y o).1))) (λ o. o),
        ) in rw z (omega arith))))

    -- so there is one such root
    pub one-root : over (sites n) (λ v. root ls terminal n v * member ls terminal (region ls terminal v) y) ≡ 1
    one-root = omega (
      arith,
      over-eq (sites n) (λ v. root ls terminal n v * member ls terminal (region ls terminal v) y) (λ v. is v low * 1) (λ v m. root-of v),
      over-is (sites n) low (λ v. 1),
      sites_once n low low-is.0,
    )

  pub root-le : (n v : ℕ) → root ls terminal n v ≤ 1
  unfolding root
  root-le n v = same? (terminal v) 1
      (λ e. rw (differ_same e) (omega arith))
      (λ d. rw (differ-other d) (omega (arith, is_le (lowest ls terminal n (region ls terminal v)) v)))

  pub root_inner : (n v : ℕ) → root ls terminal n v ≡ 1 → terminal v ≢ 1
  unfolding root
  root_inner n v e = differ-one (product_one (differ (terminal v) 1) (is (lowest ls terminal n (region ls terminal v)) v) (differ-le (terminal v) 1) e).0

  -- no terminal is a member
  pub member-none : (h x : ℕ) → terminal x ≡ 1 → member ls terminal h x ≡ 0
  unfolding member
  member-none h x e = rw (differ_same e) (omega arith)

-- ---- each link is in just one part

-- the positions of m links
pub position : (m j : ℕ) → 1 ≤ count (upfrom 0 m) j → j < m
position m j p = cases (dec_lt j m) (λ l. l) (λ l. absurd (omega (arith, count-high 0 m j (omega arith))))

-- a link parts its two sites
pub link_parts : {ls : Links} {n : ℕ} → Tree ls n → (k a b : ℕ) → k < length ls → a ≢ b → at ls a k ≡ 1 → at ls b k ≡ 1 → separates ls k a b ≡ 1
link_parts {ls} T k a b l d p q = go (at-end ls k p) (at-end ls k q)
  where
    go : (one ls k ≡ a) ⊎ (two ls k ≡ a) → (one ls k ≡ b) ⊎ (two ls k ≡ b) → separates ls k a b ≡ 1
    go (inl x) (inl y) = absurd (d (sym x ∙ y))
    go (inl x) (inr y) = rw (x, y) at (separates-ends T k l)
    go (inr x) (inl y) = separates_comm ls k a b ∙ (rw (x, y) at (separates-ends T k l))
    go (inr x) (inr y) = absurd (d (sym x ∙ y))

module _ {ls : Links} {n : ℕ} (T : Tree ls n) (terminal : ℕ → ℕ) where
  pub one-part : (j : ℕ) → j < length ls
      → over (sites n) (λ v. root ls terminal n v * in_part ls terminal (region ls terminal v) j)
      + over (upfrom 0 (length ls)) (λ k. is k j * single ls terminal k) ≡ 1
  one-part j l =
      let h = home ls terminal j in
      let last : over (upfrom 0 (length ls)) (λ k. is k j * single ls terminal k) ≡ is (terminal h) 1 =
      over-is (upfrom 0 (length ls)) j (λ k. single ls terminal k)
      ∙ rw (count_in 0 (length ls) j (omega arith) (omega arith), single-home ls terminal j) (omega arith) in
      same? (terminal h) 1
      (λ e. omega (
        arith,
        last,
        is_same e,
        over_none (sites n),
        over-eq (sites n) (λ v. root ls terminal n v * member ls terminal (region ls terminal v) h) (λ v. 0)
            (λ v m. rw (member-none ls terminal (region ls terminal v) h e) (omega arith)),
      ))
      (λ d. omega (arith, last, is-other d, one-root ls terminal n h (at-site ls T.ends j l (home_at ls terminal j)) d))

  -- seen from an inner site, every link of its part is open
  pub part_open : (r i : ℕ) → i < length ls → in_part ls terminal (region ls terminal r) i ≡ 1 → Open ls n terminal r i
  part_open r i l e x m px tx am c b =
      let y = home ls terminal i in
      let q = member_inner ls terminal (region ls terminal r) y e in
      let near : side ls m x ≡ side ls m y = rw (region-side ls terminal m x y r am.here tx q.1) (zero-side c) in
      same? i m
      (λ o. q.0 (same? x y (λ z. rw z at tx) (λ z. absurd (omega (arith, separates-same ls m x y near, beyond o z)))))
      (λ o. omega (arith, separates-same ls m x y near, there o b))
    where
      zero-side : separates ls m x r ≡ 0 → side ls m x ≡ side ls m r
      zero-side c = same? (side ls m x) (side ls m r) (λ p. p) (λ d. absurd (omega (arith, (separates-one ls m x r).1 d)))

      beyond : i ≡ m → x ≢ home ls terminal i → separates ls m x (home ls terminal i) ≡ 1
      beyond o z = link_parts T m x (home ls terminal i) am.bound z am.here (ap (at ls (home ls terminal i)) (sym o) ∙ home_at ls terminal i)

      there : i ≢ m → Branch ls m x i → separates ls m x (home ls terminal i) ≡ 1
      there o (inl z) = absurd (o z)
      there o (inr z) = (separates-one ls m x (home ls terminal i)).1
          (λ p. (separates-one ls m x (one ls i)).0 z (p ∙ link-side ls m i (home ls terminal i) (one ls i) l o (home_at ls terminal i) (at_first ls i refl)))
