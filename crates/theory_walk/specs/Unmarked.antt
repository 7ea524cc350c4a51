-- Where every terminal has one link, as on a sheet without marks, the pair list over all parts is the pair list (model/Pairing): reports stay what they were.
-- All inner sites have one region then, so there is one root, the lowest inner site, and no single link; without an inner site there is one link.
use Rattle.std.specs.Prelude.{◌≡◌, ◌≢◌}
use Rattle.std.proofs.Math.Path.{refl, sym, ap}
use Rattle.std.proofs.Common.{◌∙◌, arith}
use mathlib.Core.List.{List, [], ◌∷◌, ◌++◌, flat_map, append-nil}
use Prim.Native.Nat.{ℕ, zero, suc, ◌+◌, ◌*◌, ◌≤◌, ◌<◌}
use Rattle.std.proofs.Math.ListN.{length}
use Rattle.lists.specs.Numbers.{pick, is, differ, less, count, upfrom}
use Rattle.lists.specs.Sums.{pick_same, pick_other, pick_cases, same?, is_same, is-other, is_one, differ-other, differ-le}
use Rattle.lists.specs.Sums.{less_one, less-lt, product_one, sum-single}
use Rattle.lists.specs.Places.{count_in}
use Rattle.model.specs.Flows.{Links, Site, sites, one, two, at, sum_at, Tree}
use Rattle.model.specs.Pairing.{put, give, pairs_from, lowest_inner, pairs, lower_first, insert, ordered, pair_list}
use Rattle.model.specs.Parts.{single, region, member, home, lowest, root, pairs_of_part, pair_of_link, pairs_of_parts, pair_list_of_parts}
use Rattle.model.specs.declared.Pair.{Pair}
use Rattle.theory_trees.specs.Trees.{all_agree, at_first, at_second, at-le, loopless}
use Rattle.theory_trees.specs.Sites.{sites_once, sites-site, at-site}
use Rattle.theory_trees.specs.Leaves.{Outer}
use Rattle.theory_trees.proofs.Leaves.{leaf_has_one_link, a_tree_of_leaves_has_two_sites}
use Rattle.theory_walk.specs.Lowest.{lowest-none, lowest-some, lowest-same}
use Rattle.theory_walk.specs.Regions.{differ-one, member_in, member_inner, home-region, single-terminal, root_inner, position}

-- ---- lists of which one at most is not empty

flat-none : (f : ℕ → List Pair) (us : List ℕ) → ((u : ℕ) → 1 ≤ count us u → f u ≡ []) → flat_map f us ≡ []
unfolding flat_map count
flat-none f [] h = refl
flat-none f (u ∷ us) h = rw (h u (omega (arith, is_same {u = u} refl)), flat-none f us (λ x p. h x (omega arith)))

flat-one : (f : ℕ → List Pair) (us : List ℕ) (r : ℕ) → count us r ≡ 1 → ((u : ℕ) → 1 ≤ count us u → u ≢ r → f u ≡ []) → flat_map f us ≡ f r
unfolding flat_map count
flat-one f [] r c h = absurd (omega arith)
flat-one f (u ∷ us) r c h = same? u r
    (λ e. rw (flat-none f us (λ x p. h x (omega arith) (λ z. omega (arith, is_same e, rw z at p))), e) (append-nil (f r)))
    (λ d. rw (h u (omega (arith, is_same {u = u} refl)) d) (flat-one f us r (omega (arith, is-other d)) (λ x p. h x (omega arith))))

-- ---- a pair in order

lower_keep : (x y a : ℕ) → x < y → lower_first (record { first = x; second = y; amount = a }) ≡ record { first = x; second = y; amount = a }
unfolding lower_first
lower_keep x y a l = pick_other {u = less y x} {v = 1} (λ e. omega (arith, less-lt e)) (record { first = y; second = x; amount = a })
    (record { first = x; second = y; amount = a })

lower_turn : (x y a : ℕ) → y < x → lower_first (record { first = x; second = y; amount = a }) ≡ record { first = y; second = x; amount = a }
unfolding lower_first
lower_turn x y a l = pick_same (less_one l) (record { first = y; second = x; amount = a }) (record { first = x; second = y; amount = a })

module _ {ls : Links} {n : ℕ} (T : Tree ls n) (terminal t : ℕ → ℕ) (O : Outer ls n terminal) where
  abbrev of_parts : ℕ → List Pair
  of_parts = pairs_of_part ls n t terminal

  abbrev of_links : ℕ → List Pair
  of_links = pair_of_link ls n t terminal

  abbrev along : ℕ → List Pair
  along k = give (one ls k) (put (two ls k) (2 * t k) [])

  no_root : (v : ℕ) → root ls terminal n v ≢ 1 → of_parts v ≡ []
  unfolding pairs_of_part
  no_root v d = pick_other d (pairs_from ls n t terminal v) []

  -- ---- without an inner site

  module _ (none : lowest_inner terminal 1 n ≡ 0) where
    terminals : (x : ℕ) → Site n x → terminal x ≡ 1
    terminals x p = lowest-none terminal 1 n (omega arith) none x p.0 (omega arith)

    one_link : length ls ≡ 1
    one_link = omega (arith, T.links, a_tree_of_leaves_has_two_sites T (λ x p. O x p (terminals x p)))

    alone-ordered : (a : ℕ) → ordered (give (one ls 0) (put (two ls 0) a [])) ≡ ordered (give 1 (put 2 a []))
    unfolding give put ordered insert
    alone-ordered zero = refl
    alone-ordered (suc a) =
        let l : 0 < length ls = omega (arith, one_link) in
        let d = loopless T 0 l in
        let o = T.ends 0 l in
        same? (one ls 0) 1
        (λ p. let q : two ls 0 ≡ 2 = omega (arith, one_link, T.links, o) in rw (p, q))
        (λ p. let q : two ls 0 ≡ 1 = omega (arith, one_link, T.links, o) in
        let p' : one ls 0 ≡ 2 = omega (arith, one_link, T.links, o) in
        rw (p', q, lower_turn 2 1 (suc a) (omega arith), lower_keep 1 2 (suc a) (omega arith)))

    parts-without : pairs_of_parts ls n t terminal ≡ along 0
    unfolding pairs_of_parts pair_of_link single
    parts-without =
        let l : 0 < length ls = omega (arith, one_link) in
        let o = T.ends 0 l in
        let it : single ls terminal 0 ≡ 1 = rw (is_same (terminals (one ls 0) o.0), is_same (terminals (two ls 0) o.1)) (omega arith) in
        let vs : flat_map of_parts (sites n) ≡ [] = flat-none of_parts (sites n)
        (λ v m. no_root v (λ e. root_inner ls terminal n v e (terminals v (sites-site n v m)))) in
        let ks : flat_map of_links (upfrom 0 (length ls)) ≡ along 0 =
        flat-one of_links (upfrom 0 (length ls)) 0 (count_in 0 (length ls) 0 (omega arith) (omega arith))
        (λ u m d. absurd (omega (arith, one_link, position (length ls) u m)))
        ∙ pick_same it (along 0) [] in
        ap (λ a. a ++ flat_map of_links (upfrom 0 (length ls))) vs ∙ ks

  -- ---- with one

  -- a terminal's link, as a sum
  its_link : (a k : ℕ) → k < length ls → at ls a k ≡ 1 → terminal a ≡ 1 → sum_at ls a (λ i. i) ≡ k
  unfolding sum_at
  its_link a k l p e =
      let leaf = O a (at-site ls T.ends k l p) e in
      sum-single (length ls) k (λ i. at ls a i * i) l
      (λ i m d. let z : at ls a i ≡ 0 = same? (at ls a i) 1 (λ o. absurd (d (leaf_has_one_link ls a i k leaf m l o p))) (λ o. omega (arith, at-le ls a i)) in
      rw z (omega arith)) ∙ rw p (omega arith)

  -- the region of an inner site, or of the home of a terminal's link: at each site of link k the region of its home
  of : ℕ → ℕ
  of z = pick (terminal z) 1 (region ls terminal (home ls terminal (sum_at ls z (λ i. i)))) (region ls terminal z)

  of_end : (a k : ℕ) → k < length ls → at ls a k ≡ 1 → of a ≡ region ls terminal (home ls terminal k)
  unfolding of
  of_end a k l p = pick_cases (λ u. u ≡ region ls terminal (home ls terminal k)) (terminal a) 1
      (region ls terminal (home ls terminal (sum_at ls a (λ i. i)))) (region ls terminal a)
      (λ e. ap (λ i. region ls terminal (home ls terminal i)) (its_link a k l p e))
      (λ d. sym (member_inner ls terminal (region ls terminal a) (home ls terminal k) (home-region ls terminal k a l p d)).1)

  -- so all inner sites have one region
  one-region : (x y : ℕ) → Site n x → Site n y → terminal x ≢ 1 → terminal y ≢ 1 → region ls terminal x ≡ region ls terminal y
  unfolding of
  one-region x y p q d e = sym (pick_other d (region ls terminal (home ls terminal (sum_at ls x (λ i. i)))) (region ls terminal x))
      ∙ all_agree T of (λ k l. of_end (one ls k) k l (at_first ls k refl) ∙ sym (of_end (two ls k) k l (at_second ls k refl))) x y p q
      ∙ pick_other e (region ls terminal (home ls terminal (sum_at ls y (λ i. i)))) (region ls terminal y)

  -- where there is an inner site, no link joins two terminals
  no_single : (r k : ℕ) → Site n r → terminal r ≢ 1 → k < length ls → single ls terminal k ≢ 1
  no_single r k pr d l e = d (single-terminal ls terminal k r e
      (all_agree T (λ x. at ls x k) steps r (one ls k) pr (T.ends k l).0 ∙ at_first ls k refl))
    where
      off : (m x : ℕ) → m < length ls → m ≢ k → at ls x m ≡ 1 → at ls x k ≡ 0
      off m x lm z p = same? (at ls x k) 1
          (λ o. absurd (z (leaf_has_one_link ls x m k (O x (at-site ls T.ends k l o) (single-terminal ls terminal k x e o)) lm l p o)))
          (λ o. omega (arith, at-le ls x k))

      steps : (m : ℕ) → m < length ls → at ls (one ls m) k ≡ at ls (two ls m) k
      steps m lm = same? m k
          (λ z. rw z (at_first ls k refl ∙ sym (at_second ls k refl)))
          (λ z. off m (one ls m) lm z (at_first ls m refl) ∙ sym (off m (two ls m) lm z (at_second ls m refl)))

  -- the lowest inner site of the one region is the lowest inner site
  low_same : (v : ℕ) → Site n v → terminal v ≢ 1 → lowest ls terminal n (region ls terminal v) ≡ lowest_inner terminal 1 n
  unfolding lowest
  low_same v p d = lowest-same (λ x. differ (member ls terminal (region ls terminal v) x) 1) terminal 1 n
      (λ x a b. (
        λ e. same? (terminal x) 1 (λ o. o)
            (λ o. absurd (differ-one e (member_in ls terminal (region ls terminal v) x o (one-region x v (a, omega arith) p o d)))),
        λ e. differ-other {u = member ls terminal (region ls terminal v) x} {v = 1} (λ o. (member_inner ls terminal (region ls terminal v) x o).0 e),
      ))

  parts_with : lowest_inner terminal 1 n ≢ 0 → pairs_of_parts ls n t terminal ≡ pairs_from ls n t terminal (lowest_inner terminal 1 n)
  unfolding pairs_of_parts pairs_of_part pair_of_link root
  parts_with some =
      let r = lowest_inner terminal 1 n in
      let s = lowest-some terminal 1 n some in
      let pr : Site n r = (s.0, omega (arith, s.1)) in
      let it : root ls terminal n r ≡ 1 = rw (differ-other s.2, is_same (low_same r pr s.2)) (omega arith) in
      let ks : flat_map of_links (upfrom 0 (length ls)) ≡ [] = flat-none of_links (upfrom 0 (length ls))
      (λ k m. pick_other (no_single r k pr s.2 (position (length ls) k m)) (along k) []) in
      let vs : flat_map of_parts (sites n) ≡ pairs_from ls n t terminal r =
      flat-one of_parts (sites n) r (sites_once n r pr) (λ v m d. no_root v (λ e. other v (sites-site n v m) d e))
      ∙ pick_same it (pairs_from ls n t terminal r) [] in
      ap (λ a. flat_map of_parts (sites n) ++ a) ks ∙ append-nil (flat_map of_parts (sites n)) ∙ vs
    where
      other : (v : ℕ) → Site n v → v ≢ lowest_inner terminal 1 n → root ls terminal n v ≢ 1
      other v p d e =
          let tv = root_inner ls terminal n v e in
          let q = product_one (differ (terminal v) 1) (is (lowest ls terminal n (region ls terminal v)) v) (differ-le (terminal v) 1) e in
          d (sym (is_one q.1) ∙ low_same v p tv)

  -- ---- so the pairs are those of the parts

  abbrev root-pairs : List Pair
  root-pairs = pairs_from ls n t terminal (lowest_inner terminal 1 n)

  -- where every terminal has one link, the pair list over all parts is the pair list
  pub unmarked_pair_lists_stay : pair_list_of_parts ls n t terminal ≡ pair_list ls n t terminal
  unfolding pair_list_of_parts pair_list pairs
  unmarked_pair_lists_stay = pick_cases (λ es. ordered (pairs_of_parts ls n t terminal) ≡ ordered es) (lowest_inner terminal 1 n) 0
      (give 1 (put 2 (2 * t 0) [])) root-pairs
      (λ e. ap ordered (parts-without e) ∙ alone-ordered e (2 * t 0))
      (λ d. ap ordered (parts_with d))
