-- That the parts are what document 02 says: their links share inner sites, chained, and no others (`one-part-iff-one-region`); the root is the lowest inner
-- site (`root-iff-lowest`); and two terminals are free to be joined just if they stand at one part (`free-iff-at-one-part`).
use Rattle.std.specs.Prelude.{◌≡◌, ◌≢◌, ◌↔◌, ◌⊎◌}
use Rattle.std.proofs.Math.Path.{refl, sym}
use Rattle.std.proofs.Common.{ap, ◌∙◌, inl, inr}
use Prim.Native.Nat.{ℕ, ◌+◌, ◌≤◌, ◌<◌}
use Rattle.std.proofs.Math.ListN.{length}
use native.Mathlib.Omega.{arith}
use Rattle.lists.specs.Numbers.{is, differ}
use Rattle.lists.specs.Sums.{same?, is_same, is_one, differ-other, differ-le, differ_triangle, product_one}
use Rattle.model.specs.Flows.{Links, Site, Tree, Route, one, two, at, side, separates}
use Rattle.model.specs.Parts.{free_pair, itself, within, region, member, home, lowest, root}
use Rattle.model.specs.declared.Pair.{Pair}
use Rattle.theory_trees.specs.Trees.{separates-same, separates_comm, separates_triple, at_first, at_second, at-end, loopless, local_one}
use Rattle.theory_trees.specs.Sites.{at-site}
use Rattle.theory_trees.specs.Between.{kept-between}
use Rattle.theory_trees.specs.FreePairs.{free_iff_route}
use Rattle.theory_walk.proofs.Lowest.{lowest_least}
use Rattle.theory_walk.specs.Regions.{differ-one, link-side, link_parts, member_in, member_inner, home_at, home-region, region-side}
use Rattle.theory_walk.specs.Regions.{root_inner, low-is}
use Rattle.theory_walk.specs.PartsMeaning.{AtOnePart, one_part_iff_one_region}

module _ (ls : Links) (terminal : ℕ → ℕ) where
  lowest-below : (n v y : ℕ) → Site n y → terminal y ≢ 1 → region ls terminal y ≡ region ls terminal v → lowest ls terminal n (region ls terminal v) ≤ y
  unfolding lowest
  lowest-below n v y p d o = lowest_least (λ x. differ (member ls terminal (region ls terminal v) x) 1) 1 n y p.0 (omega arith)
      (λ z. differ-one z (member_in ls terminal (region ls terminal v) y d o))

  -- v is a root just if it is inner, and no inner site of its region is lower
  pub root_iff_lowest : (n v : ℕ) → Site n v
      → (root ls terminal n v ≡ 1) ↔ ((terminal v ≢ 1) × ((y : ℕ) → Site n y → terminal y ≢ 1 → region ls terminal y ≡ region ls terminal v → v ≤ y))
  unfolding root
  root_iff_lowest n v pv = (
    λ e. (
      root_inner ls terminal n v e,
      λ y p d o. let r = product_one (differ (terminal v) 1) (is (lowest ls terminal n (region ls terminal v)) v) (differ-le (terminal v) 1) e in
          omega (arith, is_one r.1, lowest-below n v y p d o),
    ),
    λ h. let low = low-is ls terminal n v pv h.0 in
        rw (
          differ-other h.0,
          is_same {u = lowest ls terminal n (region ls terminal v)} {v = v}
              (omega (arith, lowest-below n v v pv h.0 refl, h.1 (lowest ls terminal n (region ls terminal v)) low.0 low.1 low.2)),
        ) (omega arith),
  )

-- of three sites at one link two are the same
two_only : (ls : Links) (k a x w : ℕ) → at ls a k ≡ 1 → at ls x k ≡ 1 → at ls w k ≡ 1 → x ≢ a → w ≢ a → w ≡ x
two_only ls k a x w p q r d e = go (at-end ls k p) (at-end ls k q) (at-end ls k r)
  where
    go : (one ls k ≡ a) ⊎ (two ls k ≡ a) → (one ls k ≡ x) ⊎ (two ls k ≡ x) → (one ls k ≡ w) ⊎ (two ls k ≡ w) → w ≡ x
    go (inl s) (inl t) y = absurd (d (sym t ∙ s))
    go (inr s) (inr t) y = absurd (d (sym t ∙ s))
    go (inl s) (inr t) (inl y) = absurd (e (sym y ∙ s))
    go (inl s) (inr t) (inr y) = sym y ∙ t
    go (inr s) (inl t) (inl y) = sym y ∙ t
    go (inr s) (inl t) (inr y) = absurd (e (sym y ∙ s))

module _ {ls : Links} {n : ℕ} (T : Tree ls n) (terminal : ℕ → ℕ) where
  -- the other site of a link
  other : (k a : ℕ) → k < length ls → at ls a k ≡ 1 → (x : ℕ) × (x ≢ a) × (at ls x k ≡ 1)
  other k a l p = elim (at-end ls k p) [
    | inl e ↦ (two ls k, (λ z. loopless T k l (e ∙ sym z)), at_second ls k refl)
    | inr e ↦ (one ls k, (λ z. loopless T k l (z ∙ sym e)), at_first ls k refl)
  ]

  -- sites at two different links i and j of the path of a and b, on the inner side of each: neither link is between them
  inward : (a b x y i j : ℕ) → i < length ls → j < length ls → i ≢ j → Site n a → Site n b → Site n x → at ls a i ≡ 1 → at ls x i ≡ 1 → x ≢ a
      → at ls b j ≡ 1 → at ls y j ≡ 1 → separates ls i a b ≡ 1 → separates ls i x y ≡ 0
  inward a b x y i j l k d pa pb px ai xi xa bj yj s = omega (
    arith,
    s,
    link_parts T i a x l (λ e. xa (sym e)) ai xi,
    separates_triple T i a x b l pa px pb,
    separates-same ls i b y (link-side ls i j b y k (λ e. d (sym e)) bj yj),
    triangle,
  )
    where
      triangle : separates ls i x y ≤ separates ls i x b + separates ls i b y
      triangle = unfold separates in (differ_triangle (side ls i x) (side ls i b) (side ls i y))

  -- a link separates any two sites that stand on the sides of a and b
  moved : (a b x y m : ℕ) → side ls m a ≡ side ls m x → side ls m b ≡ side ls m y → separates ls m a b ≡ separates ls m x y
  unfolding separates
  moved a b x y m p q = rw (p, q)

  free_part : (e : Pair) → Route ls n terminal e → AtOnePart ls terminal e.first e.second
  unfolding within region
  free_part e r =
      let a = e.first in
      let b = e.second in
      let pa = r.first-site in
      let pb = r.second-site in
      let ra = local_one T a b pa pb (λ z. r.different (sym z)) in
      let rb = local_one T b a pb pa r.different in
      let i = ra.0 in
      let j = rb.0 in
      let l = ra.1 in
      let k = rb.1 in
      let sj : separates ls j a b ≡ 1 = separates_comm ls j a b ∙ rb.3 in
      same? i j
      (λ o. record { first = i; second = j; first_bound = l; second_bound = k; first-at = ra.2; second_at = rb.2; part = rw o itself })
      (λ d.
      let fx = other i a l ra.2 in
      let fy = other j b k rb.2 in
      let x = fx.0 in
      let y = fy.0 in
      let px : Site n x = at-site ls T.ends i l fx.2 in
      let py : Site n y = at-site ls T.ends j k fy.2 in
      let xb : x ≢ b = λ z. d (rb.4 i l (rw z at fx.2) (separates_comm ls i b a ∙ ra.3)) in
      let ya : y ≢ a = λ z. d (sym (ra.4 j k (rw z at fy.2) sj)) in
      let tx : terminal x ≢ 1 = λ z. omega (arith, ra.3, r.free x i px z fx.1 xb l fx.2) in
      let ty : terminal y ≢ 1 = λ z. omega (arith, sj, r.free y j py z ya fy.1 k fy.2) in
      let keeps : (m : ℕ) → m < length ls → separates ls m x y ≡ 1 → within ls terminal m ≡ 1 = λ m q c.
      let mi : m ≢ i = λ z. omega (arith, rw z at c, inward a b x y i j l k d pa pb px ra.2 fx.2 fx.1 rb.2 fy.2 ra.3) in
      let mj : m ≢ j = λ z. omega (
        arith,
        rw z at c,
        separates_comm ls j x y,
        inward b a y x j i k l (λ e. d (sym e)) pb pa py rb.2 fy.2 fy.1 ra.2 fx.2 rb.3,
      ) in
      let ab : separates ls m a b ≡ 1 = moved a b x y m (link-side ls m i a x l (λ z. mi (sym z)) ra.2 fx.2)
      (link-side ls m j b y k (λ z. mj (sym z)) rb.2 fy.2) ∙ c in
      let inner : (s : ℕ) → at ls s m ≡ 1 → terminal s ≢ 1 = λ s o z. omega (
        arith,
        ab,
        r.free s m (at-site ls T.ends m q o) z
            (λ w. mi (ra.4 m q (rw w at o) ab)) (λ w. mj (rb.4 m q (rw w at o) (separates_comm ls m b a ∙ ab))) q o,
      ) in
      rw (differ-other (inner (one ls m) (at_first ls m refl)), differ-other (inner (two ls m) (at_second ls m refl))) (omega arith) in
      let same : region ls terminal y ≡ region ls terminal x = sym (kept-between T (within ls terminal) x y px py keeps) in
      record {
        first = i;
        second = j;
        first_bound = l;
        second_bound = k;
        first-at = ra.2;
        second_at = rb.2;
        part = (one_part_iff_one_region ls terminal i j l k).1 (inr (
          region ls terminal x,
          home-region ls terminal i x l fx.2 tx,
          rw same at (home-region ls terminal j y k fy.2 ty),
        ));
      })

  -- a link with an inner site and a terminal has no other terminal
  elsewhere : (k m a x w : ℕ) → at ls a k ≡ 1 → at ls x k ≡ 1 → at ls w m ≡ 1 → terminal a ≡ 1 → terminal x ≢ 1 → terminal w ≡ 1 → w ≢ a → k ≢ m
  elsewhere k m a x w p q o ta dx tw wa z =
      dx (ap terminal (sym (two_only ls k a x w p q (rw (sym z) at o) (λ u. dx (ap terminal u ∙ ta)) wa)) ∙ tw)

  part_free : (a b : ℕ) → terminal a ≡ 1 → terminal b ≡ 1 → a ≢ b → AtOnePart ls terminal a b
      → (w m : ℕ) → terminal w ≡ 1 → w ≢ a → w ≢ b → m < length ls → at ls w m ≡ 1 → separates ls m a b ≡ 0
  part_free a b ta tb d P w m tw wa wb q o =
      let i = P.first in
      let j = P.second in
      let l = P.first_bound in
      let k = P.second_bound in
      elim ((one_part_iff_one_region ls terminal i j l k).0 P.part) [
        -- one link: a and b are its sites
        | inl e ↦ let bi : at ls b i ≡ 1 = rw (sym e) at P.second_at in same? i m
            (λ z. absurd (wb (two_only ls m a b w (rw z at P.first-at) (rw z at bi) o (λ y. d (sym y)) wa)))
            (λ z. separates-same ls m a b (link-side ls m i a b l z P.first-at bi))
        -- two links with inner sites x and y of one region
        | inr r ↦
            let x = home ls terminal i in
            let y = home ls terminal j in
            let ix = member_inner ls terminal r.0 x r.1 in
            let iy = member_inner ls terminal r.0 y r.2 in
            let mi = elsewhere i m a x w P.first-at (home_at ls terminal i) o ta ix.0 tw wa in
            let mj = elsewhere j m b y w P.second_at (home_at ls terminal j) o tb iy.0 tw wb in
            separates-same ls m a b (link-side ls m i a x l mi P.first-at (home_at ls terminal i)
            ∙ region-side ls terminal m w x y o tw (ix.1 ∙ sym iy.1)
            ∙ sym (link-side ls m j b y k mj P.second_at (home_at ls terminal j)))
      ]

  -- two different terminals are free to be joined just if they stand at one part
  pub free_iff_at_one_part : (a b : ℕ) → Site n a → Site n b → terminal a ≡ 1 → terminal b ≡ 1 → a ≢ b
      → (free_pair ls terminal a b ≡ 1) ↔ AtOnePart ls terminal a b
  free_iff_at_one_part a b p q ta tb d =
      let e : Pair = record { first = a; second = b; amount = 0 } in
      let routes = free_iff_route ls terminal n T.ends e p q in (
        λ f. free_part e (routes.0 f),
        λ P. routes.1 (record {
          first-site = p;
          second-site = q;
          first-terminal = ta;
          second-terminal = tb;
          different = d;
          free = λ w m s t u v l o. part_free a b ta tb d P w m t u v l o;
        }),
      )
