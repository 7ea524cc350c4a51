-- Two passes: capacities cut along any order from outside inward, and back out, are the greatest balanced ones.
-- Seen from the first site: cut there, do the rest, cut there again; the rest leaves alone every link that touches none of its sites.
use Rattle.std.specs.Prelude.{◌≡◌, ◌≢◌, ℕ, ◌+◌, ◌*◌, ◌≤◌, ◌<◌, length}
use Rattle.std.proofs.Math.Path.{refl}
use Rattle.std.proofs.Common.{sym, ◌∙◌}
use Rattle.std.proofs.Math.Logic.{inl, inr}
use mathlib.Core.List.{List, [], ◌∷◌, reverse, reverse_aux}
use native.Mathlib.Omega.{arith}
use Rattle.std.proofs.Math.ListN.{length-map}
use Rattle.lists.specs.Numbers.{count, upfrom, look}
use Rattle.model.specs.Flows.{Links, Ends, one, two, at, sum_at, Below}
use Rattle.model.specs.Trimming.{Light, Balanced, Greatest, cut_at, cut_site, cut_sites, unvisited, Inward, InwardOrder, balanced_along}
use Rattle.lists.specs.Sums.{is_same, is-other, same?, sum-two, sum_le_but}
use Rattle.theory_trees.specs.Trees.{at-end}
use Rattle.lists.specs.Places.{length-upfrom, look_values}
use Rattle.theory_trees.specs.Sites.{at-site, at_mono}
use Rattle.theory_trees.proofs.Cutting.{light_same, cut_at-le, cut_at_away, cut_at_stays, a-cut-leaves-none-heavy, a_cut_keeps_what_is_balanced}

-- ---- lists of capacities

module _ (ls : Links) (terminal : ℕ → ℕ) where
  -- a list cut at a site has a place for each link
  pub length-cut_site : (v : ℕ) (c : List ℕ) → length (cut_site ls terminal v c) ≡ length ls
  unfolding cut_site
  length-cut_site v c = length-map (upfrom 0 (length ls)) (cut_at ls terminal v (look c)) ∙ length-upfrom 0 (length ls)

  pub length-cut_sites : (vs c : List ℕ) → length c ≡ length ls → length (cut_sites ls terminal vs c) ≡ length ls
  unfolding cut_sites
  length-cut_sites [] c e = e
  length-cut_sites (v ∷ vs) c e = length-cut_sites vs (cut_site ls terminal v c) (length-cut_site v c)

  pub length-balanced_along : (v : ℕ) (vs c : List ℕ) → length (balanced_along ls terminal (v ∷ vs) c) ≡ length ls
  unfolding balanced_along cut_sites
  length-balanced_along v vs c = length-cut_sites (reverse (v ∷ vs)) (cut_sites ls terminal vs (cut_site ls terminal v c))
      (length-cut_sites vs (cut_site ls terminal v c) (length-cut_site v c))

  -- what it has there is the link's capacity after the cut
  pub look-cut_site : (v : ℕ) (c : List ℕ) (j : ℕ) → j < length ls → look (cut_site ls terminal v c) j ≡ cut_at ls terminal v (look c) j
  unfolding cut_site
  look-cut_site v c j l = look_values (cut_at ls terminal v (look c)) (length ls) j l

  site-le : (v : ℕ) (c : List ℕ) → Below ls (look (cut_site ls terminal v c)) (look c)
  site-le v c j l = omega (arith, look-cut_site v c j l, cut_at-le ls terminal v (look c) j)

  site_away : (v : ℕ) (c : List ℕ) (j : ℕ) → j < length ls → at ls v j ≢ 1 → look (cut_site ls terminal v c) j ≡ look c j
  site_away v c j l d = look-cut_site v c j l ∙ cut_at_away ls terminal v (look c) j d

  site_light : (v : ℕ) (c : List ℕ) → terminal v ≢ 1 → Light ls v (look (cut_site ls terminal v c))
  site_light v c m = light_same ls v (cut_at ls terminal v (look c)) (look (cut_site ls terminal v c))
      (λ i l a. look-cut_site v c i l)
      (a-cut-leaves-none-heavy ls terminal v (look c) m)

  site-fits : (v k : ℕ) (c : List ℕ) (f : ℕ → ℕ) → Balanced ls terminal f → Below ls f (λ j. k * look c j)
      → Below ls f (λ j. k * look (cut_site ls terminal v c) j)
  site-fits v k c f b h j l = rw (look-cut_site v c j l) (a_cut_keeps_what_is_balanced ls terminal v k (look c) f (b v) h j l)

  -- ---- both ways, from the first site's point of view

  twice : List ℕ → List ℕ → List ℕ
  twice [] c = c
  twice (v ∷ vs) c = cut_site ls terminal v (twice vs (cut_site ls terminal v c))

  cuts_twice : (vs rs c : List ℕ) → cut_sites ls terminal (reverse_aux vs rs) (cut_sites ls terminal vs c) ≡ cut_sites ls terminal rs (twice vs c)
  unfolding cut_sites twice
  cuts_twice [] rs c = refl
  cuts_twice (v ∷ vs) rs c = cuts_twice vs (v ∷ rs) (cut_site ls terminal v c)

  along_twice : (order c : List ℕ) → balanced_along ls terminal order c ≡ twice order c
  unfolding balanced_along cut_sites
  along_twice order c = cuts_twice order [] c

  twice_le : (vs c : List ℕ) → Below ls (look (twice vs c)) (look c)
  unfolding twice
  twice_le [] c j l = omega arith
  twice_le (v ∷ vs) c j l =
      let d = cut_site ls terminal v c in
      omega (arith, site-le v (twice vs d) j l, twice_le vs d j l, site-le v c j l)

  twice_fits : (vs : List ℕ) (k : ℕ) (c : List ℕ) (f : ℕ → ℕ) → Balanced ls terminal f → Below ls f (λ j. k * look c j)
      → Below ls f (λ j. k * look (twice vs c) j)
  unfolding twice
  twice_fits [] k c f b h = h
  twice_fits (v ∷ vs) k c f b h =
      let d = cut_site ls terminal v c in
      site-fits v k (twice vs d) f b (twice_fits vs k d f b (site-fits v k c f b h))

  -- a link that touches no site of the list keeps its capacity
  twice_away : (vs c : List ℕ) (j : ℕ) → j < length ls → count vs (one ls j) ≡ 0 → count vs (two ls j) ≡ 0 → look (twice vs c) j ≡ look c j
  unfolding twice count
  twice_away [] c j l p q = refl
  twice_away (v ∷ vs) c j l p q =
      let d = cut_site ls terminal v c in
      let off : at ls v j ≢ 1 = λ a. elim (at-end ls j a) [ inl e ↦ omega (arith, is_same (sym e)) | inr e ↦ omega (arith, is_same (sym e)) ] in
      site_away v (twice vs d) j l off ∙ twice_away vs d j l (omega arith) (omega arith) ∙ site_away v c j l off

-- ---- the order

module _ (ls : Links) where
  -- a visited link of v touches no later site
  visited_away : (v : ℕ) (vs : List ℕ) (i : ℕ) → count vs v ≡ 0 → at ls v i ≡ 1 → unvisited ls (v ∷ vs) i ≡ 0
      → (count vs (one ls i) ≡ 0) × (count vs (two ls i) ≡ 0)
  unfolding unvisited count
  visited_away v vs i z a u = elim (at-end ls i a) [
    | inl e ↦ (rw e z, omega (arith, rw (e, is_same {u = v} refl, z) at u))
    | inr e ↦ (omega (arith, rw (e, is_same {u = v} refl, z) at u), rw e z)
  ]

  -- and a link of v to a later site is not visited
  unvisited_ge : (v w : ℕ) (vs : List ℕ) (i : ℕ) → count vs v ≡ 0 → 1 ≤ count vs w → at ls v i ≡ 1 → at ls w i ≡ 1 → 1 ≤ unvisited ls (v ∷ vs) i
  unvisited_ge v w vs i z p a b = same? (unvisited ls (v ∷ vs) i) 0
      (λ u. let r = visited_away v vs i z a u in
      absurd (elim (at-end ls i b) [ inl e ↦ omega (arith, rw e at r.0) | inr e ↦ omega (arith, rw e at r.1) ]))
      (λ d. omega arith)

  -- the other links of v are visited
  only_one : (v : ℕ) (us : List ℕ) (i x : ℕ) → sum_at ls v (unvisited ls us) ≤ 1 → i < length ls → x < length ls → x ≢ i
      → at ls v i ≡ 1 → at ls v x ≡ 1 → 1 ≤ unvisited ls us i → unvisited ls us x ≡ 0
  unfolding sum_at
  only_one v us i x s l k d a b u = omega (arith, rw (a, b) at (sum-two (length ls) x i (λ y. at ls v y * unvisited ls us y) k l d))

  -- r and c agree on the links of v but for link i, where r is lower: then link i stays light
  light_lower : (v i : ℕ) (c r : ℕ → ℕ) → i < length ls → at ls v i ≡ 1 → ((x : ℕ) → x < length ls → x ≢ i → at ls v x ≡ 1 → r x ≡ c x)
      → r i ≤ c i → Light ls v c → r i + r i ≤ sum_at ls v r
  unfolding sum_at
  light_lower v i c r l a h low b = omega (
    arith,
    b i l a,
    rw a at (sum_le_but (length ls) i (λ x. at ls v x * c x) (λ x. at ls v x * r x) l
        (λ x k d. at_mono ls v x (c x) (r x) (λ q. omega (arith, h x k d q)))),
  )

module _ (ls : Links) (terminal : ℕ → ℕ) where
  -- inward and back out leaves no link heavy at an inner site of the list
  twice_light : (vs c : List ℕ) → Inward ls vs → (w : ℕ) → 1 ≤ count vs w → terminal w ≢ 1 → Light ls w (look (twice ls terminal vs c))
  unfolding twice count
  twice_light [] c h w p m = absurd (omega arith)
  twice_light (v ∷ vs) c h w p m =
      let d = cut_site ls terminal v c in
      let r = twice ls terminal vs d in
      same? v w
      (λ e. rw e (site_light ls terminal w (twice ls terminal vs (cut_site ls terminal w c)) m))
      (λ e. let q : 1 ≤ count vs w = omega (arith, is-other e) in
      light_same ls w (look r) (look (cut_site ls terminal v r))
      (λ i l b. look-cut_site ls terminal v r i l ∙ cut_at_stays ls terminal v (look r) i l
      (λ a mv. light_lower ls v i (look d) (look r) l a
      (λ x k z a'. let u = unvisited_ge ls v w vs i h.0 q a b in
      let y = visited_away ls v vs x h.0 a' (only_one ls v (v ∷ vs) i x h.1 l k z a a' u) in
      twice_away ls terminal vs d x k y.0 y.1)
      (twice_le ls terminal vs d i l)
      (site_light ls terminal v c mv)))
      (twice_light vs d h.2 w q m))

  -- whatever is balanced and fits in k times the given capacities fits in k times the cut ones, along any list of sites
  pub passes_keep_what_is_balanced : (order : List ℕ) (k : ℕ) (c : List ℕ) (f : ℕ → ℕ) → Balanced ls terminal f → Below ls f (λ j. k * look c j)
      → Below ls f (λ j. k * look (balanced_along ls terminal order c) j)
  passes_keep_what_is_balanced order k c f b h j l = rw (along_twice ls terminal order c) (twice_fits ls terminal order k c f b h j l)

  module _ {n : ℕ} (ends : Ends ls n) (order : List ℕ) (o : InwardOrder ls n order) (c : List ℕ) where
    -- two passes leave no link heavy
    pub two_passes_balance : Balanced ls terminal (look (balanced_along ls terminal order c))
    two_passes_balance v m j l a =
        rw (along_twice ls terminal order c) (twice_light order c o.inward v (o.all v (at-site ls ends j l a)) m j l a)

    -- so they give the greatest balanced capacities, whatever the order
    pub balanced_along_is_greatest : Greatest ls terminal (look c) (look (balanced_along ls terminal order c))
    balanced_along_is_greatest = record {
      below = λ j l. rw (along_twice ls terminal order c) (twice_le ls terminal order c j l);
      balanced = two_passes_balance;
      greatest = λ s b h j l. omega (arith, passes_keep_what_is_balanced order 1 c s b (λ i k. omega (arith, h i k)) j l);
    }
