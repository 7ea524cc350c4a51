-- The joined tree, however it is numbered, is a tree; and the sums of the two regions over their own ends add up to its sum over all ends.
-- By counting links: each is carried from one region, the shared one from both; of its two sites each is near in one region.
use Rattle.std.specs.Prelude.{◌≡◌, ℕ, ◌+◌, ◌*◌, ◌<◌, length}
use Rattle.std.proofs.Math.Path.{refl, sym, ap}
use Rattle.std.proofs.Common.{◌∙◌}
use Rattle.std.proofs.Math.Logic.{inl, inr}
use native.Mathlib.Omega.{arith}
use Rattle.lists.specs.Numbers.{is, sum}
use Rattle.lists.specs.Sums.{is_same, is-other, same?, sum_one, sum-add, sum-eq, sum-single}
use Rattle.model.specs.Flows.{Site, one, two, label, Tree}
use Rattle.theory_trees.specs.Labels.{linked}
use Rattle.theory_trees.specs.Trees.{all_agree}
use Rattle.theory_regions.specs.Regions.{Region}
use Rattle.theory_regions.specs.JoinedTree.{Border, Bordered, Lies, Joins}
use Rattle.theory_regions.specs.Carried.{hits, hits-one, hits-none, sum_carried}
use Rattle.theory_regions.specs.Meeting.{near-site, far-site, turned}

-- ---- links counted
module _ {a b t : Region} {p q : Border} {site₁ link₁ site₂ link₂ : ℕ → ℕ} (A : Bordered a p) (B : Bordered b q)
    (J : Joins a p b q t site₁ link₁ site₂ link₂) where
  -- a link of the first region is carried from there once, and from the second if it is the shared one
  hits_of_the_first : (i : ℕ) → i < length a.links
      → hits (length a.links) link₁ (link₁ i) + hits (length b.links) link₂ (link₁ i) ≡ 1 + is (link₁ i) (link₁ p.shared)
  hits_of_the_first i l =
      let n = length b.links in
      let once = hits-one (length a.links) link₁ i l (λ k h. J.first.link_once k i h l) in
      let other = hits-one n link₂ q.shared B.here (λ k h. J.second.link_once k q.shared h B.here) in
      same? i p.shared
      (λ e. omega (arith, once, is_same (ap link₁ e), rw (← J.one_link, ← e) at other))
      (λ d. omega (
        arith,
        once,
        is-other {u = link₁ i} {v = link₁ p.shared} (λ e. d (J.first.link_once i p.shared l A.here e)),
        hits-none n link₂ (link₁ i) (λ k h e. d (J.only i k l h (sym e)).0),
      ))

module _ {a b t : Region} {p q : Border} {site₁ link₁ site₂ link₂ : ℕ → ℕ} (A : Bordered a p) (B : Bordered b q)
    (J : Joins a p b q t site₁ link₁ site₂ link₂) where
  hits_of_both : (j : ℕ) → j < length t.links
      → hits (length a.links) link₁ j + hits (length b.links) link₂ j ≡ 1 + is j (link₁ p.shared)
  hits_of_both j l = elim (J.each-link j l) [
    | inl r ↦ rw (← r.2) (hits_of_the_first A B J r.0 r.1)
    | inr r ↦ rw (← r.2, J.one_link) (omega (arith, hits_of_the_first B A (turned J) r.0 r.1))
  ]

  -- a sum over the links of both regions counts the shared link twice
  pub sum-over-both : (f : ℕ → ℕ)
      → sum (length a.links) (λ i. f (link₁ i)) + sum (length b.links) (λ k. f (link₂ k)) ≡ sum (length t.links) f + f (link₁ p.shared)
  sum-over-both f =
      let m = length t.links in
      let s = link₁ p.shared in
      let one_hit : ℕ → ℕ = λ j. hits (length a.links) link₁ j * f j in
      let two-hit : ℕ → ℕ = λ j. hits (length b.links) link₂ j * f j in
      let single : ℕ → ℕ = λ j. is j s * f j in
      let itself : is s s ≡ 1 = is_same refl in
      omega (
        arith,
        sum_carried (length a.links) m link₁ f J.first.within,
        sum_carried (length b.links) m link₂ f J.second.within,
        sum-add m one_hit two-hit,
        sum-eq m (λ j. one_hit j + two-hit j) (λ j. f j + single j) (λ j l. omega (arith, ap (λ h. h * f j) (hits_of_both j l))),
        sum-add m f single,
        rw itself at (sum-single m s single (J.first.within p.shared A.here) (λ j l d. rw (is-other d) (omega arith))),
      )

-- ---- a tree
module _ {a : Region} {p : Border} {t : Region} {site link : ℕ → ℕ} (L : Lies a p t site link) where
  linked-there : (i : ℕ) → i < length a.links → label t.links (site (one a.links i)) ≡ label t.links (site (two a.links i))
  linked-there i l =
      let e = linked t.links (link i) (L.within i l) in
      elim (L.carried i l) [ inl c ↦ rw (c.0, c.1) at e | inr c ↦ sym (rw (c.0, c.1) at e) ]

  sites-there : Bordered a p → (i : ℕ) → i < length a.links → Site t.sites (one t.links (link i)) × Site t.sites (two t.links (link i))
  sites-there A i l =
      let x = L.inside (one a.links i) (A.tree.ends i l).0 in
      let y = L.inside (two a.links i) (A.tree.ends i l).1 in
      elim (L.carried i l) [ inl c ↦ rw (c.0, c.1) (x, y) | inr c ↦ rw (c.0, c.1) (y, x) ]

  -- all sites of the region are joined there
  joined-there : Bordered a p → (x : ℕ) → Site a.sites x → (y : ℕ) → Site a.sites y → label t.links (site x) ≡ label t.links (site y)
  joined-there A x s y r = all_agree A.tree (λ z. label t.links (site z)) linked-there x y s r

module _ {a b t : Region} {p q : Border} {site₁ link₁ site₂ link₂ : ℕ → ℕ} (A : Bordered a p) (B : Bordered b q)
    (J : Joins a p b q t site₁ link₁ site₂ link₂) where
  joined-to-near : (z : ℕ) → Site t.sites z → label t.links z ≡ label t.links (site₁ p.near)
  joined-to-near z s = elim (J.each-site z s) [
    | inl r ↦ rw r.2 at (joined-there J.first A r.0 r.1 p.near (near-site A))
    | inr r ↦ rw r.2 at (joined-there J.second B r.0 r.1 q.far (far-site B)) ∙ ap (label t.links) (sym J.near-far)
  ]

  pub the_joined_tree_is_a_tree : Tree t.links t.sites
  the_joined_tree_is_a_tree = record {
    big = omega (arith, A.tree.big, B.tree.big, J.sites_once);
    ends = λ j l. elim (J.each-link j l) [
      | inl r ↦ rw r.2 at (sites-there J.first A r.0 r.1)
      | inr r ↦ rw r.2 at (sites-there J.second B r.0 r.1)
    ];
    links = omega (
      arith,
      A.tree.links,
      B.tree.links,
      J.sites_once,
      sum-over-both A B J (λ j. 1),
      sum_one (length a.links),
      sum_one (length b.links),
      sum_one (length t.links),
    );
    whole = λ z s. joined-to-near z s ∙ sym (joined-to-near 1 (omega (arith, A.tree.big, B.tree.big, J.sites_once)));
  }
