-- The sets and the pieces along the order are those told by links: set sizes, the links that leave a piece, and the count of odd pieces.
use Rattle.std.specs.Prelude.{◌≡◌, refl, ◌≢◌, ◌⊎◌, List, length}
use Rattle.std.proofs.Math.Path.{sym, ap, ap₂}
use Rattle.std.proofs.Common.{◌∙◌, inl, inr, arith}
use Prim.Native.Nat.{ℕ, ◌+◌, ◌*◌, ◌%◌, ◌≤◌, ◌<◌}
use Rattle.lists.specs.Numbers.{pick, is, differ, sum, count, over}
use Rattle.lists.specs.Sums.{pick_same, pick_other, pick_const, is_same, is-other, is_iff, same?, differ_comm, sum-eq}
use Rattle.lists.specs.Places.{over-eq}
use Rattle.model.specs.Flows.{Links, Site, sites, one, two, at, at_terminals}
use Rattle.model.specs.Whole.{set_size as linkSetSize, connects, piece, in_piece, leaving_piece, set_sizes, odd_pieces}
use Rattle.model.specs.WholeLoads.{upward, parent_of, link_load}
use Rattle.theory_trees.specs.Trees.{at-end}
use Rattle.theory_trees.specs.Sites.{sites-site, sites_once}
use Rattle.theory_whole.specs.Sums.{over-same, choices}
use Rattle.theory_whole.specs.Rooted.{parent_first}
use Rattle.theory_whole.specs.Order.{back, back_out, back_fixed}
use Rattle.theory_whole.specs.Counting.{odd_at}
use Rattle.theory_whole.specs.Sets.{set_size}
use Rattle.theory_whole.specs.Pieces.{Firsts, member, leaving, rep_site, rep_rep}
use Rattle.theory_whole.specs.Solution.{Solution}
use Rattle.theory_whole.proofs.Solution.{solution_sizes, solution_odd}
use Rattle.theory_whole.specs.Connected.{connects-one, connects_yes, piece_agree, piece-linked, piece-piece, piece-owner}
use Rattle.theory_whole.specs.Plans.{Network, lower, largest-total, in_site, site_in_lem, root_free, one-above, by_link, climbs}
use Rattle.theory_whole.specs.LinkSets.{up, par, owner, H, R}

module _ {ls : Links} {n : ℕ} {terminal : ℕ → ℕ} {order : List ℕ} (N : Network ls n terminal order) (cap : ℕ → ℕ)
    (X : Solution order (parent_of ls order) (λ v. upward ls order v cap) terminal) where
  -- the sites of a link are the site whose parent link it is and its parent
  two_ends : (j : ℕ) (l : j < length ls) → let s = (lower N j l).site in ((one ls j ≡ s) × (two ls j ≡ par N cap X s)) ⊎ ((two ls j ≡ s) × (one ls j ≡ par N cap X s))
  two_ends j l =
      let w = lower N j l in
      let s = w.site in
      let d = climbs N s w.here in
      elim (at-end ls j w.touches) [
        | inl e ↦ inl (e, elim (at-end ls j w.parent_touches) [ inl q ↦ absurd (d (sym q ∙ e)) | inr q ↦ q ])
        | inr e ↦ inr (e, elim (at-end ls j w.parent_touches) [ inl q ↦ q | inr q ↦ absurd (d (sym q ∙ e)) ])
      ]

  -- what a symmetric function of the two sites gives, over the parent links and over the links
  link-sum : (f : ℕ → ℕ → ℕ) → ((x y : ℕ) → f x y ≡ f y x)
      → over order (λ v. f v (par N cap X v) * (up N cap X) v) ≡ sum (length ls) (λ j. f (one ls j) (two ls j) * cap j)
  link-sum f turned = over-eq order (λ v. f v (par N cap X v) * (up N cap X) v) (λ v. upward ls order v (λ j. f (one ls j) (two ls j) * cap j))
      (λ v p. elim (one-above N v p) [
        | inl r ↦ rw (r.1 cap, r.1 (λ j. f (one ls j) (two ls j) * cap j)) (omega arith)
        | inr r ↦ rw (r.5 cap, r.5 (λ j. f (one ls j) (two ls j) * cap j)) (ap (λ z. z * cap r.0) (ends v p r.0 r.2 r.3))
      ])
      ∙ by_link N (λ j. f (one ls j) (two ls j) * cap j)
    where
      ends : (v : ℕ) → 1 ≤ count order v → (e : ℕ) → at ls v e ≡ 1 → at ls (par N cap X v) e ≡ 1 → f v (par N cap X v) ≡ f (one ls e) (two ls e)
      ends v p e a b = elim (at-end ls e a) [
        | inl q ↦ elim (at-end ls e b) [ inl z ↦ absurd (climbs N v p (sym z ∙ q)) | inr z ↦ rw (q, z) refl ]
        | inr q ↦ elim (at-end ls e b) [ inl z ↦ rw (q, z) (turned v (par N cap X v)) | inr z ↦ absurd (climbs N v p (sym z ∙ q)) ]
      ]

  set-size : (t : ℕ) → set_size order (par N cap X) (up N cap X) terminal (owner N cap X) t ≡ linkSetSize ls cap (owner N cap X) t
  unfolding set_size linkSetSize
  set-size t = link-sum (λ x y. differ (is (owner N cap X x) t) (is (owner N cap X y) t)) (λ x y. differ_comm (is (owner N cap X x) t) (is (owner N cap X y) t))

  first_at : ℕ → ℕ → ℕ
  first_at v s = pick (owner N cap X v) 0 (pick (owner N cap X (par N cap X v)) 0 (pick (up N cap X v) 0 v s) v) v

  rep : ℕ → ℕ
  rep = back (λ g v. first_at v (g (par N cap X v))) order (λ x. 0)

  rep_at : (v : ℕ) → 1 ≤ count order v → rep v ≡ first_at v (rep (par N cap X v))
  unfolding rep
  rep_at v p = sym (back_fixed (λ g v. first_at v (g (par N cap X v))) (par N cap X) (λ g h v e. ap (first_at v) e) order (H N cap X).taken (λ x. 0) v p)

  firsts : Firsts order (par N cap X) (up N cap X) (owner N cap X) rep
  unfolding first_at rep
  firsts = record {
    nowhere = back_out (λ g v. first_at v (g (par N cap X v))) order (λ x. 0) 0 (root_free N);
    joined = λ v p a b d. rep_at v p ∙ rw (pick_same a, pick_same b) (pick_other d v (rep (par N cap X v)));
    in_set = λ v p a. rep_at v p ∙ pick_other a (pick (owner N cap X (par N cap X v)) 0 (pick (up N cap X v) 0 v (rep (par N cap X v))) v) v;
    at_set = λ v p b. rep_at v p ∙ rw (pick_other b) (pick_const (owner N cap X v) 0 v);
    at_none = λ v p z. rep_at v p ∙ rw (pick_same z, pick_const (owner N cap X (par N cap X v)) 0 v) (pick_const (owner N cap X v) 0 v);
  }

  abbrev tells : ℕ → ℕ
  tells x = piece ls cap (owner N cap X) x

  -- a link that connects has its two sites in one piece, with one first site
  connects_rep : (j : ℕ) → j < length ls → connects ls cap (owner N cap X) j ≡ 1 → rep (one ls j) ≡ rep (two ls j)
  connects_rep j l e =
      let y = connects_yes ls cap (owner N cap X) j e in
      let w = lower N j l in
      let s = w.site in
      let c : up N cap X s ≢ 0 = λ z. y.2 (sym (w.ups cap) ∙ z) in
      elim (two_ends j l) [
        | inl q ↦ rw (q.0, q.1) (firsts.joined s w.here (rw q.0 at y.0) (rw q.1 at y.1) c)
        | inr q ↦ rw (q.0, q.1) (sym (firsts.joined s w.here (rw q.0 at y.1) (rw q.1 at y.0) c))
      ]

  piece_rep : (x y : ℕ) → tells x ≡ tells y → rep x ≡ rep y
  piece_rep x y e = piece_agree ls cap (owner N cap X) rep connects_rep x y e

  link-piece : (v : ℕ) → 1 ≤ count order v → (e : ℕ) → e < length ls → at ls v e ≡ 1 → at ls (par N cap X v) e ≡ 1 → cap e ≢ 0
      → owner N cap X v ≡ 0 → owner N cap X (par N cap X v) ≡ 0 → tells v ≡ tells (par N cap X v)
  link-piece v p e l a b d f g = elim (at-end ls e a) [
    | inl q ↦ elim (at-end ls e b) [
      | inl z ↦ absurd (climbs N v p (sym z ∙ q))
      | inr z ↦ rw (q, z) at (piece-linked ls cap (owner N cap X) e l (connects-one ls cap (owner N cap X) e (ap (owner N cap X) q ∙ f) (ap (owner N cap X) z ∙ g) d))
    ]
    | inr q ↦ elim (at-end ls e b) [
      | inl z ↦ sym (rw (q, z) at (piece-linked ls cap (owner N cap X) e l (connects-one ls cap (owner N cap X) e (ap (owner N cap X) z ∙ g) (ap (owner N cap X) q ∙ f) d)))
      | inr z ↦ absurd (climbs N v p (sym z ∙ q))
    ]
  ]

  rep_piece : (v : ℕ) → 1 ≤ count order v → tells v ≡ tells (rep v)
  rep_piece v p = parent_first (R N cap X) (λ v. 1 ≤ count order v → tells v ≡ tells (rep v))
      (λ q. absurd (omega (arith, root_free N)))
      (λ v p ih _. same? (owner N cap X v) 0
      (λ a. same? (owner N cap X (par N cap X v)) 0
      (λ b. same? (up N cap X v) 0
      (λ z. ap tells (sym (firsts.at_none v p z)))
      (λ d. let k : par N cap X v ≢ 0 = λ z. d ((H N cap X).bare v p z) in
      step v p d a b ∙ ih ((R N cap X).home v p k) ∙ ap tells (sym (firsts.joined v p a b d))))
      (λ b. ap tells (sym (firsts.at_set v p b))))
      (λ a. ap tells (sym (firsts.in_set v p a))))
      v p p
    where
      step : (v : ℕ) → 1 ≤ count order v → up N cap X v ≢ 0 → owner N cap X v ≡ 0 → owner N cap X (par N cap X v) ≡ 0 → tells v ≡ tells (par N cap X v)
      step v p d a b = elim (one-above N v p) [
        | inl r ↦ absurd (d (r.1 cap))
        | inr r ↦ link-piece v p r.0 r.1 r.2 r.3 (λ z. d (r.5 cap ∙ z)) a b
      ]

  -- pieces and first sites tell the same sites together
  rep_same : (x y : ℕ) → 1 ≤ count order x → 1 ≤ count order y → rep x ≡ rep y → tells x ≡ tells y
  rep_same x y p q e = rep_piece x p ∙ ap tells e ∙ sym (rep_piece y q)

  piece_in : (x : ℕ) → 1 ≤ count order x → 1 ≤ count order (tells x)
  piece_in x p = omega (
    arith,
    piece_agree ls cap (owner N cap X) (count order)
        (λ j l e. site_in_lem N (one ls j) (N.tree.ends j l).0 ∙ sym (site_in_lem N (two ls j) (N.tree.ends j l).1))
        (tells x) x (piece-piece ls cap (owner N cap X) x),
  )

  -- the links that leave a piece
  piece-size : (r : ℕ) → 1 ≤ count order r → rep r ≡ r → leaving order (par N cap X) (up N cap X) (owner N cap X) rep r ≡ leaving_piece ls cap (owner N cap X) (tells r)
  unfolding leaving leaving_piece member in_piece
  piece-size r p e = link-sum (λ x y. differ (member order (par N cap X) (up N cap X) (owner N cap X) rep r x) (member order (par N cap X) (up N cap X) (owner N cap X) rep r y))
      (λ x y. differ_comm (member order (par N cap X) (up N cap X) (owner N cap X) rep r x) (member order (par N cap X) (up N cap X) (owner N cap X) rep r y))
      ∙ sum-eq (length ls)
      (λ j. differ (member order (par N cap X) (up N cap X) (owner N cap X) rep r (one ls j)) (member order (par N cap X) (up N cap X) (owner N cap X) rep r (two ls j)) * cap j)
      (λ j. differ (in_piece ls cap (owner N cap X) (tells r) (one ls j)) (in_piece ls cap (owner N cap X) (tells r) (two ls j)) * cap j)
      (λ j l. ap₂ (λ a b. differ a b * cap j) (there (one ls j) (N.tree.ends j l).0) (there (two ls j) (N.tree.ends j l).1))
    where
      there : (y : ℕ) → Site n y → is (owner N cap X y) 0 * is (rep y) r ≡ is (owner N cap X y) 0 * is (tells y) (tells r)
      there y s = let q : 1 ≤ count order y = omega (arith, site_in_lem N y s) in
          ap (λ z. is (owner N cap X y) 0 * z) (is_iff (rep y) r (tells y) (tells r)
          (λ z. rep_same y r q p (z ∙ sym e))
          (λ z. piece_rep y r z ∙ e))

  -- the odd pieces are counted right
  pub odd_counted : over order (odd_at (par N cap X) (up N cap X) X.B (owner N cap X)) ≡ odd_pieces ls n cap (owner N cap X)
  unfolding odd_pieces in_piece
  odd_counted =
      let h : ℕ → ℕ = λ x. is (owner N cap X x) 0 * (leaving_piece ls cap (owner N cap X) (tells x) % 2) in
      solution_odd (R N cap X) X firsts
      ∙ over-eq order (λ r. is (owner N cap X r) 0 * (is (rep r) r * (leaving order (par N cap X) (up N cap X) (owner N cap X) rep r % 2))) (λ r. is (rep r) r * h r)
      (λ r p. same? (rep r) r
      (λ e. rw (is_same e, piece-size r p e) (omega arith))
      (λ d. rw (is-other d) (omega arith)))
      ∙ choices order (R N cap X).once rep tells h
      (rep_site (R N cap X) X.inwards X.chains X.owners firsts)
      piece_in
      (rep_rep (R N cap X) X.inwards X.chains X.owners firsts)
      (λ x p. piece-piece ls cap (owner N cap X) x)
      rep_same
      (λ x y p q. piece_rep x y)
      (λ x p. ap₂ (λ a b. is a 0 * (leaving_piece ls cap (owner N cap X) b % 2)) (piece-owner ls cap (owner N cap X) x) (piece-piece ls cap (owner N cap X) x))
      ∙ over-same order (sites n) (λ x. is (tells x) x * h x) (λ x p. sites_once n x (in_site N x p)) (λ x p. site_in_lem N x (sites-site n x p))
      ∙ over-eq (sites n) (λ x. is (tells x) x * h x) (λ x. is (owner N cap X x) 0 * is (tells x) x * (leaving_piece ls cap (owner N cap X) x % 2)) (λ x p. same? (tells x) x
      (λ e. rw (is_same e, e) (omega arith))
      (λ d. rw (is-other d) (omega arith)))

  -- the sizes of the sets, less the odd pieces, are what the loads bring to the terminals
  pub sizes_meet_loads : set_sizes ls n terminal cap (owner N cap X) ≡ at_terminals ls n terminal (link_load ls order X.load) + odd_pieces ls n cap (owner N cap X)
  unfolding set_sizes
  sizes_meet_loads =
      over-eq (sites n) (λ t. is (terminal t) 1 * linkSetSize ls cap (owner N cap X) t) (λ t. is (terminal t) 1 * set_size order (par N cap X) (up N cap X) terminal (owner N cap X) t)
      (λ t p. ap (λ z. is (terminal t) 1 * z) (sym (set-size t)))
      ∙ over-same (sites n) order (λ t. is (terminal t) 1 * set_size order (par N cap X) (up N cap X) terminal (owner N cap X) t)
      (λ x p. site_in_lem N x (sites-site n x p)) (λ x p. sites_once n x (in_site N x p))
      ∙ solution_sizes (R N cap X) X
      ∙ ap₂ ◌+◌ (sym (largest-total N cap X)) odd_counted
