-- Every link leads from its child: what is summed upward from the child is of that link, and the load of the link is that of the child.
use Rattle.std.specs.Prelude.{◌≡◌, refl, ◌≢◌, List, ℕ, ◌*◌, ◌≤◌, ◌<◌, length}
use Rattle.std.proofs.Common.{sym, ◌∙◌, arith}
use Rattle.std.proofs.Math.Path.{ap}
use Rattle.lists.specs.Numbers.{is, count, over}
use Rattle.lists.specs.Sums.{is_same, is-other, same?, product_one, sum-single}
use Rattle.lists.specs.Places.{over-eq, over-is}
use Rattle.model.specs.Flows.{Links, one, two}
use Rattle.model.specs.Trimming.{unvisited, Inward}
use Rattle.model.specs.WholeLoads.{from, upward, link_load}
use Rattle.theory_whole.specs.Sums.{over_only}
use Rattle.theory_whole.specs.Links.{Above, above, single, upward_out, all-links}
use Rattle.theory_whole.proofs.Links.{from-count}
use Rattle.whole_parents.specs.Parents.{Leads}

module _ (ls : Links) (loopless : (i : ℕ) → i < length ls → one ls i ≢ two ls i) (us : List ℕ) (inward : Inward ls us) where
  -- upward from its child there is link j
  pub leads_upward : (j c : ℕ) → j < length ls → Leads ls us j c → (f : ℕ → ℕ) → upward ls us c f ≡ f j
  leads_upward j c h w f = by (above ls loopless us inward c w.listed)
    where
      by : Above ls loopless us c → upward ls us c f ≡ f j
      by (Above.none z zeros) = absurd (omega (arith, rw (w.here, w.later) at (zeros j h)))
      by (Above.some e l a u up rest) = same? j e
          (λ q. rw q (up f))
          (λ d. absurd (omega (arith, rw (w.here, w.later) at (rest j h d))))

  module _ (j c : ℕ) (h : j < length ls) (w : Leads ls us j c) where
    both-listed : unvisited ls us j ≡ 1
    unfolding unvisited
    both-listed =
        let a = one ls j in
        let b = two ls j in
        let s = single ls loopless us inward in
        let m = from-count us c in
        let p = product_one (count (from us c) a) (count (from us c) b) (omega (arith, m a, s a)) (unfold unvisited in w.later) in
        let one-a : count us a ≡ 1 = omega (arith, m a, s a, p.0) in
        let one_b : count us b ≡ 1 = omega (arith, m b, s b, p.1) in
        rw (one-a, one_b) (omega arith)

    -- only the child has link j upward
    leads-only : (v : ℕ) → 1 ≤ count us v → upward ls us v (λ i. is i j) ≡ is v c
    leads-only v p =
        let g : ℕ → ℕ = λ x. upward ls us x (λ i. is i j) in
        let all : over us g ≡ 1 = omega (
          arith,
          all-links ls loopless us inward (λ i. is i j),
          sum-single (length ls) j (λ i. unvisited ls us i * is i j) h (λ i l d. rw (is-other d) (omega arith)),
          ap (λ z. z * is j j) both-listed,
          is_same {u = j} refl,
        ) in
        let r = over_only us g all in
        let up : g c ≡ 1 = leads_upward j c h w (λ i. is i j) ∙ is_same {u = j} refl in
        let same : c ≡ r.0 = same? c r.0 (λ e. e) (λ d. absurd (omega (arith, r.3 c w.listed d))) in
        same? v c
        (λ e. rw (e, is_same {u = c} refl) up)
        (λ d. rw (is-other d) (r.3 v p (λ e. d (e ∙ sym same))))

    -- so the load of link j is that of its child
    pub link-load : (x : ℕ → ℕ) → link_load ls us x j ≡ x c
    unfolding link_load
    link-load x =
        let once : count us c ≡ 1 = omega (arith, w.listed, single ls loopless us inward c) in
        over-eq us (λ v. upward ls us v (λ i. is i j) * x v) (λ v. is v c * x v) (λ v p. ap (λ z. z * x v) (leads-only v p))
        ∙ over-is us c x ∙ rw once (omega arith)

  -- upward from a site that is no link's child there is nothing
  pub no_child : (child : ℕ → ℕ) → ((j : ℕ) → j < length ls → Leads ls us j (child j)) → (x : ℕ) → ((j : ℕ) → j < length ls → child j ≢ x)
      → (f : ℕ → ℕ) → upward ls us x f ≡ 0
  no_child child leads x d f = same? (count us x) 0
      (λ z. upward_out ls us x z f)
      (λ p. by (omega arith) (above ls loopless us inward x (omega arith)))
    where
      by : 1 ≤ count us x → Above ls loopless us x → upward ls us x f ≡ 0
      by p (Above.none z zeros) = z f
      by p (Above.some e l a u up rest) = absurd (same? x (child e)
          (λ q. d e l (sym q))
          (λ q. omega (arith, leads-only e (child e) l (leads e l) x p, up (λ i. is i e), is_same {u = e} refl, is-other q)))
