-- The owner of a site: the one terminal whose cut holds it, or 0 where no terminal's does.
-- By the search through the sites, and since the cuts are disjoint.
use Rattle.std.specs.Prelude.{◌≡◌, ◌≢◌, ◌⊎◌, ℕ, ◌*◌, ◌≤◌}
use Rattle.std.proofs.Math.Path.{refl}
use Rattle.std.proofs.Math.Logic.{inl, inr}
use mathlib.Core.List.{List, [], ◌∷◌}
use Rattle.std.proofs.Common.{arith}
use Rattle.lists.specs.Numbers.{is, count}
use Rattle.model.specs.Flows.{Links, Site, sites}
use Rattle.model.specs.Cuts.{group, in_cut, owner_among, owner}
use Rattle.lists.specs.Sums.{pick_same, pick_other, same?, is_same, is-other, is_one, is_le, product_one}
use Rattle.theory_trees.specs.Sites.{sites-site, sites_once}

module _ (ls : Links) (c t terminal : ℕ → ℕ) (x : ℕ) where
  in_cut-one : (a : ℕ) → in_cut ls c t a x ≢ 1 → in_cut ls c t a x ≡ 0
  unfolding in_cut
  in_cut-one a d = omega (arith, is_le (group ls c t x) (group ls c t a))

  -- w is 0 and x is in the cut of no terminal of P, or w is a terminal of P whose cut holds x
  abbrev pub Owns : (ℕ → Type 0) → ℕ → Type 0
  Owns P w = ((w ≡ 0) × ((a : ℕ) → P a → terminal a ≡ 1 → in_cut ls c t a x ≡ 0)) ⊎ (P w × (terminal w ≡ 1) × (in_cut ls c t w x ≡ 1))

  among : (us : List ℕ) → Owns (λ a. 1 ≤ count us a) (owner_among ls c t terminal us x)
  unfolding owner_among count
  among [] = inl (refl, λ a p. absurd (omega arith))
  among (u ∷ us) = same? (is (terminal u) 1 * in_cut ls c t u x) 1
      (λ e. let r = product_one (is (terminal u) 1) (in_cut ls c t u x) (is_le (terminal u) 1) e in
      rw (pick_same e) (inr (omega (arith, is_same {u = u} refl), is_one r.0, r.1)))
      (λ d. rw (pick_other d) (elim (among us) [
        | inl r ↦ inl (
          r.0,
          λ a p m. same? u a
              (λ e. in_cut-one a (λ i. d (rw (e, m, is_same {u = 1} refl, i) (omega arith))))
              (λ e. r.1 a (omega (arith, is-other e)) m),
        )
        | inr r ↦ inr (omega (arith, r.0), r.1, r.2)
      ]))

  -- the owner of x is 0 and x is in no terminal's cut, or it is a terminal whose cut holds x
  pub owner-or-none : (n : ℕ) → Owns (Site n) (owner ls c t terminal n x)
  unfolding owner
  owner-or-none n = elim (among (sites n)) [
    | inl r ↦ inl (r.0, λ a p. r.1 a (omega (arith, sites_once n a p)))
    | inr r ↦ inr (sites-site n (owner_among ls c t terminal (sites n) x) r.0, r.1, r.2)
  ]

  -- a site without an owner is in no terminal's cut
  pub without_owner_in_no_cut : (n : ℕ) → owner ls c t terminal n x ≡ 0 → (a : ℕ) → Site n a → terminal a ≡ 1 → in_cut ls c t a x ≡ 0
  without_owner_in_no_cut n e = elim (owner-or-none n) [
    | inl r ↦ r.1
    | inr r ↦ absurd (omega (arith, r.0))
  ]
