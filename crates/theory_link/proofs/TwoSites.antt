-- A tree of two sites: one link, and both sites are ends (01, "Pairing": with two sites only). The link carries all of its capacity, each site is in the
-- set of its own, and the pair list is one pair of twice the capacity, or none for capacity 0; in halves and in whole circuits.
use Rattle.std.specs.Prelude.{◌≡◌, ◌≢◌, length}
use Rattle.std.proofs.Math.Path.{refl}
use Rattle.std.proofs.Common.{sym, ap, ◌∙◌}
use Rattle.std.proofs.Math.Logic.{inl, inr}
use mathlib.Core.List.{[], ◌∷◌}
use Prim.Native.Nat.{ℕ, ◌≤◌}
use native.Mathlib.Omega.{arith}
use Rattle.lists.specs.Numbers.{pick}
use Rattle.lists.specs.Sums.{contradiction, pick_same, pick_other, same?}
use Rattle.model.specs.Flows.{Links, Tree, ends, relabel, label}
use Rattle.model.specs.Pairing.{put, give}
use Rattle.theory_link.specs.TwoSites.{Shape, link_pairs, one-pair}

-- none for capacity 0, else one
pub no_pair_lem : link_pairs 0 ≡ []
unfolding link_pairs give put
no_pair_lem = refl

pub at-most-one-pair : (c : ℕ) → length (link_pairs c) ≤ 1
at-most-one-pair c = same? c 0
    (λ e. rw e (omega (arith, ap length no_pair_lem)))
    (λ d. omega (arith, ap length (one-pair c d)))

-- by the labels, which its two sites share with site 1
the_sites_differ : (a b : ℕ) → Tree ((a, b) ∷ []) 2 → a ≢ b
unfolding label relabel
the_sites_differ a b T e =
    let whole = T.whole 2 (omega arith, omega arith) in
    let same : (x : ℕ) → pick x b a x ≡ x = λ x. same? x b (λ q. pick_same q a x ∙ e ∙ sym q) (λ d. pick_other d a x) in
    contradiction (omega (arith, whole, same 2, same 1))

pub two_sites_have_one_link : (ls : Links) → Tree ls 2 → Shape ls
two_sites_have_one_link [] T = absurd (omega (arith, T.links))
two_sites_have_one_link (l ∷ k ∷ ls) T = absurd (omega (arith, T.links))
two_sites_have_one_link ((a, b) ∷ []) T =
    let ends = T.ends 0 (omega arith) in
    let d = the_sites_differ a b T in
    same? a 1
    (λ e. let f : b ≡ 2 = omega (arith, ends.1, d) in inl (rw (e, f)))
    (λ g. let e : a ≡ 2 = omega (arith, ends.0) in let f : b ≡ 1 = omega (arith, ends.1, d) in inr (rw (e, f)))
