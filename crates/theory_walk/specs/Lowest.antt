-- The lowest inner site: where it is 0 there is none, else it is one, no other is lower, and it goes by which sites are inner alone.
use Rattle.std.specs.Prelude.{◌≡◌, refl, ◌≢◌, ◌↔◌, ℕ, zero, suc, ◌+◌, ◌≤◌, ◌<◌}
use Rattle.std.proofs.Common.{sym, ◌∙◌, arith}
use Rattle.lists.specs.Sums.{pick_same, pick_other, same?}
use Rattle.model.specs.Pairing.{lowest_inner}

pub lowest-none : (f : ℕ → ℕ) (c m : ℕ) → 1 ≤ c → lowest_inner f c m ≡ 0 → (x : ℕ) → c ≤ x → x < c + m → f x ≡ 1
unfolding lowest_inner
lowest-none f c zero p e x a b = absurd (omega arith)
lowest-none f c (suc m) p e x a b = same? (f c) 1
    (λ o. same? x c (λ q. rw q o)
    (λ q. lowest-none f (suc c) m (omega arith) (sym (pick_same o (lowest_inner f (suc c) m) c) ∙ e) x (omega arith) (omega arith)))
    (λ d. absurd (omega (arith, pick_other d (lowest_inner f (suc c) m) c)))

pub lowest-some : (f : ℕ → ℕ) (c m : ℕ) → lowest_inner f c m ≢ 0 → (c ≤ lowest_inner f c m) × (lowest_inner f c m < c + m) × (f (lowest_inner f c m) ≢ 1)
unfolding lowest_inner
lowest-some f c zero h = absurd (h refl)
lowest-some f c (suc m) h = same? (f c) 1
    (λ o. let e = pick_same o (lowest_inner f (suc c) m) c in
    let r = lowest-some f (suc c) m (λ z. h (e ∙ z)) in rw e (omega (arith, r.0), omega (arith, r.1), r.2))
    (λ d. rw (pick_other d (lowest_inner f (suc c) m) c) (omega arith, omega arith, d))

-- where the same sites are inner, the lowest inner site is the same
pub lowest-same : (f g : ℕ → ℕ) (c m : ℕ) → ((x : ℕ) → c ≤ x → x < c + m → (f x ≡ 1) ↔ (g x ≡ 1)) → lowest_inner f c m ≡ lowest_inner g c m
unfolding lowest_inner
lowest-same f g c zero h = refl
lowest-same f g c (suc m) h =
    let rest = lowest-same f g (suc c) m (λ x p q. h x (omega arith) (omega arith)) in
    let here = h c (omega arith) (omega arith) in
    same? (f c) 1
    (λ e. pick_same e (lowest_inner f (suc c) m) c ∙ rest ∙ sym (pick_same (here.0 e) (lowest_inner g (suc c) m) c))
    (λ d. pick_other d (lowest_inner f (suc c) m) c ∙ sym (pick_other {u = g c} {v = 1} (λ e. d (here.1 e)) (lowest_inner g (suc c) m) c))
