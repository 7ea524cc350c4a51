-- The lowest inner site: where it is 0 there is none, else it is one, no other is lower, and it goes by which sites are inner alone.
use Rattle.std.specs.Prelude.{◌≢◌, ℕ, zero, suc, ◌+◌, ◌≤◌, ◌<◌}
use Rattle.std.proofs.Common.{arith}
use Rattle.lists.specs.Sums.{pick_cases, same?}
use Rattle.model.specs.Pairing.{lowest_inner}

pub lowest_least : (f : ℕ → ℕ) (c m x : ℕ) → c ≤ x → x < c + m → f x ≢ 1 → lowest_inner f c m ≤ x
unfolding lowest_inner
lowest_least f c zero x a b d = absurd (omega arith)
lowest_least f c (suc m) x a b d = pick_cases (λ r. r ≤ x) (f c) 1 (lowest_inner f (suc c) m) c
    (λ e. same? c x (λ z. absurd (d (rw z at e))) (λ z. lowest_least f (suc c) m x (omega arith) (omega arith) d))
    (λ e. a)
