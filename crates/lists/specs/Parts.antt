-- Sums in parts: the first terms and the rest, a sum over the numbers from b up, and terms that are 0.
use Rattle.std.specs.Prelude.{◌≡◌, refl, ℕ, zero, suc, ◌+◌, ◌≤◌}
use Rattle.std.proofs.Common.{ap, add-zero, add-suc, arith}
use Rattle.lists.specs.Numbers.{sum, over, upfrom}
use Rattle.lists.specs.Sums.{sum-eq, sum-none}

pub sum-split : (f : ℕ → ℕ) (a b : ℕ) → sum (a + b) f ≡ sum a f + sum b (λ i. f (a + i))
unfolding sum
sum-split f a zero = rw (add-zero a) (omega arith)
sum-split f a (suc b) = rw add-suc (omega (arith, sum-split f a b))

pub sum-front : (f : ℕ → ℕ) (n : ℕ) → sum (suc n) f ≡ f 0 + sum n (λ i. f (suc i))
unfolding sum
sum-front f zero = omega arith
sum-front f (suc n) = omega (arith, sum-front f n)

pub sum_past : (f : ℕ → ℕ) (n d : ℕ) → ((i : ℕ) → n ≤ i → f i ≡ 0) → sum (n + d) f ≡ sum n f
sum_past f n d h = omega (arith, sum-split f n d, sum-none d, sum-eq d (λ i. f (n + i)) (λ i. 0) (λ i l. h (n + i) (omega arith)))

pub over-upfrom : (f : ℕ → ℕ) (b n : ℕ) → over (upfrom b n) f ≡ sum n (λ i. f (b + i))
unfolding over upfrom sum
over-upfrom f b zero = refl
over-upfrom f b (suc n) = omega (
  arith,
  over-upfrom f (suc b) n,
  sum-front (λ i. f (b + i)) n,
  ap f (add-zero b),
  sum-eq n (λ i. f (suc b + i)) (λ i. f (b + suc i)) (λ i l. ap f (omega arith)),
)
