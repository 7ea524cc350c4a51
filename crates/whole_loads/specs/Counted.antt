-- A sum along the first sites of an order, and one site more; an odd piece is counted at most once at a site.
use Rattle.std.specs.Prelude.{◌≡◌, refl, List, [], ◌∷◌, ℕ, zero, suc, ◌+◌, ◌%◌, ◌≤◌, ◌<◌, length, take}
use Rattle.std.proofs.Common.{add-one, arith}
use Rattle.lists.specs.Numbers.{pick, over, look}
use Rattle.lists.specs.Sums.{pick_cases}
use Rattle.theory_whole.specs.Counting.{odd_at}
use Rattle.whole_loads.specs.Solved.{odd_by}

pub odd_le : (owner up most c : ℕ) → odd_by owner up most c ≤ 1
odd_le owner up most c =
    let odd = (most + c) % 2 in
    pick_cases (λ r. r ≤ 1) owner 0 (pick up 0 (pick c 0 odd 0) odd) 0
    (λ e. pick_cases (λ r. r ≤ 1) up 0 (pick c 0 odd 0) odd
    (λ e. pick_cases (λ r. r ≤ 1) c 0 odd 0 (λ e. omega arith) (λ d. omega arith))
    (λ d. omega arith))
    (λ d. omega arith)

-- what is counted at a site, by its note and that of its parent
pub odd_is : (parent c most owner : ℕ → ℕ) (v : ℕ) → odd_at parent c most owner v ≡ odd_by (owner v) (owner (parent v)) (most v) (c v)
unfolding odd_at
odd_is parent c most owner v = refl

pub over_none : (us : List ℕ) (f : ℕ → ℕ) → 0 ≡ over (take 0 us) f
unfolding over
over_none us f = refl

over_more : (us : List ℕ) (f : ℕ → ℕ) (i : ℕ) → i < length us → over (take i us) f + f (look us i) ≡ over (take (suc i) us) f
unfolding over
over_more [] f i h = absurd (omega arith)
over_more (u ∷ us) f zero h = omega arith
over_more (u ∷ us) f (suc i) h = omega (arith, over_more us f i (omega arith))

-- the next site's value is added
pub over-next : (us : List ℕ) (f : ℕ → ℕ) (i : ℕ) → i < length us → over (take i us) f + f (look us i) ≡ over (take (i + 1) us) f
over-next us f i h = rw (add-one i) (over_more us f i h)
