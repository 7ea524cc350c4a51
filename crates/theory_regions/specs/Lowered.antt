-- One link's capacity lowered: from its balanced value down to any m, the link's new balanced value is m.
-- By scale alone: with t and u the balanced values before and after, t + k · u is balanced and fits k + 1 times the new capacities.
use Rattle.std.specs.Prelude.{◌≡◌, List, ℕ, suc, ◌+◌, ◌*◌, ◌≤◌, ◌<◌, length, set}
use Rattle.std.proofs.Common.{arith, mul-le-mul_left, get_or-set_same, get_or-set_other}
use Rattle.std.proofs.Math.Decide.{dec_le}
use Rattle.lists.specs.Numbers.{look}
use Rattle.lists.specs.Sums.{cases, same?}
use Rattle.model.specs.Flows.{Links, Tree, Below}
use Rattle.model.specs.Trimming.{Balanced, Greatest}
use Rattle.theory_trees.specs.Trees.{sum_at_linear}
use Rattle.theory_trees.proofs.Greatest.{greatest_keeps_what_is_balanced}

-- sums and multiples of balanced capacities are balanced
combined : (ls : Links) (terminal : ℕ → ℕ) (k : ℕ) (t u : ℕ → ℕ) → Balanced ls terminal t → Balanced ls terminal u → Balanced ls terminal (λ i. k * t i + u i)
combined ls terminal k t u a b v m j l o = omega (arith, sum_at_linear ls v k t u, mul-le-mul_left k (a v m j l o), b v m j l o)

pub lowered : {ls : Links} {n : ℕ} → Tree ls n → (terminal : ℕ → ℕ) (c : List ℕ) {t u : ℕ → ℕ} (s m : ℕ) → length c ≡ length ls → s < length ls → m ≤ t s
    → Greatest ls terminal (look c) t → Greatest ls terminal (look (set c s m)) u → u s ≡ m
lowered {ls} {n} T terminal c {t} {u} s m each l low g h =
    let k = t s in
    let at-s : look (set c s m) s ≡ m = get_or-set_same c s m 0 (omega arith) in
    cases (dec_le m (u s))
    (λ q. omega (arith, h.below s l))
    (λ q.
    let less : suc (u s) ≤ m = omega arith in
    let fits : Below ls (λ i. k * u i + t i) (λ j. suc k * look (set c s m) j) = λ j p. same? j s
    (λ e. rw (e, at-s) (omega (arith, mul-le-mul_left k less)))
    (λ d. omega (arith, g.below j p, get_or-set_other c s j m 0 d, mul-le-mul_left k (h.below j p))) in
    absurd (omega (
      arith,
      greatest_keeps_what_is_balanced T terminal h (suc k) (λ i. k * u i + t i) (combined ls terminal k u t h.balanced g.balanced) fits s l,
    )))
