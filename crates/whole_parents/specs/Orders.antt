-- An order that has no site twice: what stands from a site on, and where a site stands.
use Rattle.std.specs.Prelude.{◌≡◌, refl, ◌≢◌, List, [], ◌∷◌, ℕ, zero, suc, ◌≤◌, ◌<◌, length, drop}
use Rattle.std.proofs.Common.{sym, ap, ◌∙◌, arith, length-drop}
use Rattle.std.proofs.Math.Logic.{if_pos, if_neg}
use Rattle.std.proofs.Math.Decide.{ℕ_discrete}
use Rattle.lists.specs.Numbers.{look, count}
use Rattle.lists.specs.Sums.{is_same, is-other, same?}
use Rattle.model.specs.WholeLoads.{from}

-- what stands at place i or later is found from place i on
pub count-drop : (us : List ℕ) (i k : ℕ) → i ≤ k → k < length us → 1 ≤ count (drop i us) (look us k)
unfolding count
count-drop [] i k h l = absurd (omega arith)
count-drop (u ∷ us) zero zero h l = omega (arith, is_same {u = u} refl)
count-drop (u ∷ us) zero (suc k) h l = omega (arith, count-drop us zero k (omega arith) (omega arith))
count-drop (u ∷ us) (suc i) zero h l = absurd (omega arith)
count-drop (u ∷ us) (suc i) (suc k) h l = count-drop us i k (omega arith) (omega arith)

-- a site of the order has a place
pub place_of : (us : List ℕ) (x : ℕ) → 1 ≤ count us x → (i : ℕ) × (i < length us) × (look us i ≡ x)
unfolding count
place_of [] x p = absurd (omega arith)
place_of (u ∷ us) x p = same? u x
    (λ e. (0, omega arith, e))
    (λ d. let r = place_of us x (omega (arith, is-other d)) in (suc r.0, omega (arith, r.1), r.2))

-- from the site at place i on there stands what stands from place i on
pub from_place : (us : List ℕ) → ((x : ℕ) → count us x ≤ 1) → (i : ℕ) → i < length us → from us (look us i) ≡ drop i us
unfolding count from
from_place [] s i h = absurd (omega arith)
from_place (u ∷ us) s zero h = if_pos (ℕ_discrete u u) refl (u ∷ us) (from us u)
from_place (u ∷ us) s (suc i) h =
    let x = look us i in
    let d : u ≢ x = λ e. omega (arith, s x, is_same e, count-drop us zero i (omega arith) (omega arith)) in
    if_neg (ℕ_discrete u x) d (u ∷ us) (from us x) ∙ from_place us (λ z. omega (arith, s z)) i (omega arith)

-- two places have different sites
pub place-told : (us : List ℕ) → ((x : ℕ) → count us x ≤ 1) → (i k : ℕ) → i < length us → k < length us → look us i ≡ look us k → i ≡ k
place-told us s i k h l e = omega (
  arith,
  length-drop i us,
  length-drop k us,
  ap length (sym (from_place us s i h) ∙ ap (from us) e ∙ from_place us s k l),
)

-- a site at place i or later is found from the site at place i on
pub from-later : (us : List ℕ) → ((x : ℕ) → count us x ≤ 1) → (i k : ℕ) → i ≤ k → k < length us → (a b : ℕ) → look us i ≡ a → look us k ≡ b
    → 1 ≤ count (from us a) b
from-later us s i k h l a b e f = rw (← e, ← f, from_place us s i (omega arith)) (count-drop us i k h l)
