-- Numbers with one or two left out, and lists with a place left out: what the numbering of the joined tree is made with.
use Rattle.std.specs.Prelude.{◌≡◌, ◌≢◌, ◌⊎◌, length, get_or}
use Rattle.std.proofs.Math.Path.{refl, ap}
use Rattle.std.proofs.Common.{sym, ◌∙◌, arith}
use Rattle.std.proofs.Math.Logic.{inl, inr}
use mathlib.Core.List.{List, [], ◌∷◌, map}
use Prim.Native.Nat.{ℕ, zero, suc, ◌+◌, ◌-◌, ◌≤◌, ◌<◌}
use Rattle.std.proofs.Math.Decide.{dec_lt}
use Rattle.lists.specs.Sums.{cases, less_one, less_none}
use Rattle.model.specs.Flows.{Site}
use Rattle.theory_regions.specs.JoinedTree.{down, up, left_out}

down_cases : (p y : ℕ) → ((y ≤ p) × (down p y ≡ y)) ⊎ ((p < y) × (suc (down p y) ≡ y))
unfolding down
down_cases p y = cases (dec_lt p y)
    (λ h. inr (h, omega (arith, less_one h)))
    (λ h. inl (omega arith, omega (arith, less_none h)))

pub up_cases : (p r : ℕ) → ((r < p) × (up p r ≡ r)) ⊎ ((p ≤ r) × (up p r ≡ suc r))
unfolding up
up_cases p r = cases (dec_lt r p)
    (λ h. inl (h, omega (arith, less_one h)))
    (λ h. inr (omega arith, omega (arith, less_none h)))

pub up-down : (p y : ℕ) → y ≢ p → up p (down p y) ≡ y
up-down p y d = elim (down_cases p y) [
  | inl h ↦ elim (up_cases p (down p y)) [ inl g ↦ omega arith | inr g ↦ omega arith ]
  | inr h ↦ elim (up_cases p (down p y)) [ inl g ↦ omega arith | inr g ↦ omega arith ]
]

pub down-up : (p r : ℕ) → down p (up p r) ≡ r
down-up p r = elim (up_cases p r) [
  | inl h ↦ elim (down_cases p (up p r)) [ inl g ↦ omega arith | inr g ↦ omega arith ]
  | inr h ↦ elim (down_cases p (up p r)) [ inl g ↦ omega arith | inr g ↦ omega arith ]
]

pub up-is-other : (p r : ℕ) → up p r ≢ p
up-is-other p r e = elim (up_cases p r) [ inl h ↦ omega arith | inr h ↦ omega arith ]

-- places but one, of n
pub down-below : (p y n : ℕ) → p < n → y < n → y ≢ p → suc (down p y) < n
down-below p y n l h d = elim (down_cases p y) [ inl g ↦ omega arith | inr g ↦ omega arith ]

pub up-below : (p r n : ℕ) → suc r < n → up p r < n
up-below p r n l = elim (up_cases p r) [ inl h ↦ omega arith | inr h ↦ omega arith ]

-- ---- two left out, of the sites 1 .. n

pub two_down : (lo hi y n : ℕ) → lo < hi → 1 ≤ lo → hi ≤ n → Site n y → y ≢ lo → y ≢ hi
    → (1 ≤ down lo (down hi y)) × (down lo (down hi y) + 2 ≤ n) × (up hi (up lo (down lo (down hi y))) ≡ y)
two_down lo hi y n o l h s dl dh =
    let z = down hi y in
    let dz : z ≢ lo = λ e. elim (down_cases hi y) [ inl f ↦ omega arith | inr f ↦ omega arith ] in
    let range : (1 ≤ down lo z) × (down lo z + 2 ≤ n) = elim (down_cases hi y) [
      | inl f ↦ elim (down_cases lo z) [ inl g ↦ (omega arith, omega arith) | inr g ↦ (omega arith, omega arith) ]
      | inr f ↦ elim (down_cases lo z) [ inl g ↦ (omega arith, omega arith) | inr g ↦ (omega arith, omega arith) ]
    ] in
    (range.0, range.1, ap (up hi) (up-down lo z dz) ∙ up-down hi y dh)

pub two_up : (lo hi r n : ℕ) → lo < hi → 1 ≤ r → r + 2 ≤ n
    → Site n (up hi (up lo r)) × (up hi (up lo r) ≢ lo) × (up hi (up lo r) ≢ hi) × (down lo (down hi (up hi (up lo r))) ≡ r)
two_up lo hi r n o l h =
    let q = up lo r in
    let y = up hi q in
    let range : Site n y = elim (up_cases lo r) [
      | inl f ↦ elim (up_cases hi q) [ inl g ↦ omega arith | inr g ↦ omega arith ]
      | inr f ↦ elim (up_cases hi q) [ inl g ↦ omega arith | inr g ↦ omega arith ]
    ] in
    let off : y ≢ lo = λ e. elim (up_cases hi q) [ inl g ↦ up-is-other lo r (sym g.1 ∙ e) | inr g ↦ omega arith ] in
    (range, off, up-is-other hi q, ap (down lo) (down-up hi q) ∙ down-up lo r)

-- ---- lists with a place left out

up_next : (s r : ℕ) → up (suc s) (suc r) ≡ suc (up s r)
up_next s r = elim (up_cases s r) [
  | inl h ↦ elim (up_cases (suc s) (suc r)) [ inl g ↦ omega arith | inr g ↦ absurd (omega arith) ]
  | inr h ↦ elim (up_cases (suc s) (suc r)) [ inl g ↦ absurd (omega arith) | inr g ↦ omega arith ]
]

module _ {A : Type 0} where
  pub left_out_at : (s : ℕ) (l : List A) (r : ℕ) (d : A) → get_or (left_out s l) r d ≡ get_or l (up s r) d
  unfolding left_out
  left_out_at zero [] r d = refl
  left_out_at (suc s) [] r d = refl
  left_out_at zero (x ∷ l) r d = elim (up_cases 0 r) [ inl h ↦ absurd (omega arith) | inr h ↦ rw h.1 ]
  left_out_at (suc s) (x ∷ l) zero d = elim (up_cases (suc s) 0) [ inl h ↦ rw h.1 | inr h ↦ absurd (omega arith) ]
  left_out_at (suc s) (x ∷ l) (suc r) d = rw (up_next s r) (left_out_at s l r d)

  pub length_left_out : (s : ℕ) (l : List A) → s < length l → suc (length (left_out s l)) ≡ length l
  unfolding left_out
  length_left_out s [] h = absurd (omega arith)
  length_left_out zero (x ∷ l) h = refl
  length_left_out (suc s) (x ∷ l) h = ap suc (length_left_out s l (omega arith))

-- an element of a list whose elements are changed
pub map_at : {A B : Type 0} (f : A → B) (l : List A) (i : ℕ) (d : A) (e : B) → i < length l → get_or (map f l) i e ≡ f (get_or l i d)
map_at f [] i d e h = absurd (omega arith)
map_at f (x ∷ l) zero d e h = refl
map_at f (x ∷ l) (suc i) d e h = map_at f l i d e (omega arith)
