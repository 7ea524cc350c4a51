-- Laws of choices, of tests as the numbers 0 and 1, and of sums over the numbers below n.
use Rattle.std.specs.Prelude.{◌≡◌, refl, ◌≢◌, ◌⊎◌, ℕ, zero, suc, ◌+◌, ◌*◌, ◌≤◌, ◌<◌, min}
use Rattle.std.proofs.Common.{sym, ◌∙◌, inl, inr, arith}
use Rattle.std.proofs.Math.Logic.{if_pos, if_neg}
use Rattle.std.proofs.Math.Decide.{ℕ_discrete, dec_lt}
use Rattle.lists.specs.Numbers.{pick, is, differ, less, sum}

-- from 0 ≡ 1 anything follows: the case does not arise
pub contradiction : {A : Type 0} → ◌≡◌ {A = ℕ} 0 1 → A
contradiction e = absurd (omega arith)

-- ---- choices and tests

pub pick_same : {A : Type 0} {u v : ℕ} → u ≡ v → (a b : A) → pick u v a b ≡ a
unfolding pick
pick_same {u = u} {v = v} e a b = if_pos (ℕ_discrete u v) e a b

pub pick_other : {A : Type 0} {u v : ℕ} → u ≢ v → (a b : A) → pick u v a b ≡ b
unfolding pick
pick_other {u = u} {v = v} d a b = if_neg (ℕ_discrete u v) d a b

-- proof by cases: on a decision, on u ≡ v, and on whether a choice was made
pub cases : {P C : Type 0} → Dec P → (P → C) → (¬ P → C) → C
cases (yes p) f g = f p
cases (no n) f g = g n

pub same? : {C : Type 0} (u v : ℕ) → (u ≡ v → C) → (u ≢ v → C) → C
same? u v f g = cases (ℕ_discrete u v) f g

pub pick_cases : {A : Type 0} (P : A → Type 0) (u v : ℕ) (a b : A) → (u ≡ v → P a) → (u ≢ v → P b) → P (pick u v a b)
pick_cases P u v a b f g = same? u v (λ e. rw (pick_same e) (f e)) (λ d. rw (pick_other d) (g d))

pub pick_const : {A : Type 0} (u v : ℕ) (a : A) → pick u v a a ≡ a
pick_const u v a = pick_cases (λ r. r ≡ a) u v a a (λ e. refl) (λ d. refl)

pub is_same : {u v : ℕ} → u ≡ v → is u v ≡ 1
unfolding is
is_same e = pick_same e 1 0

pub is-other : {u v : ℕ} → u ≢ v → is u v ≡ 0
unfolding is
is-other d = pick_other d 1 0

pub is_one : {u v : ℕ} → is u v ≡ 1 → u ≡ v
is_one {u} {v} e = same? u v (λ z. z) (λ d. absurd (omega (arith, is-other d)))

pub is_le : (u v : ℕ) → is u v ≤ 1
is_le u v = same? u v (λ e. omega (arith, is_same e)) (λ d. omega (arith, is-other d))

pub is_mono : (u v u' v' : ℕ) → (u ≡ v → u' ≡ v') → is u v ≤ is u' v'
is_mono u v u' v' h = same? u v (λ e. omega (arith, is_same e, is_same (h e))) (λ d. omega (arith, is-other d))

pub is_iff : (u v u' v' : ℕ) → (u ≡ v → u' ≡ v') → (u' ≡ v' → u ≡ v) → is u v ≡ is u' v'
is_iff u v u' v' h k = omega (arith, is_mono u v u' v' h, is_mono u' v' u v k)

pub differ_same : {u v : ℕ} → u ≡ v → differ u v ≡ 0
unfolding differ
differ_same e = pick_same e 0 1

pub differ-other : {u v : ℕ} → u ≢ v → differ u v ≡ 1
unfolding differ
differ-other d = pick_other d 0 1

pub differ-le : (u v : ℕ) → differ u v ≤ 1
differ-le u v = same? u v (λ e. omega (arith, differ_same e)) (λ d. omega (arith, differ-other d))

pub differ_triangle : (u v w : ℕ) → differ u w ≤ differ u v + differ v w
differ_triangle u v w = same? u v
    (λ e. rw e (omega arith))
    (λ d. omega (arith, differ-other d, differ-le u w))

pub differ_comm : (u v : ℕ) → differ u v ≡ differ v u
differ_comm u v = same? u v (λ e. rw e) (λ d. differ-other d ∙ sym (differ-other (λ e. d (sym e))))

-- of three numbers that are p or q two are the same
pub differ_triple : (u v w p q : ℕ) → (u ≡ p) ⊎ (u ≡ q) → (v ≡ p) ⊎ (v ≡ q) → (w ≡ p) ⊎ (w ≡ q) → differ u v + differ v w + differ u w ≤ 2
differ_triple u v w p q (inl a) (inl b) c = omega (arith, differ_same (a ∙ sym b), differ-le v w, differ-le u w)
differ_triple u v w p q (inr a) (inr b) c = omega (arith, differ_same (a ∙ sym b), differ-le v w, differ-le u w)
differ_triple u v w p q (inl a) (inr b) (inl c) = omega (arith, differ_same (a ∙ sym c), differ-le v w, differ-le u v)
differ_triple u v w p q (inr a) (inl b) (inr c) = omega (arith, differ_same (a ∙ sym c), differ-le v w, differ-le u v)
differ_triple u v w p q (inl a) (inr b) (inr c) = omega (arith, differ_same (b ∙ sym c), differ-le u w, differ-le u v)
differ_triple u v w p q (inr a) (inl b) (inl c) = omega (arith, differ_same (b ∙ sym c), differ-le u w, differ-le u v)

-- a product that is 1, of a test and a number
pub product_one : (a b : ℕ) → a ≤ 1 → a * b ≡ 1 → (a ≡ 1) × (b ≡ 1)
product_one a b l e = same? a 0 (λ z. absurd (omega (arith, rw z at e))) (λ z. let o : a ≡ 1 = omega arith in (o, omega (arith, rw o at e)))

-- ---- sums

pub sum-add : (n : ℕ) (f g : ℕ → ℕ) → sum n (λ i. f i + g i) ≡ sum n f + sum n g
unfolding sum
sum-add zero f g = refl
sum-add (suc n) f g = let h = sum-add n f g in omega arith

pub sum-mul : (n k : ℕ) (f : ℕ → ℕ) → sum n (λ i. k * f i) ≡ k * sum n f
unfolding sum
sum-mul zero k f = omega arith
sum-mul (suc n) k f = let h = sum-mul n k f in omega arith

pub sum_one : (n : ℕ) → sum n (λ i. 1) ≡ n
unfolding sum
sum_one zero = refl
sum_one (suc n) = let h = sum_one n in omega arith

pub sum-none : (n : ℕ) → sum n (λ i. 0) ≡ 0
unfolding sum
sum-none zero = refl
sum-none (suc n) = let h = sum-none n in omega arith

pub sum-le : (n : ℕ) (f g : ℕ → ℕ) → ((i : ℕ) → i < n → f i ≤ g i) → sum n f ≤ sum n g
unfolding sum
sum-le zero f g h = omega arith
sum-le (suc n) f g h = omega (arith, sum-le n f g (λ i l. h i (omega arith)), h n (omega arith))

pub sum-eq : (n : ℕ) (f g : ℕ → ℕ) → ((i : ℕ) → i < n → f i ≡ g i) → sum n f ≡ sum n g
unfolding sum
sum-eq zero f g h = refl
sum-eq (suc n) f g h = omega (arith, sum-eq n f g (λ i l. h i (omega arith)), h n (omega arith))

-- f ≤ g but for one place j: the sums compare once the two values there are set off against each other
pub sum_le_but : (n j : ℕ) (f g : ℕ → ℕ) → j < n → ((i : ℕ) → i < n → i ≢ j → f i ≤ g i) → sum n f + g j ≤ sum n g + f j
unfolding sum
sum_le_but zero j f g l h = omega arith
sum_le_but (suc n) j f g l h = same? j n
    (λ e. rw e (omega (arith, sum-le n f g (λ i k. h i (omega arith) (omega arith)))))
    (λ d. omega (arith, sum_le_but n j f g (omega arith) (λ i k. h i (omega arith)), h n (omega arith) (omega arith)))

-- the same for equations
pub sum_eq_but : (n j : ℕ) (f g : ℕ → ℕ) → j < n → ((i : ℕ) → i < n → i ≢ j → f i ≡ g i) → sum n f + g j ≡ sum n g + f j
sum_eq_but n j f g l h =
    let a = sum_le_but n j f g l (λ i k d. omega (arith, h i k d)) in
    let b = sum_le_but n j g f l (λ i k d. omega (arith, h i k d)) in
    omega arith

-- f ≤ g but for one place j, which may lie outside, where f is greater by at most 1
pub sum-le-suc : (n j : ℕ) (f g : ℕ → ℕ) → f j ≤ suc (g j) → ((i : ℕ) → i < n → i ≢ j → f i ≤ g i) → sum n f ≤ suc (sum n g)
sum-le-suc n j f g b h = cases (dec_lt j n)
    (λ l. omega (arith, sum_le_but n j f g l h))
    (λ l. omega (arith, sum-le n f g (λ i k. h i k (λ e. omega arith))))

-- what is at least the smaller of c and g at each place has a sum that is at least the smaller of c and g's sum
pub sum-min : (n c : ℕ) (f g : ℕ → ℕ) → ((i : ℕ) → i < n → min c (g i) ≤ f i) → min c (sum n g) ≤ sum n f
unfolding sum
sum-min zero c f g h = omega arith
sum-min (suc n) c f g h = omega (arith, sum-min n c f g (λ i l. h i (omega arith)), h n (omega arith))

-- a term is at most the sum
pub sum_ge : (n j : ℕ) (f : ℕ → ℕ) → j < n → f j ≤ sum n f
sum_ge n j f l = omega (arith, sum-none n, sum_le_but n j (λ i. 0) f l (λ i k d. omega arith))

-- two terms are at most the sum
pub sum-two : (n i j : ℕ) (f : ℕ → ℕ) → i < n → j < n → i ≢ j → f i + f j ≤ sum n f
sum-two n i j f l k d =
    let g : ℕ → ℕ = λ x. pick x i 0 (f x) in
    omega (
      arith,
      pick_same {u = i} refl 0 (f i),
      pick_other {u = j} {v = i} (λ e. d (sym e)) 0 (f j),
      sum_ge n j g k,
      sum_eq_but n i g f l (λ x p e. pick_other e 0 (f x)),
    )

-- a sum with one term
pub sum-single : (n j : ℕ) (f : ℕ → ℕ) → j < n → ((i : ℕ) → i < n → i ≢ j → f i ≡ 0) → sum n f ≡ f j
sum-single n j f l h = omega (arith, sum-none n, sum_eq_but n j f (λ i. 0) l h)

-- a sum that is not 0 has a term that is not 0
pub sum-some : (n : ℕ) (f : ℕ → ℕ) → 1 ≤ sum n f → (i : ℕ) × (i < n) × (1 ≤ f i)
unfolding sum
sum-some zero f h = absurd (omega arith)
sum-some (suc n) f h = same? (f n) 0
    (λ e. let r = sum-some n f (omega arith) in (r.0, omega (arith, r.1), r.2))
    (λ d. (n, omega arith, omega arith))

-- a sum that is 1 has one term that is 1, and no other
pub sum_only : (n : ℕ) (f : ℕ → ℕ) → sum n f ≡ 1 → (j : ℕ) × (j < n) × (f j ≡ 1) × ((i : ℕ) → i < n → i ≢ j → f i ≡ 0)
unfolding sum
sum_only zero f e = absurd (omega arith)
sum_only (suc n) f e = same? (f n) 0
    (λ z. let r = sum_only n f (omega arith) in
    (r.0, omega (arith, r.1), r.2, λ i l d. same? i n (λ q. rw q z) (λ q. r.3 i (omega arith) d)))
    (λ z. (n, omega arith, omega arith, λ i l d. omega (arith, sum_ge n i f (omega arith))))

-- ---- below

pub less_one : {a b : ℕ} → a < b → less a b ≡ 1
unfolding less
less_one {a} {b} l = if_pos (dec_lt a b) l 1 0

pub less_none : {a b : ℕ} → ¬ (a < b) → less a b ≡ 0
unfolding less
less_none {a} {b} l = if_neg (dec_lt a b) l 1 0

pub less-lt : {a b : ℕ} → less a b ≡ 1 → a < b
less-lt {a} {b} e = cases (dec_lt a b) (λ l. l) (λ l. absurd (omega (arith, less_none l)))
