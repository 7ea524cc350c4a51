-- Laws of the list b, b + 1, .., of lists of zeros, of how often a number stands in a list, and of sums over a list.
use Rattle.std.specs.Prelude.{◌≡◌, refl, List, [], ◌∷◌, map, ℕ, zero, suc, ◌+◌, ◌≤◌, ◌<◌, ◌*◌, length, replicate}
use Rattle.std.proofs.Common.{ap, ◌∙◌, arith}
use Rattle.lists.specs.Numbers.{count, upfrom, look, is, over}
use Rattle.lists.specs.Sums.{is_same, is-other, same?}

pub length-upfrom : (b n : ℕ) → length (upfrom b n) ≡ n
unfolding upfrom
length-upfrom b zero = refl
length-upfrom b (suc n) = ap suc (length-upfrom (suc b) n)

pub look-upfrom : (b n i : ℕ) → i < n → look (upfrom b n) i ≡ b + i
unfolding upfrom
look-upfrom b zero i l = omega arith
look-upfrom b (suc n) zero l = omega arith
look-upfrom b (suc n) (suc i) l = omega (arith, look-upfrom (suc b) n i (omega arith))

look-map : (f : ℕ → ℕ) (xs : List ℕ) (i : ℕ) → i < length xs → look (map f xs) i ≡ f (look xs i)
look-map f [] i l = omega arith
look-map f (x ∷ xs) zero l = refl
look-map f (x ∷ xs) (suc i) l = look-map f xs i (omega arith)

-- the list of the values f b, f (b + 1), .. has f (b + i) at place i
pub look-from : (f : ℕ → ℕ) (b n i : ℕ) → i < n → look (map f (upfrom b n)) i ≡ f (b + i)
look-from f b n i l = look-map f (upfrom b n) i (omega (arith, length-upfrom b n)) ∙ ap f (look-upfrom b n i l)

pub look_values : (f : ℕ → ℕ) (n i : ℕ) → i < n → look (map f (upfrom 0 n)) i ≡ f i
look_values f n i l = look-from f 0 n i l ∙ ap f (omega arith)

-- a list of zeros has 0 at every place, and past its end
pub look-zeros : (m i : ℕ) → look (replicate m 0) i ≡ 0
look-zeros zero i = refl
look-zeros (suc m) zero = refl
look-zeros (suc m) (suc i) = look-zeros m i

pub count_low : (b n x : ℕ) → x < b → count (upfrom b n) x ≡ 0
unfolding count upfrom
count_low b zero x l = refl
count_low b (suc n) x l = omega (arith, is-other {u = b} {v = x} (λ e. omega arith), count_low (suc b) n x (omega arith))

pub count-high : (b n x : ℕ) → b + n ≤ x → count (upfrom b n) x ≡ 0
unfolding count upfrom
count-high b zero x l = refl
count-high b (suc n) x l = omega (arith, is-other {u = b} {v = x} (λ e. omega arith), count-high (suc b) n x (omega arith))

pub count_in : (b n x : ℕ) → b ≤ x → x < b + n → count (upfrom b n) x ≡ 1
unfolding count upfrom
count_in b zero x l h = absurd (omega arith)
count_in b (suc n) x l h = same? b x
    (λ e. omega (arith, is_same e, count_low (suc b) n x (omega arith)))
    (λ d. omega (arith, is-other d, count_in (suc b) n x (omega arith) (omega arith)))

pub over_add : (us : List ℕ) (f g : ℕ → ℕ) → over us (λ x. f x + g x) ≡ over us f + over us g
unfolding over
over_add [] f g = refl
over_add (u ∷ us) f g = omega (arith, over_add us f g)

pub over-mul : (us : List ℕ) (k : ℕ) (f : ℕ → ℕ) → over us (λ x. k * f x) ≡ k * over us f
unfolding over
over-mul [] k f = omega arith
over-mul (u ∷ us) k f = omega (arith, over-mul us k f)

pub over-one : (us : List ℕ) → over us (λ x. 1) ≡ length us
unfolding over
over-one [] = refl
over-one (u ∷ us) = omega (arith, over-one us)

pub over-le : (us : List ℕ) (f g : ℕ → ℕ) → ((x : ℕ) → 1 ≤ count us x → f x ≤ g x) → over us f ≤ over us g
unfolding over count
over-le [] f g h = omega arith
over-le (u ∷ us) f g h = omega (arith, h u (omega (arith, is_same {u = u} refl)), over-le us f g (λ x p. h x (omega arith)))

pub over-eq : (us : List ℕ) (f g : ℕ → ℕ) → ((x : ℕ) → 1 ≤ count us x → f x ≡ g x) → over us f ≡ over us g
over-eq us f g h = omega (arith, over-le us f g (λ x p. omega (arith, h x p)), over-le us g f (λ x p. omega (arith, h x p)))

-- picking out one site
pub over-is : (us : List ℕ) (r : ℕ) (f : ℕ → ℕ) → over us (λ x. is x r * f x) ≡ count us r * f r
unfolding over count
over-is [] r f = omega arith
over-is (u ∷ us) r f = same? u r
    (λ e. rw (e, is_same {u = r} refl) (omega (arith, over-is us r f)))
    (λ d. rw (is-other d) (omega (arith, over-is us r f)))
