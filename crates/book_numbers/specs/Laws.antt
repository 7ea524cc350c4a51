-- What one link more makes of a choice, and one digit more of a list of sizes: the rounds of the loops.
use Rattle.std.specs.Prelude.{◌≡◌, refl, ℕ, zero, suc, ◌+◌, ◌-◌, ◌/◌, ◌%◌, ◌^◌, ◌≤◌, ◌<◌, length, take, set, get_or}
use Rattle.std.proofs.Math.Path.{sym}
use Rattle.std.proofs.Common.{ap, ◌∙◌, arith, add-one, length-take, length-drop, take-suc-set, drop-cons}
use mathlib.Core.List.{List, [], ◌∷◌, ◌++◌, map, flat_map, append_assoc, append-nil}
use Rattle.std.proofs.Math.Nat.{pow-zero, pow-le-pow_left, pow-le-pow_right}
use Rattle.std.proofs.Math.ListN.{drop, drop_of_length-le}
use Rattle.lists.specs.Numbers.{pick, upfrom, look}
use Rattle.lists.specs.Sums.{same?, pick_same, pick_other}
use Rattle.model.specs.Flows.{Links}
use Rattle.tree.specs.Offer.{links}
use Rattle.tree.specs.Links.{length-links}
use Rattle.theory_book.specs.Book.{possible}
use Rattle.theory_book.specs.FlatLaws.{flat_round, map-flat}
use Rattle.theory_book.specs.Numbered.{word, chosen}
use Rattle.book_numbers.specs.declared.Choice.{Choice}
use Rattle.book_numbers.specs.Held.{held, fan_of}

links_more : (x y : List ℕ) (a b : ℕ) → length x ≡ length y → links (x ++ (a ∷ [])) (y ++ (b ∷ [])) ≡ links x y ++ ((a, b) ∷ [])
unfolding links
links_more [] [] a b e = refl
links_more [] (v ∷ y) a b e = absurd (omega arith)
links_more (u ∷ x) [] a b e = absurd (omega arith)
links_more (u ∷ x) (v ∷ y) a b e = ap (λ l. (u, v) ∷ l) (links_more x y a b (omega arith))

pub one_more : (x y : List ℕ) (k a b : ℕ) → k < length x → k < length y
    → links (take (k + 1) (set x k a)) (take (k + 1) (set y k b)) ≡ links (take k x) (take k y) ++ ((a, b) ∷ [])
one_more x y k a b p q = rw (add-one, take-suc-set x k a p, take-suc-set y k b q)
    (links_more (take k x) (take k y) a b (omega (arith, length-take k x, length-take k y)))

pub fan_none : (a : ℕ) (l : Links) → l ≡ l ++ fan_of a 0
unfolding fan_of upfrom
fan_none a l = sym (append-nil l)

pub fan_more : (a i : ℕ) (l : Links) → (l ++ fan_of a i) ++ ((a, a + 1 + i) ∷ []) ≡ l ++ fan_of a (i + 1)
unfolding fan_of
fan_more a i l =
    let e : a + 1 + i ≡ suc a + i = omega arith in
    append_assoc l (map (λ b. (a, b)) (upfrom (suc a) i)) ((a, a + 1 + i) ∷ [])
    ∙ ap (λ r. l ++ r) (sym (map-flat (λ b. (a, b)) (upfrom (suc a) (i + 1)) ∙ flat_round (λ b. (a, b) ∷ []) (suc a) i
    ∙ ap (λ r. r ++ ((a, suc a + i) ∷ [])) (sym (map-flat (λ b. (a, b)) (upfrom (suc a) i)))
    ∙ ap (λ k. map (λ b. (a, b)) (upfrom (suc a) i) ++ ((a, k) ∷ [])) (sym e)))

-- ---- all links between n sites

unfoldable pub first_fans : ℕ → ℕ → Links
first_fans n i = flat_map (λ a. fan_of a (n - a)) (upfrom 1 i)

pub fans_none : (n : ℕ) → [] ≡ first_fans n 0
unfolding first_fans flat_map upfrom
fans_none n = refl

pub fans_more : (n a : ℕ) → 1 ≤ a → first_fans n (a - 1) ++ fan_of a (n - a) ≡ first_fans n (a + 1 - 1)
unfolding first_fans
fans_more n a h =
    let e : a + 1 - 1 ≡ a - 1 + 1 = omega arith in
    let z : 1 + (a - 1) ≡ a = omega arith in
    sym (ap (λ i. flat_map (λ a. fan_of a (n - a)) (upfrom 1 i)) e ∙ flat_round (λ a. fan_of a (n - a)) 1 (a - 1)
    ∙ ap (λ k. flat_map (λ a. fan_of a (n - a)) (upfrom 1 (a - 1)) ++ fan_of k (n - k)) z)

pub fans_all : (n : ℕ) → first_fans n n ≡ possible n
unfolding first_fans fan_of possible
fans_all n = refl

pub held_none : (c : Choice) → c.count ≡ 0 → held c ≡ []
unfolding links
held_none c e = rw e

-- ---- the choice by m

chosen-next : (l : Links) (i m w : ℕ) → i < length l → w ≡ 2 ^ (length l - 1 - i)
    → chosen (drop i l) m ≡ pick (m / w % 2) 0 (get_or l i (0, 0) ∷ chosen (drop (i + 1) l) m) (chosen (drop (i + 1) l) m)
unfolding chosen
chosen-next l i m w h e =
    let z : length (drop (suc i) l) ≡ length l - 1 - i = omega (arith, length-drop (suc i) l) in
    rw (add-one, drop-cons l i (0, 0) h, e, ← z)

-- a round of the loop
round : (d l : Links) (i m w : ℕ) → i < length l → w ≡ 2 ^ (length l - 1 - i)
    → d ++ chosen (drop i l) m ≡ chosen l m
    → pick (m / w % 2) 0 (d ++ (get_or l i (0, 0) ∷ [])) d ++ chosen (drop (i + 1) l) m ≡ chosen l m
round d l i m w h e inv =
    same? (m / w % 2) 0
    (λ p. rw (pick_same p) (append_assoc d (get_or l i (0, 0) ∷ []) (chosen (drop (i + 1) l) m)
    ∙ ap (λ r. d ++ r) (sym (chosen-next l i m w h e ∙ pick_same p (get_or l i (0, 0) ∷ chosen (drop (i + 1) l) m) (chosen (drop (i + 1) l) m))) ∙ inv))
    (λ p. rw (pick_other p)
    (ap (λ r. d ++ r) (sym (chosen-next l i m w h e ∙ pick_other p (get_or l i (0, 0) ∷ chosen (drop (i + 1) l) m) (chosen (drop (i + 1) l) m))) ∙ inv))

links-at : (x y : List ℕ) (k i : ℕ) → i < k → k ≤ length x → k ≤ length y → get_or (links (take k x) (take k y)) i (0, 0) ≡ (look x i, look y i)
unfolding links
links-at x y zero i h p q = absurd (omega arith)
links-at [] y (suc k) i h p q = absurd (omega arith)
links-at (u ∷ x) [] (suc k) i h p q = absurd (omega arith)
links-at (u ∷ x) (v ∷ y) (suc k) zero h p q = refl
links-at (u ∷ x) (v ∷ y) (suc k) (suc i) h p q = links-at x y k i (omega arith) (omega arith) (omega arith)

links-count : (x y : List ℕ) (k : ℕ) → k ≤ length x → k ≤ length y → length (links (take k x) (take k y)) ≡ k
links-count x y k p q = length-links (take k x) (take k y) (omega (arith, length-take k x, length-take k y)) ∙ length-take k x ∙ omega arith

module _ (x y : List ℕ) (k : ℕ) (p : k ≤ length x) (q : k ≤ length y) (d : Links) (m : ℕ) where
  -- the links to choose from, the first k places of two lists
  abbrev front : Links
  front = links (take k x) (take k y)

  pub choose_round : (i w : ℕ) → i < k → w ≡ 2 ^ (k - 1 - i) → d ++ chosen (drop i front) m ≡ chosen front m
      → pick (m / w % 2) 0 (d ++ ((look x i, look y i) ∷ [])) d ++ chosen (drop (i + 1) front) m ≡ chosen front m
  choose_round i w h e inv =
      let n = links-count x y k p q in
      rw (← links-at x y k i h p q) (round d front i m w (omega arith) (rw n e) inv)

  pub choose_done : (i : ℕ) → i ≡ k → d ++ chosen (drop i front) m ≡ chosen front m → d ≡ chosen front m
  unfolding chosen
  choose_done i e inv =
      let n = links-count x y k p q in
      let z : drop i front ≡ [] = drop_of_length-le front {i = i} (omega arith) in
      sym (append-nil d) ∙ sym (ap (λ l. d ++ chosen l m) z) ∙ inv

-- ---- powers

-- the powers that are asked for are small
pub power_small : (b k : ℕ) → b ≤ 3 → k ≤ 20 → b ^ k < 2 ^ 64
power_small b k h l = omega (
  arith,
  pow-le-pow_left {n = b} {m = 3} h k,
  pow-le-pow_right {n = 3} (omega arith) {i = k} {j = 20} (omega arith),
)

-- a power is positive
pub positive : (b k w : ℕ) → 1 ≤ b → w ≡ b ^ k → 1 ≤ w
positive b k w h e = omega (arith, rw (pow-zero b) at (pow-le-pow_right {n = b} h {i = 0} {j = k} (omega arith)))

-- ---- a list of sizes

-- no digit yet
pub sizes-begun : (k s : ℕ) → word 3 (k - 0) s ≡ word 3 k s
sizes-begun k s = ap (λ i. word 3 i s) (omega arith)

-- one digit more
pub sizes_round : (l : List ℕ) (k s i w : ℕ) → i < k → k ≤ length l → w ≡ 3 ^ (k - 1 - i) → take i l ++ word 3 (k - i) s ≡ word 3 k s
    → take (i + 1) (set l i (s / w % 3)) ++ word 3 (k - (i + 1)) s ≡ word 3 k s
unfolding word
sizes_round l k s i w h q e inv =
    let next : k - i ≡ suc (k - 1 - i) = omega arith in
    let rest : k - (i + 1) ≡ k - 1 - i = omega arith in
    rw (add-one, take-suc-set l i (s / w % 3) (omega arith), ← add-one i, rest, e)
    (append_assoc (take i l) ((s / 3 ^ (k - 1 - i) % 3) ∷ []) (word 3 (k - 1 - i) s) ∙ (rw next at inv))

-- the last digit
pub sizes-done : (l : List ℕ) (k s i : ℕ) → i ≡ k → take i l ++ word 3 (k - i) s ≡ word 3 k s → take k l ≡ word 3 k s
unfolding word
sizes-done l k s i e inv =
    let z : k - k ≡ 0 = omega arith in
    sym (append-nil (take k l)) ∙ (rw (e, z) at inv)
