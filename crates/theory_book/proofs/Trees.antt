-- The choices of links that are listed are the trees as the card writes them, each in its place. By the order of the possible links.
use Rattle.std.specs.Prelude.{◌≡◌, refl, ℕ, suc, ◌-◌, ◌≤◌, ◌<◌, length, get_or}
use Rattle.std.proofs.Common.{sym, inl, inr, arith}
use mathlib.Core.List.{List, [], ◌∷◌, map}
use Rattle.lists.specs.Numbers.{pick, upfrom}
use Rattle.lists.specs.Sums.{same?, pick_same, pick_other, pick_cases, is_same, is_one, is_le, product_one}
use Rattle.model.specs.Flows.{Links, Tree, sites, label, joined}
use Rattle.theory_book.specs.Listing.{In, Ascends, Before, combos}
use Rattle.theory_book.specs.ListLaws.{from_in}
use Rattle.theory_book.proofs.ListLaws.{either, in_map, map_in, in_flat, flat_in, in_from, ascends_from, in_get_d, get_d_in}
use Rattle.theory_book.proofs.ListLaws.{ascends_map, ascends_flat, in_combos, combos_in, ascends_combos}
use Rattle.theory_book.specs.Book.{Lower, Drawn, possible, joins_all, trees_of}
use Rattle.theory_book.specs.Trees.{Between}

pub lower-apart : (l : ℕ × ℕ) → Lower l l → ⊥
lower-apart l (inl h) = omega arith
lower-apart l (inr h) = omega arith

pub lower-chain : (x y z : ℕ × ℕ) → Lower x y → Lower y z → Lower x z
lower-chain x y z (inl p) (inl q) = inl (omega arith)
lower-chain x y z (inl p) (inr q) = inl (omega arith)
lower-chain x y z (inr p) (inl q) = inl (omega arith)
lower-chain x y z (inr p) (inr q) = inr (omega arith)

pub possible_in : (n : ℕ) (l : ℕ × ℕ) → In l (possible n) → (1 ≤ l.0) × (l.0 < l.1) × (l.1 ≤ n)
unfolding possible
possible_in n l h =
    let r = flat_in (λ a. map (λ b. (a, b)) (upfrom (suc a) (n - a))) (upfrom 1 n) l h in
    let a = r.0 in
    let q = map_in (λ b. (a, b)) (upfrom (suc a) (n - a)) l r.2 in
    let u = from_in 1 n a r.1 in
    let v = from_in (suc a) (n - a) q.0 q.1 in
    rw q.2 (omega arith)

pub in_possible : (n a b : ℕ) → 1 ≤ a → a < b → b ≤ n → In (a, b) (possible n)
unfolding possible
in_possible n a b p q r = in_flat (λ a. map (λ b. (a, b)) (upfrom (suc a) (n - a))) (upfrom 1 n) a (a, b) (in_from 1 n a p (omega arith))
    (in_map (λ b. (a, b)) (upfrom (suc a) (n - a)) b (a, b) refl (in_from (suc a) (n - a) b q (omega arith)))

pub ascends_possible : (n : ℕ) → Ascends Lower (possible n)
unfolding possible
ascends_possible n = ascends_flat ◌<◌ Lower (λ a. map (λ b. (a, b)) (upfrom (suc a) (n - a))) (upfrom 1 n)
    (λ a i. ascends_map ◌<◌ Lower (λ b. (a, b)) (upfrom (suc a) (n - a)) (λ x y h. inr (refl, h)) (ascends_from (suc a) (n - a)))
    (λ a b x y r i j.
    let u = map_in (λ c. (a, c)) (upfrom (suc a) (n - a)) x i in
    let v = map_in (λ c. (b, c)) (upfrom (suc b) (n - b)) y j in
    rw (u.2, v.2) (inl r))
    (ascends_from 1 n)

all-joined : (ls : Links) (xs : List ℕ) → joins_all ls xs ≡ 1 → (x : ℕ) → In x xs → label ls x ≡ label ls 1
unfolding joins_all joined
all-joined ls (y ∷ xs) e x i =
    let p = product_one (joined ls 1 y) (joins_all ls xs) (is_le (label ls 1) (label ls y)) e in
    either i (λ z. rw z (sym (is_one p.0))) (all-joined ls xs p.1 x)
all-joined ls [] e x i = elim i [ ]

joined-all : (ls : Links) (xs : List ℕ) → ((x : ℕ) → In x xs → label ls x ≡ label ls 1) → joins_all ls xs ≡ 1
unfolding joins_all joined
joined-all ls [] h = refl
joined-all ls (y ∷ xs) h = rw (is_same (sym (h y (inl refl))), joined-all ls xs (λ x i. h x (inr i)))

module _ (n : ℕ) (big : 2 ≤ n) where
  pub a_choice_that_joins_all_is_a_tree : (ls : Links) → n ≡ suc (length ls) → Between n ls → joins_all ls (sites n) ≡ 1 → Tree ls n
  a_choice_that_joins_all_is_a_tree ls e h w = record {
    big = big;
    ends = λ j l. let i = h (get_or ls j (0, 0)) (in_get_d ls (0, 0) j l) in omega arith;
    links = e;
    whole = λ x p. all-joined ls (sites n) w x (in_from 1 n x p.0 (omega arith));
  }

  pub a-tree-joins-all : (ls : Links) → Tree ls n → joins_all ls (sites n) ≡ 1
  a-tree-joins-all ls T = joined-all ls (sites n) (λ x i. let k = from_in 1 n x i in T.whole x (omega arith))

  -- ---- the trees of n sites

  pub the_trees_are_drawn : (ls : Links) → In ls (trees_of n) → Drawn n ls
  unfolding trees_of
  the_trees_are_drawn ls h =
      let r = flat_in (λ ls. pick (joins_all ls (sites n)) 1 (ls ∷ []) []) (combos (possible n) (n - 1)) ls h in
      let q = combos_in Lower (possible n) (n - 1) r.0 (ascends_possible n) r.1 in
      let fits : Between n r.0 = λ l i. possible_in n l (q.1 l i) in
      same? (joins_all r.0 (sites n)) 1
      (λ w. let i : In ls (r.0 ∷ []) = rw (pick_same w) at r.2 in
      let e : ls ≡ r.0 = either i (λ e. e) (λ z. absurd z) in
      rw e (record { tree = a_choice_that_joins_all_is_a_tree r.0 (omega (arith, q.0)) fits w; lower = λ l i. (fits l i).1; ascending = q.2 }))
      (λ d. let i : In ls [] = rw (pick_other d) at r.2 in absurd i)

  pub drawn_trees_are_listed : (ls : Links) → Drawn n ls → In ls (trees_of n)
  unfolding trees_of
  drawn_trees_are_listed ls D =
      let fits : Between n ls
      = λ l i. let k = get_d_in ls (0, 0) l i in
      let s = D.tree.ends k.0 k.1 in
      let t = D.lower l i in
      (rw k.2 s.0.0, t, rw k.2 s.1.1) in
      in_flat (λ ls. pick (joins_all ls (sites n)) 1 (ls ∷ []) []) (combos (possible n) (n - 1)) ls ls
      (in_combos Lower lower-apart lower-chain (possible n) (n - 1) ls (ascends_possible n) (omega (arith, D.tree.links))
      (λ l i. let k = fits l i in in_possible n l.0 l.1 k.0 k.1 k.2) D.ascending)
      (rw (pick_same (a-tree-joins-all ls D.tree)) (inl refl))

pub the_trees_ascend : (n : ℕ) → Ascends (Before Lower) (trees_of n)
unfolding trees_of
the_trees_ascend n = ascends_flat (Before Lower) (Before Lower) (λ ls. pick (joins_all ls (sites n)) 1 (ls ∷ []) []) (combos (possible n) (n - 1))
    (λ ls i. pick_cases (Ascends (Before Lower)) (joins_all ls (sites n)) 1 (ls ∷ []) [] (λ e. (λ y i. absurd i, tt)) (λ d. tt))
    (λ a b x y r i j. rw (only n a x i, only n b y j) r)
    (ascends_combos Lower (possible n) (n - 1) (ascends_possible n))
  where
    only : (n : ℕ) (a x : Links) → In x (pick (joins_all a (sites n)) 1 (a ∷ []) []) → x ≡ a
    only n a x = pick_cases (λ l. In x l → x ≡ a) (joins_all a (sites n)) 1 (a ∷ []) [] (λ e i. either i (λ z. z) (λ z. absurd z)) (λ d i. absurd i)
