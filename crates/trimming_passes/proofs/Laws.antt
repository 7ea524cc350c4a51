-- Cutting in a lent list, place by place: what one cut leaves is what the definition says, and cuts follow each other.
use mathlib.Core.Path.{◌≡◌, refl, sym, ap, ◌∙◌}
use mathlib.Core.Logic.{◌≢◌}
use mathlib.Core.List.{List, [], ◌∷◌, ◌++◌, map, reverse, reverse-cons}
use Prim.Native.Nat.{ℕ, zero, suc, ◌+◌, ◌-◌, ◌*◌, ◌≤◌, ◌<◌, min}
use native.Mathlib.Omega.{arith}
use native.Mathlib.Decide.{dec_lt}
use lib.Seq.{get_or-set_same, get_or-set_other, get_or-take, get_or-append-add, get_or-append_seam, take_at, drop_at, length-take-le}
use lib.ListN.{length, set, take, drop, take-append-drop, length-append, length-set, length-take, length-reverse, get_or-append}
use Rattle.model.specs.Limits.{SITES}
use Rattle.lists.specs.Numbers.{look, upfrom}
use Rattle.model.specs.Flows.{Links, at, sum_at}
use Rattle.model.specs.Trimming.{cut_at, cut_site, cut_sites, balanced_along}
use Rattle.lists.specs.Sums.{pick_same, pick_other, cases, same?}
use Rattle.theory_trees.specs.Sites.{sum_at-same}
use Rattle.theory_trees.proofs.Cutting.{cut_at_stays}
use Rattle.theory_trees.proofs.Passes.{length-cut_sites}
use Rattle.tree.specs.Offer.{links}
use Rattle.tree.specs.Links.{length-links}
use Rattle.tree.specs.Places.{filled, filled-same, same_values}
use Rattle.trimming_passes.specs.Steps.{InPlaces, Middle, both_ways, cut_first, balanced_first}

cut-same : (ls : Links) (terminal : ℕ → ℕ) (v : ℕ) (c d : ℕ → ℕ) → ((i : ℕ) → i < length ls → c i ≡ d i)
    → (j : ℕ) → j < length ls → cut_at ls terminal v c j ≡ cut_at ls terminal v d j
unfolding cut_at
cut-same ls terminal v c d h j l = rw (h j l, sum_at-same ls v c d (λ i k a. h i k)) refl

cut-sites-append : (ls : Links) (terminal : ℕ → ℕ) (vs ws c : List ℕ) → cut_sites ls terminal ws (cut_sites ls terminal vs c) ≡ cut_sites ls terminal (vs ++ ws) c
unfolding cut_sites
cut-sites-append ls terminal [] ws c = refl
cut-sites-append ls terminal (v ∷ vs) ws c = cut-sites-append ls terminal vs ws (cut_site ls terminal v c)

-- ---- a list with one place changed

drop-set : (m : ℕ) (l : List ℕ) (j x : ℕ) → j < m → drop m (set l j x) ≡ drop m l
drop-set zero l j x h = absurd (omega arith)
drop-set (suc m) [] j x h = refl
drop-set (suc m) (y ∷ l) zero x h = refl
drop-set (suc m) (y ∷ l) (suc j) x h = drop-set m l j x (omega arith)

filled_but : (f : ℕ → ℕ) (m : ℕ) (l : List ℕ) (j x : ℕ) → m ≤ length l → j < m → x ≡ f j → ((i : ℕ) → i < m → i ≢ j → f i ≡ look l i)
    → set l j x ≡ filled f m l
unfolding filled
filled_but f m l j x h k e others =
    sym (filled-same f m (set l j x) (omega (arith, length-set l j x)) (λ i q. same? i j
    (λ z. rw z (sym (get_or-set_same l j x 0 (omega arith) ∙ e)))
    (λ z. others i q z ∙ sym (get_or-set_other l j i x 0 z))))
    ∙ ap (λ r. map f (upfrom 0 m) ++ r) (drop-set m l j x k)

-- ---- the lent list

module _ (a b : List ℕ) (terminal : ℕ → ℕ) (same : length b ≡ length a) where
  -- filled from the front with the cut capacities it is cut at v
  pub cut-filled : (v : ℕ) (l : List ℕ) → filled (cut_at (links a b) terminal v (look l)) (length a) l ≡ cut_first a b terminal (v ∷ []) l
  unfolding filled cut_first cut_sites cut_site
  cut-filled v l =
      let ls = links a b in
      let all : length ls ≡ length a = length-links a b (sym same) in
      rw all (ap (λ r. r ++ drop (length a) l) (same_values _ _ (length a)
      (λ j h. cut-same ls terminal v (look l) (look (take (length a) l)) (λ i k. sym (get_or-take (length a) l i 0 (omega arith))) j (omega arith))))

  -- where no link is heavy nothing is cut
  pub cut-none : (v : ℕ) (l : List ℕ) → length a ≤ length l
      → ((j : ℕ) → j < length (links a b) → at (links a b) v j ≡ 1 → terminal v ≢ 1 → look l j + look l j ≤ sum_at (links a b) v (look l))
      → l ≡ cut_first a b terminal (v ∷ []) l
  cut-none v l h light =
      let ls = links a b in
      let all : length ls ≡ length a = length-links a b (sym same) in
      sym (filled-same (cut_at ls terminal v (look l)) (length a) l h (λ j k. cut_at_stays ls terminal v (look l) j (omega arith) (light j (omega arith))))
      ∙ cut-filled v l

  -- where one link alone is heavy it is cut to what the others have
  pub cut-one : (v : ℕ) (l : List ℕ) (p x : ℕ) → length a ≤ length l → terminal v ≢ 1 → Middle (links a b) v (look l) p → 0 < p
      → x ≡ min (look l (p - 1)) (sum_at (links a b) v (look l) - look l (p - 1)) → set l (p - 1) x ≡ cut_first a b terminal (v ∷ []) l
  unfolding cut_at
  cut-one v l p x h inner m some e =
      let ls = links a b in
      let all : length ls ≡ length a = length-links a b (sym same) in
      filled_but (cut_at ls terminal v (look l)) (length a) l (p - 1) x h (omega (arith, m.there.0))
      (e ∙ sym (pick_other inner _ _ ∙ pick_same (m.there.1 some) _ _))
      (λ j k d. cut_at_stays ls terminal v (look l) j (omega arith) (λ at-v _. m.others j (omega arith) at-v (λ z. d (omega arith))))
      ∙ cut-filled v l

  -- ---- cuts in turn

  pub first-none : (l : List ℕ) → l ≡ cut_first a b terminal [] l
  unfolding cut_first cut_sites
  first-none l = sym (take-append-drop (length a) l)

  length-done : (vs l : List ℕ) → length a ≤ length l → length (cut_sites (links a b) terminal vs (take (length a) l)) ≡ length a
  length-done vs l h =
      let ls = links a b in
      let all : length ls ≡ length a = length-links a b (sym same) in
      length-cut_sites ls terminal vs (take (length a) l) (length-take-le (length a) l h ∙ sym all) ∙ all

  pub first_more : (vs ws l : List ℕ) → length a ≤ length l → cut_first a b terminal ws (cut_first a b terminal vs l) ≡ cut_first a b terminal (vs ++ ws) l
  unfolding cut_first
  first_more vs ws l h =
      let ls = links a b in
      let done = cut_sites ls terminal vs (take (length a) l) in
      let long = length-done vs l h in
      rw (
        take_at done (drop (length a) l) (length a) long,
        drop_at done (drop (length a) l) (length a) long,
        cut-sites-append ls terminal vs ws (take (length a) l),
      ) refl

  -- along an order and back they are balanced
  pub both_ways_balance : (order l : List ℕ) → cut_first a b terminal (both_ways order) l ≡ balanced_first a b terminal order l
  unfolding cut_first both_ways balanced_first balanced_along
  both_ways_balance order l = rw (← (cut-sites-append (links a b) terminal order (reverse order) (take (length a) l))) refl

-- ---- the order turned round

look-reverse : (l : List ℕ) (i : ℕ) → i < length l → look (reverse l) i ≡ look l (length l - 1 - i)
look-reverse [] i h = absurd (omega arith)
look-reverse (x ∷ l) i h =
    let turned = length-reverse l in
    ap (λ t. look t i) (reverse-cons x l) ∙ same? i (length l)
    (λ e. let last : i ≡ length (reverse l) = omega arith in
    let first : 0 ≡ suc (length l) - 1 - i = omega arith in
    ap (look (reverse l ++ (x ∷ []))) last ∙ get_or-append_seam (reverse l) x [] 0 ∙ ap (look (x ∷ l)) first)
    (λ d. let behind : suc (length l - 1 - i) ≡ suc (length l) - 1 - i = omega arith in
    get_or-append (reverse l) (x ∷ []) 0 i (omega arith) ∙ look-reverse l i (omega arith) ∙ ap (look (x ∷ l)) behind)

pub places-enough : (n : ℕ) (order : List ℕ) → InPlaces n (take n order) → n ≤ length order
places-enough n order p = omega (arith, p.each, length-take n order)

pub length_both_ways : (n : ℕ) (order : List ℕ) → n ≤ length order → length (both_ways (take n order)) ≡ 2 * n
unfolding both_ways
length_both_ways n order h = let o = take n order in omega (arith, length-append o (reverse o), length-reverse o, length-take-le n order h)

-- its first n places are those of the order, and the others the same places from the last one on
module _ (n : ℕ) (order : List ℕ) (h : n ≤ length order) (i : ℕ) (l : i < 2 * n) where
  pub on_the_way : look order (min i (2 * n - 1 - i)) ≡ look (both_ways (take n order)) i
  unfolding both_ways
  on_the_way =
      let o = take n order in
      let long : length o ≡ n = length-take-le n order h in
      cases (dec_lt i n)
      (λ k. let place : min i (2 * n - 1 - i) ≡ i = omega arith in
      ap (look order) place ∙ sym (get_or-append o (reverse o) 0 i (omega arith) ∙ get_or-take n order i 0 k))
      (λ k. let seam : i ≡ length o + (i - n) = omega arith in
      let place : length o - 1 - (i - n) ≡ min i (2 * n - 1 - i) = omega arith in
      sym (ap (look (o ++ reverse o)) seam ∙ get_or-append-add o (reverse o) (i - n) 0 ∙ look-reverse o (i - n) (omega arith)
      ∙ ap (look o) place ∙ get_or-take n order (min i (2 * n - 1 - i)) 0 (omega arith)))

  -- each of them is a place of the order
  pub in_places_on_the_way : InPlaces n (take n order) → look order (min i (2 * n - 1 - i)) ≤ SITES
  in_places_on_the_way u =
      let place : min i (2 * n - 1 - i) < n = omega arith in
      omega (arith, get_or-take n order (min i (2 * n - 1 - i)) 0 place, u.low (min i (2 * n - 1 - i)) place)
