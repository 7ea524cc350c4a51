-- The labels worked place by place: what the loops over them leave to show, and what they come to where every site has a place.
use Rattle.std.specs.Prelude.{Bool, true, false, IsTrue, ◌&&◌, ◌↔◌, List, [], ◌∷◌, ◌++◌, map, ◌≡◌, ℕ, zero, suc, ◌+◌, ◌≤◌, ◌<◌, EachIndex, leb, length, take, drop, set}
use Rattle.std.proofs.Math.Path.{refl}
use Rattle.std.proofs.lemmas.Bool.{eqb-true, eq-eqb, le-leb, and_parts}
use Rattle.std.proofs.lemmas.List.{map-append, length-map, set_at, get_or_at}
use Rattle.std.proofs.Common.{append_assoc, append-nil, sym, ◌∙◌, add-one, add-zero, add-suc, suc-add, arith, get_or-take, get_or-drop, length-append, length-take, length-drop, drop_of_length-le, drop-cons, take-suc, take_all, length-take-le, ext_get_or, get_or-set_same, get_or-set_other, below_more, lt-ltb}
use Rattle.lists.specs.Numbers.{look, upfrom}
use Rattle.model.specs.Flows.{relabel}
use Rattle.lists.specs.Places.{length-upfrom, look-upfrom}
use Rattle.tree_labels.specs.Labels.{linked, alike, whole}

-- ---- where every site has a place

-- a link between two sites relabels
pub linked-sites : (labels : List ℕ) (one two : ℕ) → one < length labels → two < length labels
    → linked labels one two ≡ map (relabel (look labels one) (look labels two)) labels
unfolding linked
linked-sites labels one two p q = rw (lt-ltb _ _ p, lt-ltb _ _ q)

-- all sites are joined just if there are two or more, and all are alike
pub whole-sites : (labels : List ℕ) (sites : ℕ) → sites < length labels → whole labels sites ≡ (leb 2 sites && alike labels (upfrom 1 sites))
unfolding whole
whole-sites labels sites h = rw (lt-ltb _ _ h)

-- ---- a list filled with its own places

-- the places up to x, and x
pub own-place : (l : List ℕ) (x : ℕ) → x < length l → ((y : ℕ) → y < x → look l y ≡ y) → (y : ℕ) → y < x + 1 → look (set l x x) y ≡ y
own-place l x b h = below_more (λ y. look (set l x x) y ≡ y) x (λ y p. get_or-set_other l x y x 0 (λ e. omega arith) ∙ h y p) (get_or-set_same l x x 0 b)

-- all places
pub own-places : (n : ℕ) (l : List ℕ) → length l ≡ n → ((x : ℕ) → x < n → look l x ≡ x) → l ≡ upfrom 0 n
own-places n l e h = ext_get_or 0 l (upfrom 0 n) (e ∙ sym (length-upfrom 0 n)) (λ x b. h x (omega arith) ∙ omega (arith, look-upfrom 0 n x (omega arith)))

-- ---- a list changed place by place

-- f applied to the first x places
abbrev pub partly : (ℕ → ℕ) → List ℕ → ℕ → List ℕ
partly f l x = map f (take x l) ++ drop x l

module _ (f : ℕ → ℕ) (l : List ℕ) (x : ℕ) (b : x < length l) where
  passed : length (map f (take x l)) ≡ x
  passed = length-map (take x l) f ∙ length-take-le x l (omega arith)

  pub partly-at : look (partly f l x) x ≡ look l x
  partly-at = rw (drop-cons l x 0 b) (get_or_at (map f (take x l)) (look l x) (drop (suc x) l) 0 x passed)

  pub partly_step : set (partly f l x) x (f (look l x)) ≡ partly f l (x + 1)
  partly_step = rw (drop-cons l x 0 b, add-one)
      (set_at (map f (take x l)) (look l x) (drop (suc x) l) (f (look l x)) x passed
      ∙ sym (rw (take-suc l x 0 b, map-append f (take x l) (look l x ∷ []), append_assoc)))

pub partly-all : (f : ℕ → ℕ) (l : List ℕ) (x : ℕ) → length l ≤ x → partly f l x ≡ map f l
partly-all f l x h = rw (take_all x l h, drop_of_length-le l h, append-nil)

pub length-partly : (f : ℕ → ℕ) (l : List ℕ) (x : ℕ) → length (partly f l x) ≡ length l
length-partly f l x = length-append (map f (take x l)) (drop x l) ∙ omega (arith, length-map (take x l) f, length-take x l, length-drop x l)

-- ---- sites compared with site 1

-- n sites from x on that have the label of site 1 are alike
all-alike : (l : List ℕ) (n x : ℕ) → ((k : ℕ) → k < n → look l (x + k) ≡ look l 1) → alike l (upfrom x n) ≡ true
unfolding alike upfrom
all-alike l zero x h = refl
all-alike l (suc n) x h = rw (eq-eqb (look l 1) (look l x) (sym (rw add-zero at (h 0 (omega arith)))))
    (all-alike l n (suc x) (λ k b. rw (suc-add, ← (add-suc x k)) (h (suc k) (omega arith))))

-- and sites that are alike have its label
each-alike : (l : List ℕ) (n x : ℕ) → alike l (upfrom x n) ≡ true → (k : ℕ) → k < n → look l (x + k) ≡ look l 1
unfolding alike upfrom
each-alike l zero x e k b = absurd (omega arith)
each-alike l (suc n) x e zero b = rw add-zero (sym (eqb-true (look l 1) (look l x) (and_parts _ _ e).0))
each-alike l (suc n) x e (suc k) b = rw (add-suc, ← (suc-add x k)) (each-alike l n (suc x) (and_parts _ _ e).1 k (omega arith))

module _ (l : List ℕ) (n : ℕ) where
  place : (k : ℕ) → k < n → look (take n (drop 1 l)) k ≡ look l (1 + k)
  place k b = get_or-take n (drop 1 l) k 0 b ∙ get_or-drop 1 l k 0

  -- a test of the places of the sites alone decides
  pub all_tested : (all : Bool) → 2 ≤ n → n < length l
      → (IsTrue all ↔ EachIndex (take n (drop 1 l)) (λ k. look (take n (drop 1 l)) k ≡ look l 1)) → all ≡ whole l n
  all_tested all p q t = by all (alike l (upfrom 1 n)) refl t ∙ sym (rw (whole-sites l n q, le-leb 2 n p) refl)
    where
      long : length (take n (drop 1 l)) ≡ n
      long = length-take-le n (drop 1 l) (omega (arith, length-drop 1 l))

      by : (all is : Bool) → alike l (upfrom 1 n) ≡ is
          → (IsTrue all ↔ EachIndex (take n (drop 1 l)) (λ k. look (take n (drop 1 l)) k ≡ look l 1)) → all ≡ is
      by true true e t = refl
      by false false e t = refl
      by true false e t = sym (all-alike l n 1 (λ k b. sym (place k b) ∙ t.0 refl k (omega (arith, long)))) ∙ e
      by false true e t = t.1 (λ k b. place k (omega (arith, long)) ∙ each-alike l n 1 e k (omega (arith, long)))
