-- Lists worked place by place: a list filled from the front.
-- What a loop over the places of a list leaves to show.
use Rattle.std.specs.Prelude.{◌≡◌, length, drop, set, take}
use Rattle.std.proofs.Math.Path.{refl}
use Rattle.std.proofs.Common.{sym, ap, ap₂, ◌∙◌, arith, add-one, add-zero, zero-add, add-suc, suc-add, get_or-take, length-take-le, ext_get_or, take-append-drop}
use mathlib.Core.List.{List, [], ◌∷◌, ◌++◌, map}
use Prim.Native.Nat.{ℕ, zero, suc, ◌+◌, ◌≤◌, ◌<◌}
use Rattle.std.proofs.lemmas.List.{length-map}
use Rattle.std.proofs.Math.ListN.{length-append, length-drop}
use Rattle.lists.specs.Numbers.{look, upfrom}
use Rattle.lists.specs.Places.{length-upfrom, look_values}
pub use Rattle.tree_order.specs.Links.{sum-next}

-- the list l with f i at every place i below k
unfoldable pub filled : (ℕ → ℕ) → ℕ → List ℕ → List ℕ
filled f k l = map f (upfrom 0 k) ++ drop k l

module _ (f : ℕ → ℕ) where
  next-from : (b k : ℕ) (l : List ℕ) → k < length l → set (map f (upfrom b k) ++ drop k l) k (f (b + k)) ≡ map f (upfrom b (suc k)) ++ drop (suc k) l
  unfolding upfrom
  next-from b k [] h = absurd (omega arith)
  next-from b zero (x ∷ l) h = rw (add-zero b) refl
  next-from b (suc k) (x ∷ l) h = rw (add-suc b k, ← (suc-add b k)) (ap (λ r. f b ∷ r) (next-from (suc b) k l (omega arith)))

  length_table : (n : ℕ) → length (map f (upfrom 0 n)) ≡ n
  length_table n = length-map (upfrom 0 n) f ∙ length-upfrom 0 n

  -- filling starts from the list itself, goes on by a store at each place, and leaves the table
  pub filled_none : (l : List ℕ) → l ≡ filled f 0 l
  unfolding filled upfrom
  filled_none l = refl

  pub filled_next : {now : List ℕ} {v : ℕ} (k : ℕ) (l : List ℕ) → k < length l → now ≡ filled f k l → v ≡ f k → set now k v ≡ filled f (k + 1) l
  unfolding filled
  filled_next k l h e g = rw (e, g, add-one) (rw (zero-add k) at (next-from 0 k l h))

  pub length-filled : (k : ℕ) (l : List ℕ) → k ≤ length l → length (filled f k l) ≡ length l
  unfolding filled
  length-filled k l h = length-append (map f (upfrom 0 k)) (drop k l) ∙ omega (arith, length_table k, length-drop k l)

-- the same values make the same list
pub same_values : (f g : ℕ → ℕ) (n : ℕ) → ((i : ℕ) → i < n → f i ≡ g i) → map f (upfrom 0 n) ≡ map g (upfrom 0 n)
same_values f g n h = ext_get_or 0 (map f (upfrom 0 n)) (map g (upfrom 0 n)) (length_table f n ∙ sym (length_table g n))
    (λ i k. let l : i < n = omega (arith, length_table f n) in look_values f n i l ∙ h i l ∙ sym (look_values g n i l))

-- filled with what stands there a list stays
pub filled-same : (f : ℕ → ℕ) (k : ℕ) (l : List ℕ) → k ≤ length l → ((i : ℕ) → i < k → f i ≡ look l i) → filled f k l ≡ l
unfolding filled
filled-same f k l h e =
    ap (λ r. r ++ drop k l) (ext_get_or 0 (map f (upfrom 0 k)) (take k l) (length_table f k ∙ sym (length-take-le k l h))
    (λ i p. let q : i < k = omega (arith, length_table f k) in look_values f k i q ∙ e i q ∙ sym (get_or-take k l i 0 q)))
    ∙ take-append-drop k l

-- a list is the table of its places
map-from : (f : ℕ → ℕ) (l : List ℕ) (g : ℕ → ℕ) (b : ℕ) → ((i : ℕ) → i < length l → g (b + i) ≡ f (look l i)) → map g (upfrom b (length l)) ≡ map f l
unfolding upfrom
map-from f [] g b h = refl
map-from f (x ∷ l) g b h =
    ap₂ ◌∷◌ (rw add-zero at (h 0 (omega arith))) (map-from f l g (suc b) (λ i k. rw suc-add (rw add-suc at (h (suc i) (omega arith)))))

pub map_table : (f : ℕ → ℕ) (l : List ℕ) (n : ℕ) → length l ≡ n → map (λ i. f (look l i)) (upfrom 0 n) ≡ map f l
map_table f l n e = rw (← e) (map-from f l (λ i. f (look l i)) 0 (λ i h. rw zero-add refl))
