-- The rows of the arrays are the list of open pairs: a store in the arrays is the change of the list, and zeros stay behind it.
use Rattle.std.specs.Prelude.{◌≡◌, ◌≢◌, length, take, set, get_or, replicate}
use Rattle.std.proofs.Math.Path.{refl, ap}
use Rattle.std.proofs.Common.{sym, ◌∙◌, length-set, length-append, ext_get_or, get_or-set_same, get_or-set_other, get_or-take, length-take-le}
use mathlib.Core.List.{List, [], ◌∷◌, ◌++◌, map}
use Prim.Native.Nat.{ℕ, zero, suc, ◌+◌, ◌-◌, ◌/◌, ◌%◌, ◌≤◌, ◌<◌}
use native.Mathlib.Omega.{arith}
use Rattle.std.proofs.lemmas.List.{length-map, get_or_at}
use Rattle.std.proofs.Math.ListN.{get_or-append}
use Rattle.lists.specs.Numbers.{upfrom, look}
use Rattle.model.specs.declared.Pair.{Pair}
use Rattle.lists.specs.Sums.{pick_same, pick_other, same?}
use Rattle.lists.specs.Places.{length-upfrom, look-upfrom, look-zeros}
use Rattle.model.specs.Booking.{pair, same, grow, shrink, moved, last_of, front_of}
use Rattle.theory_log.specs.Pairs.{same-one}
use Rattle.theory_log.proofs.Pairs.{same-is}
use Rattle.model.specs.Limits.{OPEN, PLACES, SITES}
use Rattle.log_pairs.specs.Arrays.{none, packed, row, entries, pairs_of, Held, FirstPlace, Growing, Shrinking}
use Rattle.log_pairs.specs.declared.OpenPairs.{OpenPairs}

-- ---- the first place of a pair

module _ (a b x : ℕ) where
  pub grow-set : (es : List Pair) (k : ℕ) → k < length es → same a b (get_or es k none) ≡ 1 → ((i : ℕ) → i < k → same a b (get_or es i none) ≢ 1)
      → grow a b x es ≡ set es k (pair a b ((get_or es k none).amount + x))
  unfolding grow
  grow-set [] k l s h = absurd (omega arith)
  grow-set (e ∷ es) zero l s h = pick_same s _ _
  grow-set (e ∷ es) (suc k) l s h = pick_other (h 0 (omega arith)) _ _ ∙ ap (λ r. e ∷ r) (grow-set es k (omega arith) s (λ i m. h (suc i) (omega arith)))

  pub grow_new : (es : List Pair) → ((i : ℕ) → i < length es → same a b (get_or es i none) ≢ 1) → grow a b x es ≡ es ++ (pair a b x ∷ [])
  unfolding grow
  grow_new [] h = refl
  grow_new (e ∷ es) h = pick_other (h 0 (omega arith)) _ _ ∙ ap (λ r. e ∷ r) (grow_new es (λ i m. h (suc i) (omega arith)))

  pub shrink-set : (es : List Pair) (k : ℕ) → k < length es → same a b (get_or es k none) ≡ 1 → ((i : ℕ) → i < k → same a b (get_or es i none) ≢ 1)
      → (get_or es k none).amount ≢ x → shrink a b x es ≡ set es k (pair a b ((get_or es k none).amount - x))
  unfolding shrink
  shrink-set [] k l s h d = absurd (omega arith)
  shrink-set (e ∷ es) zero l s h d = pick_same s _ _ ∙ pick_other d _ _
  shrink-set (e ∷ es) (suc k) l s h d =
      pick_other (h 0 (omega arith)) _ _ ∙ ap (λ r. e ∷ r) (shrink-set es k (omega arith) s (λ i m. h (suc i) (omega arith)) d)

  -- the last entry, and the others, by places
  last_is : (e : Pair) (es : List Pair) → last_of e es ≡ get_or (e ∷ es) (length es) none
  unfolding last_of
  last_is e [] = refl
  last_is e (f ∷ es) = last_is f es

  front-is : (e : Pair) (es : List Pair) → front_of e es ≡ take (length es) (e ∷ es)
  unfolding front_of
  front-is e [] = refl
  front-is e (f ∷ es) = ap (λ r. e ∷ r) (front-is f es)

  pub shrink_gone : (es : List Pair) (k m : ℕ) → length es ≡ suc m → k < length es → same a b (get_or es k none) ≡ 1
      → ((i : ℕ) → i < k → same a b (get_or es i none) ≢ 1) → (get_or es k none).amount ≡ x → shrink a b x es ≡ take m (set es k (get_or es m none))
  unfolding shrink moved
  shrink_gone [] k m z l s h d = absurd (omega arith)
  shrink_gone (e ∷ []) zero m z l s h d = let y : m ≡ 0 = omega arith in rw y (pick_same s _ _ ∙ pick_same d _ _)
  shrink_gone (e ∷ f ∷ es) zero m z l s h d =
      let y : m ≡ suc (length es) = omega arith in
      rw y (pick_same s _ _ ∙ pick_same d _ _ ∙ rw (last_is f es, front-is f es) refl)
  shrink_gone (e ∷ es) (suc k) zero z l s h d = absurd (omega arith)
  shrink_gone (e ∷ es) (suc k) (suc m) z l s h d =
      pick_other (h 0 (omega arith)) _ _ ∙ ap (λ r. e ∷ r) (shrink_gone es k m (omega arith) (omega arith) s (λ i n. h (suc i) (omega arith)) d)

-- ---- one row stored

row_at : (f m : List ℕ) (k u w : ℕ) → k < length f → k < length m → row (set f k u) (set m k w) k ≡ pair (u / PLACES) (u % PLACES) w
row_at f m k u w p q = rw (get_or-set_same f k u 0 p, get_or-set_same m k w 0 q) refl

row_same : (f m : List ℕ) (k a b w : ℕ) → b ≤ SITES → k < length f → k < length m → row (set f k (packed a b)) (set m k w) k ≡ pair a b w
row_same f m k a b w l p q =
    let first : packed a b / PLACES ≡ a = omega arith in
    let second : packed a b % PLACES ≡ b = omega arith in
    row_at f m k (packed a b) w p q ∙ rw (first, second) refl

row_other : (f m : List ℕ) (k i u w : ℕ) → i ≢ k → row (set f k u) (set m k w) i ≡ row f m i
row_other f m k i u w d = rw (get_or-set_other f k i u 0 d, get_or-set_other m k i w 0 d) refl

amount_other : (f m : List ℕ) (k i w : ℕ) → i ≢ k → row f (set m k w) i ≡ row f m i
amount_other f m k i w d = rw (get_or-set_other m k i w 0 d) refl

-- ---- the entries of the arrays

pub length-entries : (f m : List ℕ) (n : ℕ) → length (entries f m n) ≡ n
unfolding entries
length-entries f m n = length-map (upfrom 0 n) (row f m) ∙ length-upfrom 0 n

map_at : (g : ℕ → Pair) (xs : List ℕ) (i : ℕ) → i < length xs → get_or (map g xs) i none ≡ g (look xs i)
map_at g [] i l = absurd (omega arith)
map_at g (x ∷ xs) zero l = refl
map_at g (x ∷ xs) (suc i) l = map_at g xs i (omega arith)

pub entries_at : (f m : List ℕ) (n i : ℕ) → i < n → get_or (entries f m n) i none ≡ row f m i
unfolding entries
entries_at f m n i l = map_at (row f m) (upfrom 0 n) i (omega (arith, length-upfrom 0 n)) ∙ ap (row f m) (omega (arith, look-upfrom 0 n i l))

-- entries that are the entries of a list are the list
pub entries_are : (f m : List ℕ) (n : ℕ) (es : List Pair) → length es ≡ n → ((i : ℕ) → i < n → row f m i ≡ get_or es i none) → entries f m n ≡ es
entries_are f m n es z h =
    ext_get_or none (entries f m n) es (length-entries f m n ∙ sym z)
    (λ i l. let k : i < n = omega (arith, length-entries f m n) in entries_at f m n i k ∙ h i k)

module _ (f m : List ℕ) (a b n k : ℕ) (p : FirstPlace f a b n k) where
  pub first-there : k < n → same a b (get_or (entries f m n) k none) ≡ 1
  first-there l = rw (entries_at f m n k l) (same-is a b (row f m k) (p.there l).0 (p.there l).1)

  pub first-before : (i : ℕ) → i < k → same a b (get_or (entries f m n) i none) ≢ 1
  first-before i l e =
      let r = p.within in
      let q = same-one a b (row f m i) (rw (entries_at f m n i (omega arith)) at e) in
      p.before i l q.0 q.1

  module _ (x : ℕ) (long : n ≤ length m) where
    -- a store of another amount
    entries-amount : (y : ℕ) → k < n → entries f (set m k y) n ≡ set (entries f m n) k (pair a b y)
    entries-amount y l =
        let es = entries f m n in
        entries_are f (set m k y) n (set es k (pair a b y)) (length-set es k (pair a b y) ∙ length-entries f m n) (λ i h. same? i k
        (λ z. rw (z, get_or-set_same es k (pair a b y) none (omega (arith, length-entries f m n)))
        (rw (get_or-set_same m k y 0 (omega arith), (p.there l).0, (p.there l).1) refl))
        (λ z. rw (get_or-set_other es k i (pair a b y) none z) (amount_other f m k i y z ∙ sym (entries_at f m n i h))))

    pub entries_grown : k < n → entries f (set m k (look m k + x)) n ≡ grow a b x (entries f m n)
    entries_grown l = entries-amount (look m k + x) l
        ∙ sym (grow-set a b x (entries f m n) k (omega (arith, length-entries f m n)) (first-there l) first-before
        ∙ rw (entries_at f m n k l) refl)

    pub entries_shrunk : k < n → look m k ≢ x → entries f (set m k (look m k - x)) n ≡ shrink a b x (entries f m n)
    entries_shrunk l d = entries-amount (look m k - x) l
        ∙ sym (shrink-set a b x (entries f m n) k (omega (arith, length-entries f m n)) (first-there l) first-before (rw (entries_at f m n k l) d)
        ∙ rw (entries_at f m n k l) refl)

  -- a new row
  pub entries_new : (x : ℕ) → b ≤ SITES → k ≡ n → n < length f → n < length m
      → entries (set f n (packed a b)) (set m n x) (n + 1) ≡ grow a b x (entries f m n)
  entries_new x low z lf lm =
      let es = entries f m n in
      let long = length-entries f m n in
      entries_are (set f n (packed a b)) (set m n x) (n + 1) (es ++ (pair a b x ∷ []))
      (length-append es (pair a b x ∷ []) ∙ omega (arith, long))
      (λ i h. same? i n
      (λ e. rw e (row_same f m n a b x low lf lm ∙ sym (get_or_at es (pair a b x) [] none n long)))
      (λ e. row_other f m n i (packed a b) x e ∙ sym (get_or-append es (pair a b x ∷ []) none i (omega arith) ∙ entries_at f m n i (omega arith))))
      ∙ sym (grow_new a b x es (λ i l. first-before i (omega arith)))

  -- the last row in the place of the one that goes
  pub entries_gone : (x : ℕ) → k < n → n ≤ length f → n ≤ length m → look m k ≡ x
      → entries (set f k (look f (n - 1))) (set m k (look m (n - 1))) (n - 1) ≡ shrink a b x (entries f m n)
  entries_gone x l lf lm d =
      let es = entries f m n in
      let long = length-entries f m n in
      let last = n - 1 in
      let e = get_or es last none in
      entries_are (set f k (look f last)) (set m k (look m last)) last (take last (set es k e))
      (length-take-le last (set es k e) (omega (arith, length-set es k e)))
      (λ i h. rw (get_or-take last (set es k e) i none h) (same? i k
      (λ z. rw (z, get_or-set_same es k e none (omega arith))
      (row_at f m k (look f last) (look m last) (omega arith) (omega arith) ∙ sym (entries_at f m n last (omega arith))))
      (λ z. rw (get_or-set_other es k i e none z)
      (row_other f m k i (look f last) (look m last) z ∙ sym (entries_at f m n i (omega arith))))))
      ∙ sym (shrink_gone a b x es k last (omega arith) (omega arith) (first-there l) first-before (rw (entries_at f m n k l) d))

-- ---- the arrays hold the list that grows or shrinks

-- a store behind the entries changes none
entries_past : (f m : List ℕ) (n k u w : ℕ) → n ≤ k → entries (set f k u) (set m k w) n ≡ entries f m n
entries_past f m n k u w h = entries_are (set f k u) (set m k w) n (entries f m n) (length-entries f m n)
    (λ i l. row_other f m k i u w (λ e. omega arith) ∙ sym (entries_at f m n i l))

module _ {o : OpenPairs} {a b x k : ℕ} (g : Growing o a b x k) where
  pub held_grown : k < o.count → Held (grow a b x (pairs_of o)) (record { pairs = o.pairs; amounts = set o.amounts k (look o.amounts k + x); count = o.count })
  held_grown l = let h = g.held in record {
    pairs = h.pairs;
    amounts = length-set o.amounts k (look o.amounts k + x) ∙ h.amounts;
    few = h.few;
    same = entries_grown o.pairs o.amounts a b o.count k g.place x (omega (arith, h.few, h.amounts)) l;
    behind = λ i p. amount_other o.pairs o.amounts k i (look o.amounts k + x) (λ e. omega arith) ∙ h.behind i p;
  }

  pub held_new : k ≡ o.count
      → Held (grow a b x (pairs_of o)) (record { pairs = set o.pairs k (packed a b); amounts = set o.amounts k x; count = o.count + 1 })
  held_new e =
      let h = g.held in
      let room = g.room in
      record {
        pairs = length-set o.pairs k (packed a b) ∙ h.pairs;
        amounts = length-set o.amounts k x ∙ h.amounts;
        few = omega arith;
        same = rw e (entries_new o.pairs o.amounts a b o.count k g.place x g.second e (omega (arith, h.pairs)) (omega (arith, h.amounts)));
        behind = λ i p. row_other o.pairs o.amounts k i (packed a b) x (λ z. omega arith) ∙ h.behind i (omega arith);
      }

module _ {o : OpenPairs} {a b x k : ℕ} (g : Shrinking o a b x k) where
  pub held_shrunk : x < look o.amounts k
      → Held (shrink a b x (pairs_of o)) (record { pairs = o.pairs; amounts = set o.amounts k (look o.amounts k - x); count = o.count })
  held_shrunk l = let h = g.held in record {
    pairs = h.pairs;
    amounts = length-set o.amounts k (look o.amounts k - x) ∙ h.amounts;
    few = h.few;
    same = entries_shrunk o.pairs o.amounts a b o.count k g.place x (omega (arith, h.few, h.amounts)) g.there (λ e. omega arith);
    behind = λ i p. amount_other o.pairs o.amounts k i (look o.amounts k - x) (λ e. omega (arith, g.there)) ∙ h.behind i p;
  }

  pub held_gone : look o.amounts k ≡ x → let last = o.count - 1 in
      Held (shrink a b x (pairs_of o)) (record {
        pairs = set (set o.pairs k (look o.pairs last)) last 0;
        amounts = set (set o.amounts k (look o.amounts last)) last 0;
        count = last;
      })
  held_gone e =
      let h = g.held in
      let last = o.count - 1 in
      let there = g.there in
      let f' = set o.pairs k (look o.pairs last) in
      let m' = set o.amounts k (look o.amounts last) in
      let few : last < OPEN = omega (arith, h.few) in
      let long-f : length f' ≡ OPEN = length-set o.pairs k (look o.pairs last) ∙ h.pairs in
      let long-m : length m' ≡ OPEN = length-set o.amounts k (look o.amounts last) ∙ h.amounts in
      record {
        pairs = length-set f' last 0 ∙ long-f;
        amounts = length-set m' last 0 ∙ long-m;
        few = omega arith;
        same = entries_past f' m' last last 0 0 (omega arith)
            ∙ entries_gone o.pairs o.amounts a b o.count k g.place x there (omega (arith, h.pairs)) (omega (arith, h.amounts)) e;
        behind = λ i p. same? i last
            (λ z. rw z (row_at f' m' last 0 0 (omega arith) (omega arith)))
            (λ z. row_other f' m' last i 0 0 z ∙ row_other o.pairs o.amounts k i (look o.pairs last) (look o.amounts last) (λ q. omega arith)
            ∙ h.behind i (omega arith));
      }

-- before the first pair
pub held_none : Held [] (record { pairs = replicate OPEN 0; amounts = replicate OPEN 0; count = 0 })
unfolding entries upfrom
held_none = record { pairs = refl; amounts = refl; few = omega arith; same = refl; behind = λ i h. rw (look-zeros OPEN i) refl }
