-- Laws of writing: one run of bytes after another is one run, and fields after fields are a line.
use Rattle.std.specs.Prelude.{◌≡◌, refl, List, [], ◌∷◌, ◌++◌, ℕ, zero, suc, ◌+◌, ◌-◌, ◌*◌, ◌^◌, ◌≤◌, ◌<◌, min, length, get_or, set, take, drop}
use Rattle.std.proofs.Common.{sym, ap, ◌∙◌, append_assoc, add-zero, add-one, arith, length-append, length-take, take-append-drop, set-set, take-suc, take_all}
use Rattle.std.proofs.lemmas.List.Edits.{sets}
use Rattle.std.proofs.Math.Seq.{set_out, length-sets, drop-nil}
use Rattle.std.proofs.lemmas.List.{set_comm}
use Rattle.std.proofs.Math.Decide.{dec_lt}
use Rattle.text_writers.specs.Fields.{decimal, padded, line, begun}
use Rattle.text_writers.specs.Decimal.{decimal_small, decimal_full, decimal_pieces, padded-length}
use Rattle.text_writers.specs.Wrote.{Wrote, Room}

sets_append : (a b l : List ℕ) (i : ℕ) → sets l i (a ++ b) ≡ sets (sets l i a) (i + length a) b
sets_append [] b l i = rw add-zero
sets_append (x ∷ a) b l i =
    let e : suc i + length a ≡ i + suc (length a) = omega arith in
    rw (← e) (sets_append a b (set l i x) (suc i))

-- bytes without a place are not written
pub sets_out : (vs l : List ℕ) (i : ℕ) → length l ≤ i → sets l i vs ≡ l
sets_out [] l i h = refl
sets_out (x ∷ vs) l i h = rw (set_out l i x h) (sets_out vs l (suc i) (omega arith))

-- as many bytes of a part as there are places for
pub sets_fitting : (part l : List ℕ) (at m : ℕ) → m ≡ min (length part) (length l - at) → sets l at (take m part) ≡ sets l at part
sets_fitting part l at m e = elim (dec_lt m (length part)) [
  | no g ↦ rw (take_all m part (omega arith))
  | yes g ↦ let k = length-take m part in
      let out = sets_out (drop m part) (sets l at (take m part)) (at + length (take m part)) (omega (arith, length-sets l at (take m part))) in
      sym out ∙ sym (sets_append (take m part) (drop m part) l at) ∙ ap (sets l at) (take-append-drop m part)
]

-- one byte of a part more
pub sets_next : (part l : List ℕ) (at i : ℕ) → i < length part → set (sets l at (take i part)) (at + i) (get_or part i 0) ≡ sets l at (take (i + 1) part)
sets_next part l at i h =
    let e : length (take i part) ≡ i = omega (arith, length-take i part) in
    rw (add-one, take-suc part i 0 h, sets_append (take i part) (get_or part i 0 ∷ []) l at, e)

-- ---- blocks of bytes

set_before : (vs l : List ℕ) (i j x : ℕ) → j < i → set (sets l i vs) j x ≡ sets (set l j x) i vs
set_before [] l i j x h = refl
set_before (v ∷ vs) l i j x h = set_before vs (set l i v) (suc i) j x (omega arith) ∙ rw (set_comm l i j v x (λ e. omega arith))

-- bytes of which the first k are written already, written from place i of them on
sets_again : (p l : List ℕ) (at i k : ℕ) → i ≤ k → sets (sets l at (take k p)) (at + i) (drop i p) ≡ sets l at p
sets_again p l at zero zero h = rw add-zero
sets_again [] l at i (suc k) h = rw (drop-nil {A = ℕ} i)
sets_again (x ∷ p) l at zero (suc k) h =
    let same = set_before (take k p) (set l at x) (suc at) at x (omega arith) ∙ ap (λ m. sets m (suc at) (take k p)) (set-set l at x x) in
    let rest = sets_again p (set l at x) (suc at) zero k (omega arith) in
    rw (add-zero at) (ap (λ m. sets m (suc at) p) same ∙ (rw (add-zero (suc at)) at rest))
sets_again (x ∷ p) l at (suc i) (suc k) h =
    let e : at + suc i ≡ suc at + i = omega arith in
    rw e (sets_again p (set l at x) (suc at) i k (omega arith))
sets_again p l at (suc i) zero h = elim h [ ]

-- the first k bytes of a part and its last k are all of it, where it has no more than twice as many; and a byte behind them
pub halved : {l m n : List ℕ} (p : List ℕ) (at k stop : ℕ) → k ≤ length p → length p ≤ k + k → m ≡ sets l at (take k p)
    → n ≡ sets m (at + length p - k) (drop (length p - k) p) → Wrote l at (p ++ (stop ∷ [])) (set n (at + length p) stop) (at + length p + 1)
halved {l} {m} {n} p at k stop low high e f =
    let place : at + length p - k ≡ at + (length p - k) = omega arith in
    let all : n ≡ sets l at p = f ∙ rw (place, e) (sets_again p l at (length p - k) k (omega arith)) in
    record { next = omega (arith, length-append p (stop ∷ [])); stored = ap (λ b. set b (at + length p) stop) all ∙ sym (sets_append p (stop ∷ []) l at) }

pub nothing : (l : List ℕ) (at : ℕ) → Wrote l at [] l at
nothing l at = record { next = sym (add-zero at); stored = refl }

-- a byte past the end
pub past : (l : List ℕ) (at b : ℕ) → length l ≤ at → Wrote l at (b ∷ []) l (at + 1)
past l at b h = record { next = refl; stored = sym (set_out l at b h) }

pub then : {l m k : List ℕ} {at r q : ℕ} {a b : List ℕ} → Wrote l at a m r → Wrote m r b k q → Wrote l at (a ++ b) k q
then {l} {m} {k} {at} {r} {q} {a} {b} v w = record {
  next = omega (arith, v.next, w.next, length-append a b);
  stored = w.stored ∙ (rw (v.next, v.stored) (sym (sets_append a b l at)));
}

-- ---- digits

pub one_digit : (l : List ℕ) (at n : ℕ) → n < 10 → Wrote l at (decimal n) (set l at (48 + n)) (at + 1)
one_digit l at n h = rw (decimal_small n h) (record { next = refl; stored = refl })

-- the digits of a number that has so many
pub all_digits : {l m : List ℕ} (at k n : ℕ) → 10 ^ k ≤ n → n < 10 ^ suc k → m ≡ sets l at (padded (suc k) n) → Wrote l at (decimal n) m (at + suc k)
all_digits at k n low high e = rw (decimal_full k n low high) (record { next = omega (arith, padded-length (suc k) n); stored = e })

-- the digits of a number's high part, and then k of its low part
pub digits_behind : {l m b : List ℕ} {at r : ℕ} (k n high low : ℕ) → n ≡ high * 10 ^ k + low → 1 ≤ high → low < 10 ^ k → Wrote l at (decimal high) m r
    → b ≡ sets m r (padded k low) → Wrote l at (decimal n) b (r + k)
digits_behind k n high low e p q w f =
    rw (decimal_pieces k high low n e p q) (then w (record { next = omega (arith, padded-length k low); stored = f }))

-- a writer keeps the buffer's length
pub same_size : {l m : List ℕ} {at r : ℕ} {a : List ℕ} → Wrote l at a m r → length m ≡ length l
same_size {l} {m} {at} {r} {a} v = ap length v.stored ∙ length-sets l at a

-- ---- room

-- room for a text has room for its front, and after that for the rest
pub room_front : (at : ℕ) (a b : List ℕ) → Room at (a ++ b) → Room at a
room_front at a b h = omega (arith, length-append a b)

pub room_after : {l m : List ℕ} {at r : ℕ} {a : List ℕ} → Wrote l at a m r → (b : List ℕ) → Room at (a ++ b) → Room r b
room_after {l} {m} {at} {r} {a} w b h = omega (arith, w.next, length-append a b)

-- ---- fields

-- the first fields of a line, and then the others
begun-line : (fs : List (List ℕ)) (g : List ℕ) (gs : List (List ℕ)) → begun fs ++ line (g ∷ gs) ≡ line (fs ++ (g ∷ gs))
unfolding begun line
begun-line [] g gs = refl
begun-line (f ∷ []) g gs = append_assoc f (9 ∷ []) (line (g ∷ gs))
begun-line (f ∷ h ∷ fs) g gs = append_assoc f (9 ∷ begun (h ∷ fs)) (line (g ∷ gs)) ∙ ap (λ l. f ++ (9 ∷ l)) (begun-line (h ∷ fs) g gs)

pub line_ended : {l m k : List ℕ} {at r q : ℕ} (fs : List (List ℕ)) (g : List ℕ) (gs : List (List ℕ)) → Wrote l at (begun fs) m r
    → Wrote m r (line (g ∷ gs)) k q → Wrote l at (line (fs ++ (g ∷ gs))) k q
line_ended fs g gs v w = rw (begun-line fs g gs) at (then v w)

-- so for the room of a line
pub room_begun : (at : ℕ) (fs : List (List ℕ)) (g : List ℕ) (gs : List (List ℕ)) → Room at (line (fs ++ (g ∷ gs))) → Room at (begun fs)
room_begun at fs g gs h = omega (arith, length-append (begun fs) (line (g ∷ gs)), ap length (begun-line fs g gs))

pub room_ended : {l m : List ℕ} {at r : ℕ} (fs : List (List ℕ)) (g : List ℕ) (gs : List (List ℕ)) → Wrote l at (begun fs) m r → Room at (line (fs ++ (g ∷ gs)))
    → Room r (line (g ∷ gs))
room_ended fs g gs w h = omega (arith, w.next, length-append (begun fs) (line (g ∷ gs)), ap length (begun-line fs g gs))

-- one field with its tab
pub first_field : {l m : List ℕ} {at r : ℕ} (f : List ℕ) → Wrote l at (f ++ (9 ∷ [])) m r → Wrote l at (begun (f ∷ [])) m r
unfolding begun
first_field f w = w

-- one field more with its tab
begun_more : (fs : List (List ℕ)) (g : List ℕ) → begun fs ++ (g ++ (9 ∷ [])) ≡ begun (fs ++ (g ∷ []))
unfolding begun
begun_more [] g = refl
begun_more (f ∷ fs) g = append_assoc f (9 ∷ begun fs) (g ++ (9 ∷ [])) ∙ ap (λ l. f ++ (9 ∷ l)) (begun_more fs g)

pub next_field : {l m k : List ℕ} {at r q : ℕ} (fs : List (List ℕ)) (g : List ℕ) → Wrote l at (begun fs) m r → Wrote m r (g ++ (9 ∷ [])) k q
    → Wrote l at (begun (fs ++ (g ∷ []))) k q
next_field fs g v w = rw (begun_more fs g) at (then v w)

-- and its room
pub room_fields : (at : ℕ) (fs : List (List ℕ)) (g : List ℕ) → Room at (begun (fs ++ (g ∷ []))) → Room at (begun fs)
room_fields at fs g h = omega (arith, length-append (begun fs) (g ++ (9 ∷ [])), ap length (begun_more fs g))

pub room_next : {l m : List ℕ} {at r : ℕ} (fs : List (List ℕ)) (g : List ℕ) → Wrote l at (begun fs) m r → Room at (begun (fs ++ (g ∷ [])))
    → Room r (g ++ (9 ∷ []))
room_next fs g w h = omega (arith, w.next, length-append (begun fs) (g ++ (9 ∷ [])), ap length (begun_more fs g))

-- the last field of a line
pub last_field_lem : {l m : List ℕ} {at r : ℕ} (f : List ℕ) → Wrote l at (f ++ (10 ∷ [])) m r → Wrote l at (line (f ∷ [])) m r
unfolding line
last_field_lem f w = w
