-- Laws of writing line after line, and of the room for each.
use mathlib.Core.Path.{◌≡◌, refl, sym, ap, ◌∙◌}
use mathlib.Core.List.{List, [], ◌∷◌, ◌++◌, append_assoc, append-nil}
use Prim.Native.Nat.{ℕ, suc, ◌+◌, ◌^◌, ◌≤◌, ◌<◌}
use native.Mathlib.Numerals.{add-one}
use native.Mathlib.Omega.{arith}
use lib.ListN.{length, get_or, take, drop, length-append}
use lib.Seq.{take-suc, take_all, split_at}
use Rattle.lists.specs.Numbers.{upfrom}
use Rattle.lists.specs.Places.{length-upfrom, look-upfrom}
use Rattle.text_writers.specs.Fields.{decimal, line}
use Rattle.text_writers.specs.Decimal.{decimal-length}
use Rattle.text_writers.specs.Wrote.{Wrote, Room}
use Rattle.text_writers.specs.Writing.{nothing, then}
use Rattle.report.specs.Report.{lines}

-- ---- one line more

lines-append : {A : Type 0} (f : A → List ℕ) (a b : List A) → lines f (a ++ b) ≡ lines f a ++ lines f b
unfolding lines
lines-append f [] b = refl
lines-append f (x ∷ a) b = ap (λ l. f x ++ l) (lines-append f a b) ∙ sym (append_assoc (f x) (lines f a) (lines f b))

module _ {A : Type 0} (f : A → List ℕ) (l : List A) (d : A) (i : ℕ) (h : i < length l) where
  -- the lines written, the next, and the lines still to come
  still-to-come : lines f l ≡ lines f (take i l) ++ (f (get_or l i d) ++ lines f (drop (suc i) l))
  unfolding lines
  still-to-come = ap (lines f) (split_at l i d h) ∙ lines-append f (take i l) (get_or l i d ∷ drop (suc i) l)

  -- there is room for the next line
  pub line_room : {b c : List ℕ} {at r : ℕ} {text : List ℕ} → f (get_or l i d) ≡ text → Room at (lines f l) → Wrote b at (lines f (take i l)) c r → Room r text
  line_room e room w = omega (
    arith,
    w.next,
    ap length e,
    ap length still-to-come,
    length-append (lines f (take i l)) (f (get_or l i d) ++ lines f (drop (suc i) l)),
    length-append (f (get_or l i d)) (lines f (drop (suc i) l)),
  )

  pub line-next : {b c k : List ℕ} {at r q : ℕ} {text : List ℕ} → f (get_or l i d) ≡ text → Wrote b at (lines f (take i l)) c r → Wrote c r text k q
      → Wrote b at (lines f (take (i + 1) l)) k q
  unfolding lines
  line-next e v w = rw (add-one, take-suc l i d h, lines-append f (take i l) (get_or l i d ∷ []), append-nil (f (get_or l i d)), e) (then v w)

-- the first line is still to come, and none
pub lines_none : {A : Type 0} (b : List ℕ) (at : ℕ) (f : A → List ℕ) (l : List A) → Wrote b at (lines f (take 0 l)) b at
unfolding lines
lines_none b at f l = nothing b at

pub lines-all : {A : Type 0} {b c : List ℕ} {at r : ℕ} (f : A → List ℕ) (l : List A) (i : ℕ) → length l ≤ i → Wrote b at (lines f (take i l)) c r
    → Wrote b at (lines f l) c r
lines-all f l i h w = rw (take_all i l h) at w

-- ---- the line of a number, where those of the numbers from b on are written

module _ (f : ℕ → List ℕ) (b n i x : ℕ) (h : i < n) (e : x ≡ b + i) where
  held : i < length (upfrom b n)
  held = omega (arith, length-upfrom b n)

  here : f (get_or (upfrom b n) i 0) ≡ f x
  here = ap f (look-upfrom b n i h ∙ sym e)

  -- there is room for it
  pub room_for : {m c : List ℕ} {at r : ℕ} → Room at (lines f (upfrom b n)) → Wrote m at (lines f (take i (upfrom b n))) c r → Room r (f x)
  room_for = line_room f (upfrom b n) 0 i held here

  pub one_more : {m c k : List ℕ} {at r q : ℕ} → Wrote m at (lines f (take i (upfrom b n))) c r → Wrote c r (f x) k q
      → Wrote m at (lines f (take (i + 1) (upfrom b n))) k q
  one_more = line-next f (upfrom b n) 0 i held here

pub all-from : {m c : List ℕ} {at r : ℕ} (f : ℕ → List ℕ) (b n i : ℕ) → n ≤ i → Wrote m at (lines f (take i (upfrom b n))) c r
    → Wrote m at (lines f (upfrom b n)) c r
all-from f b n i h = lines-all f (upfrom b n) i (omega (arith, length-upfrom b n))

-- ---- numbers

-- two machine numbers at the end of a line
pub two_numbers : (a b : ℕ) → a < 2 ^ 64 → b < 2 ^ 64 → length (line (decimal a ∷ decimal b ∷ [])) ≤ 42
unfolding line
two_numbers a b p q = omega (
  arith,
  length-append (decimal a) (9 ∷ decimal b ++ (10 ∷ [])),
  length-append (decimal b) (10 ∷ []),
  decimal-length a p,
  decimal-length b q,
)
