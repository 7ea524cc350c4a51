-- Reading back what was written: the fields of a line, the lines of a text and the value of a decimal are what went in.
-- By induction over the bytes: neither names nor decimals hold a tab or a byte 10.
use Rattle.std.specs.Prelude.{◌≡◌, Bool, cond, ℕ, zero, suc, ◌+◌, ◌-◌, ◌*◌, ◌/◌, ◌%◌, ◌≤◌, ◌<◌, eqb}
use Rattle.std.proofs.Math.Path.{refl, ap}
use Rattle.std.proofs.Common.{◌∙◌, arith, ne_eqb, lt-ltb, le-ltb}
use Rattle.std.proofs.Math.Bool.{true, false}
use mathlib.Core.List.{List, [], ◌∷◌, ◌++◌, map, flat_map, append_assoc, append-nil, nil≢cons, head-eq_of_cons-eq, tail-eq_of_cons-eq}
use Rattle.std.proofs.Math.Decide.{dec_lt}
use Rattle.lists.specs.Numbers.{Each}
use Rattle.lists.specs.Sums.{cases}
use Rattle.lists.specs.Tallies.{each_append}
use Rattle.sheet_kinds.specs.LineKinds.{push, fields, field, same, value, value_from}
use Rattle.report.specs.Report.{digits, decimal, line, lines}
use Rattle.demands.specs.Printed.{lines_of, Record, records, headed}

-- ---- bytes that part no fields and end no line

-- every byte is `-`, a digit, a letter, or another above these
abbrev pub Plain : List ℕ → Type 0
Plain f = Each (λ b. 45 ≤ b) f

module _ (b : ℕ) (p : 45 ≤ b) where
  no_tab : eqb b 9 ≡ false
  no_tab = ne_eqb b 9 (λ e. omega arith)

  no_end : eqb b 10 ≡ false
  no_end = ne_eqb b 10 (λ e. omega arith)

  -- a plain byte goes to the front of the first field of the first line
  plain_byte_of : (ls : List (List ℕ)) (g : List ℕ) (gs : Record) (rs : List Record)
      → map fields ls ≡ (g ∷ gs) ∷ rs → map fields (push b ls) ≡ ((b ∷ g) ∷ gs) ∷ rs
  unfolding push fields
  plain_byte_of [] g gs rs e = absurd (nil≢cons e)
  plain_byte_of (l ∷ ls) g gs rs e = rw (no_tab, head-eq_of_cons-eq e, tail-eq_of_cons-eq e)

  plain_byte : (x g : List ℕ) (gs : Record) (rs : List Record) → records x ≡ (g ∷ gs) ∷ rs → records (b ∷ x) ≡ ((b ∷ g) ∷ gs) ∷ rs
  unfolding records lines_of
  plain_byte x g gs rs e = rw no_end (plain_byte_of (lines_of x) g gs rs e)

-- a tab parts the field before it from those after
tab_of : (ls : List (List ℕ)) (gs : Record) (rs : List Record) → map fields ls ≡ gs ∷ rs → map fields (push 9 ls) ≡ ([] ∷ gs) ∷ rs
unfolding push fields
tab_of [] gs rs e = absurd (nil≢cons e)
tab_of (l ∷ ls) gs rs e = rw (head-eq_of_cons-eq e, tail-eq_of_cons-eq e)

tab : (x : List ℕ) (gs : Record) (rs : List Record) → records x ≡ gs ∷ rs → records (9 ∷ x) ≡ ([] ∷ gs) ∷ rs
unfolding records lines_of
tab x gs rs e = tab_of (lines_of x) gs rs e

-- byte 10 ends a line
line-end : (x : List ℕ) → records (10 ∷ x) ≡ ([] ∷ []) ∷ records x
unfolding records lines_of fields
line-end x = refl

-- plain bytes go to the front of the first field
plain-bytes : (f : List ℕ) → Plain f → (x g : List ℕ) (gs : Record) (rs : List Record) → records x ≡ (g ∷ gs) ∷ rs → records (f ++ x) ≡ ((f ++ g) ∷ gs) ∷ rs
plain-bytes [] p x g gs rs e = e
plain-bytes (b ∷ f) p x g gs rs e = plain_byte b p.0 (f ++ x) (f ++ g) gs rs (plain-bytes f p.1 x g gs rs e)

-- ---- lines

-- the fields of a line, and the lines after it
pub line_read_back : (f : List ℕ) (fs : Record) → Each Plain (f ∷ fs) → (x : List ℕ) → records (line (f ∷ fs) ++ x) ≡ (f ∷ fs) ∷ records x
unfolding line
line_read_back f [] p x = rw (append_assoc f (10 ∷ []) x) (plain-bytes f p.0 (10 ∷ x) [] [] (records x) (line-end x) ∙ rw (append-nil f))
line_read_back f (g ∷ fs) p x =
    rw (append_assoc f (9 ∷ line (g ∷ fs)) x)
    (plain-bytes f p.0 (9 ∷ (line (g ∷ fs) ++ x)) [] (g ∷ fs) (records x) (tab (line (g ∷ fs) ++ x) (g ∷ fs) (records x) (line_read_back g fs p.1 x))
    ∙ rw (append-nil f))

-- ---- decimals

value-append : (v : ℕ) (x y : List ℕ) → value_from v (x ++ y) ≡ value_from (value_from v x) y
unfolding value_from
value-append v [] y = refl
value-append v (b ∷ x) y = value-append (v * 10 + (b - 48)) x y

digits_read_back : (fuel n : ℕ) → n < fuel → value (digits fuel n) ≡ n
unfolding digits value_from
digits_read_back zero n l = absurd (omega arith)
digits_read_back (suc fuel) n l = cases (dec_lt n 10)
    (λ s. rw (lt-ltb _ _ s) (omega arith))
    (λ s. let h : 10 ≤ n = omega arith in
    rw (le-ltb _ _ h)
    (value-append 0 (digits fuel (n / 10)) ((48 + n % 10) ∷ []) ∙ omega (arith, digits_read_back fuel (n / 10) (omega arith))))

-- the value of a decimal is its number
pub decimal_read_back : (n : ℕ) → value (decimal n) ≡ n
unfolding decimal
decimal_read_back n = digits_read_back (suc n) n (omega arith)

digits-plain : (fuel n : ℕ) → Plain (digits fuel n)
unfolding digits
digits-plain zero n = tt
digits-plain (suc fuel) n = cases (dec_lt n 10)
    (λ s. rw (lt-ltb _ _ s) (omega arith, tt))
    (λ s. let h : 10 ≤ n = omega arith in
    rw (le-ltb _ _ h) (each_append (λ b. 45 ≤ b) (digits fuel (n / 10)) ((48 + n % 10) ∷ []) (digits-plain fuel (n / 10)) (omega arith, tt)))

pub decimal-plain : (n : ℕ) → Plain (decimal n)
unfolding decimal
decimal-plain n = digits-plain (suc n) n

-- ---- many lines

module _ {A : Type 0} (f : A → List ℕ) (g : A → List Record) (back : (a : A) (x : List ℕ) → records (f a ++ x) ≡ g a ++ records x) where
  -- what each part gives, one after the other
  pub lines_read_back : (l : List A) (x : List ℕ) → records (lines f l ++ x) ≡ flat_map g l ++ records x
  unfolding lines flat_map
  lines_read_back [] x = refl
  lines_read_back (a ∷ l) x = rw (append_assoc (f a) (lines f l) x, append_assoc (g a) (flat_map g l) (records x))
      (back a (lines f l ++ x) ∙ ap (λ y. g a ++ y) (lines_read_back l x))

first-or-not : (t : Bool) (l : Record) (x y : List Record) → cond t (l ∷ (x ++ y)) (x ++ y) ≡ cond t (l ∷ x) x ++ y
first-or-not true l x y = refl
first-or-not false l x y = refl

pub headed-append : (k : List ℕ) (x y : List Record) → headed k (x ++ y) ≡ headed k x ++ headed k y
unfolding headed
headed-append k [] y = refl
headed-append k (l ∷ x) y = rw (headed-append k x y) (first-or-not (same (field l 0) k) l (headed k x) (headed k y))

-- where each part is kept whole or not at all, so is all
module _ {A : Type 0} (k : List ℕ) (g : A → List Record) where
  pub headed_parts : (t : Bool) → ((a : A) → headed k (g a) ≡ cond t (g a) []) → (l : List A) → headed k (flat_map g l) ≡ cond t (flat_map g l) []
  unfolding flat_map headed
  headed_parts true h [] = refl
  headed_parts false h [] = refl
  headed_parts true h (a ∷ l) = headed-append k (g a) (flat_map g l) ∙ rw (h a, headed_parts true h l)
  headed_parts false h (a ∷ l) = headed-append k (g a) (flat_map g l) ∙ rw (h a, headed_parts false h l)
