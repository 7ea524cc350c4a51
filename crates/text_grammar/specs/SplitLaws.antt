-- The places of a split are those of the fields. By the bytes one by one: a tab ends a field, any other byte belongs to the field that is next to end.
use Rattle.std.specs.Prelude.{Bool, true, false, List, [], ◌∷◌, ◌≢◌, ◌≡◌, refl, eqb, get_or, take, drop, set, replicate}
use Rattle.std.proofs.Common.{⊎_elim, sym, ap, ◌∙◌, zero-add, length-set, length-drop, drop_of_length-le, drop-cons, drop-drop, length-take-le, get_or-set_same, get_or-set_other, eqb-true}
use Prim.Native.Nat.{ℕ, zero, suc, ◌+◌, ◌-◌, ◌≤◌, ◌<◌}
use Rattle.std.proofs.Math.Nat.{add-zero, add-sub_cancel_left, sub_self, sub-zero}
use Rattle.std.proofs.Math.Numerals.{add-one}
use native.Mathlib.Omega.{arith}
use Rattle.std.proofs.Math.ListN.{length}
use Rattle.std.proofs.lemmas.List.Edits.{sets}
use Rattle.std.proofs.Math.Seq.{take-length}
use Rattle.std.proofs.lemmas.Bool.{eqb-false}
use Rattle.text_fields.specs.Fields.{push, fields, field, field_length}
use Rattle.text_fields.specs.FieldLaws.{first_byte, last_field_lem, first_field, tab_or_none, some-field}
use Rattle.text_grammar.specs.Grammar.{FIELDS, ends, split}
use Rattle.text_grammar.specs.declared.Fields.{Fields}

-- ---- byte by byte

-- the fields of what is left of a line from place i on, by the byte at i
at_tab : (l : List ℕ) (i : ℕ) → i < length l → get_or l i 0 ≡ 9 → fields (drop i l) ≡ [] ∷ fields (drop (i + 1) l)
at_tab l i h e = rw (drop-cons l i 0 h, add-one) (⊎_elim (λ t. t.2) (λ t. absurd (t.0 e)) (first_byte (get_or l i 0) (drop (suc i) l)))

at_other : (l : List ℕ) (i : ℕ) → i < length l → get_or l i 0 ≢ 9 → fields (drop i l) ≡ push (get_or l i 0) (fields (drop (i + 1) l))
at_other l i h d = rw (drop-cons l i 0 h, add-one) (⊎_elim (λ t. absurd (d t.0)) (λ t. t.2) (first_byte (get_or l i 0) (drop (suc i) l)))

-- a byte in front of the first field moves no end
ends-push : (at b : ℕ) (f : List ℕ) (fs : List (List ℕ)) → ends at (push b (f ∷ fs)) ≡ ends (at + 1) (f ∷ fs)
unfolding ends push
ends-push at b f fs = let e : at + suc (length f) ≡ at + 1 + length f = omega arith in rw e

-- what the split of a line is, `end` and `count` being those of the bytes before place i
abbrev pub Left : List ℕ → List ℕ → ℕ → ℕ → Fields
Left l end count i = record { end = sets end count (ends i (fields (drop i l))); count = count + length (fields (drop i l)) }

pub split-from-start : (l : List ℕ) → split l ≡ Left l (replicate FIELDS 0) 0 0
unfolding split
split-from-start l = rw zero-add

module _ (l end : List ℕ) (count i : ℕ) where
  pub split_at_tab : i < length l → get_or l i 0 ≡ 9 → Left l end count i ≡ Left l (set end count i) (count + 1) (i + 1)
  unfolding ends
  split_at_tab h e =
      let more : count + suc (length (fields (drop (i + 1) l))) ≡ count + 1 + length (fields (drop (i + 1) l)) = omega arith in
      rw (at_tab l i h e, add-zero i, more, add-one count)

  pub split-at-other : i < length l → get_or l i 0 ≢ 9 → Left l end count i ≡ Left l end count (i + 1)
  unfolding push
  split-at-other h d =
      let k = some-field (drop (i + 1) l) in
      rw (at_other l i h d, k.2, ends-push i (get_or l i 0) k.0 k.1)

  pub split-at-end : length l ≤ i → Left l end count i ≡ record { end = set end count i; count = count + 1 }
  unfolding ends fields
  split-at-end h = rw (drop_of_length-le l {i = i} h, add-zero i)

-- ---- field by field

-- where field k starts, by where fields end
abbrev pub start_in : ℕ → List ℕ → ℕ → ℕ
start_in at es zero = at
start_in at es (suc k) = get_or es k 0 + 1

-- field k of a line that starts at a place is the part of it from its start to its end
pub record Lies (l : List ℕ) (at start end : ℕ) (f : List ℕ) : Type 0 where
  pub behind : at ≤ start
  pub order : start ≤ end
  pub within : end ≤ at + length l
  pub part : take (end - start) (drop (start - at) l) ≡ f

start-later : (at : ℕ) (f : List ℕ) (fs : List (List ℕ)) (k : ℕ)
    → start_in at (ends at (f ∷ fs)) (suc k) ≡ start_in (at + length f + 1) (ends (at + length f + 1) fs) k
unfolding ends
start-later at f fs zero = refl
start-later at f fs (suc k) = refl

own : (l : List ℕ) (at : ℕ) (f : List ℕ) → f ≡ take (length f) l → length f ≤ length l → Lies l at at (at + length f) f
own l at f e h = record {
  behind = omega arith;
  order = omega arith;
  within = omega arith;
  part = rw (add-sub_cancel_left at (length f), sub_self at) (sym e);
}

first_lies : (l : List ℕ) (at : ℕ) → Lies l at at (at + length (field (fields l) 0)) (field (fields l) 0)
first_lies l at =
    ⊎_elim
    (λ h. rw (last_field_lem l h) (own l at l (sym (take-length l)) (omega arith)))
    (λ h.
    let long : length (take (field_length l) l) ≡ field_length l = length-take-le (field_length l) l (omega arith) in
    let short : length (take (field_length l) l) ≤ length l = omega arith in
    rw (first_field l h) (own l at (take (field_length l) l) (rw long) short))
    (tab_or_none l)

pub field_lies : (k : ℕ) (l : List ℕ) (at : ℕ) → k < length (fields l)
    → Lies l at (start_in at (ends at (fields l)) k) (get_or (ends at (fields l)) k 0) (field (fields l) k)
unfolding ends
field_lies zero l at h = let k = some-field l in rw k.2 (rw k.2 at (first_lies l at))
field_lies (suc k) l at h = ⊎_elim
    (λ e. absurd (omega (arith, ap length (last_field_lem l e))))
    (λ e.
    let f = take (field_length l) l in
    let rest = drop (field_length l + 1) l in
    let long = length-take-le (field_length l) l (omega arith) in
    let next = at + length f + 1 in
    let split = first_field l e in
    let L = field_lies k rest next (omega (arith, ap length split)) in
    let s = start_in next (ends next (fields rest)) k in
    let far : field_length l + 1 + (s - next) ≡ s - at = omega (arith, L.behind, long) in
    let same : drop (s - next) rest ≡ drop (s - at) l = drop-drop (s - next) (field_length l + 1) l ∙ rw far in
    rw (split, start-later at f (fields rest) k) (record {
      behind = omega (arith, L.behind);
      order = L.order;
      within = omega (arith, L.within, long, length-drop (field_length l + 1) l);
      part = rw (← same) L.part;
    }))
    (tab_or_none l)

-- a field is as long as its places are apart
pub length_of_field : {l : List ℕ} {at s e : ℕ} {f : List ℕ} → Lies l at s e f → s + length f ≡ e
length_of_field {l} {at} {s} {e} {f} L =
    let room : e - s ≤ length (drop (s - at) l) = omega (arith, L.within, L.behind, length-drop (s - at) l) in
    let long : length f ≡ e - s = ap length (sym L.part) ∙ length-take-le (e - s) (drop (s - at) l) room in
    omega (arith, L.order)

-- ---- the split of a line

-- stores from a place on leave what stands before it
before_sets : (vs l : List ℕ) (i k : ℕ) → k < i → get_or (sets l i vs) k 0 ≡ get_or l k 0
before_sets [] l i k h = refl
before_sets (v ∷ vs) l i k h = before_sets vs (set l i v) (suc i) k (omega arith) ∙ get_or-set_other l i k v 0 (λ e. omega arith)

-- what is stored from a place on is looked up there, as far as there are places
look_sets : (vs l : List ℕ) (i k : ℕ) → i ≤ k → k < i + length vs → k < length l → get_or (sets l i vs) k 0 ≡ get_or vs (k - i) 0
look_sets [] l i k a b h = absurd (omega arith)
look_sets (v ∷ vs) l i k a b h = by (eqb k i) refl (λ d. look_sets vs (set l i v) (suc i) k (omega arith) (omega arith) (omega (arith, length-set l i v)))
  where
    by : (t : Bool) → eqb k i ≡ t → (k ≢ i → get_or (sets (set l i v) (suc i) vs) k 0 ≡ get_or vs (k - suc i) 0)
        → get_or (sets (set l i v) (suc i) vs) k 0 ≡ get_or (v ∷ vs) (k - i) 0
    by true e more =
        let here : k ≡ i = eqb-true k i e in
        rw (here, sub_self i) (before_sets vs (set l i v) (suc i) i (omega arith) ∙ get_or-set_same l i v 0 (omega arith))
    by false e more =
        let d = eqb-false k i e in
        let later : k - i ≡ suc (k - suc i) = omega arith in
        rw later (more d)

-- a store past the last place does nothing
pub set_past : (l : List ℕ) (i a : ℕ) → length l ≤ i → set l i a ≡ l
set_past [] i a h = refl
set_past (x ∷ l) zero a h = absurd (omega arith)
set_past (x ∷ l) (suc i) a h = ap (λ r. x ∷ r) (set_past l i a (omega arith))

length-ends : (at : ℕ) (fs : List (List ℕ)) → length (ends at fs) ≡ length fs
unfolding ends
length-ends at [] = refl
length-ends at (f ∷ fs) = ap suc (length-ends (at + length f + 1) fs)

-- the end of field k
pub end_of_split : (l : List ℕ) (k : ℕ) → k < FIELDS → k < length (fields l) → get_or (split l).end k 0 ≡ get_or (ends 0 (fields l)) k 0
unfolding split
end_of_split l k a b =
    look_sets (ends 0 (fields l)) (replicate FIELDS 0) 0 k (omega arith) (omega (arith, length-ends 0 (fields l))) (omega arith) ∙ rw sub-zero

-- field k lies between its places
lies_in_split : (l : List ℕ) (k : ℕ) → k < FIELDS → k < length (fields l)
    → Lies l 0 (start_in 0 (split l).end k) (get_or (split l).end k 0) (field (fields l) k)
lies_in_split l zero a b = rw (end_of_split l 0 a b) (field_lies 0 l 0 b)
lies_in_split l (suc k) a b = rw (end_of_split l k (omega arith) (omega arith), end_of_split l (suc k) a b) (field_lies (suc k) l 0 b)

pub field_of_split : (l : List ℕ) (found : Fields) → found ≡ split l → (k : ℕ) → k < FIELDS → k < found.count
    → Lies l 0 (start_in 0 found.end k) (get_or found.end k 0) (field (fields l) k)
unfolding split
field_of_split l found e k a b = rw e (lies_in_split l k a (rw e at b))

-- the first field, and a later one, by their places
pub first_part : (l es f : List ℕ) (k e : ℕ) → Lies l 0 (start_in 0 es k) e f → k ≡ 0 → (e ≤ length l) × (take e l ≡ f)
first_part l es f zero e L z = (omega (arith, L.within), rw sub-zero at L.part)
first_part l es f (suc k) e L z = absurd (omega arith)

pub later-part : (l es f : List ℕ) (k e : ℕ) → Lies l 0 (start_in 0 es k) e f → k ≢ 0
    → let s = get_or es (k - 1) 0 + 1 in (s ≤ e) × (e ≤ length l) × (take (e - s) (drop s l) ≡ f)
later-part l es f zero e L d = absurd (d refl)
later-part l es f (suc k) e L d =
    let one : suc k - 1 ≡ k = omega arith in
    rw one (L.order, omega (arith, L.within), rw sub-zero at L.part)

-- how many fields there are, and that there is one
pub count_of_split : (l : List ℕ) (found : Fields) → found ≡ split l → (found.count ≡ length (fields l)) × (1 ≤ found.count)
unfolding split
count_of_split l found e = let n : found.count ≡ length (fields l) = rw e in (n, omega (arith, ap length (some-field l).2))
