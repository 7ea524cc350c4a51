-- Entries moved down in an array, and the part of a list that is kept.
use mathlib.Core.Path.{◌≡◌, refl, sym, ap, ◌∙◌}
use mathlib.Core.List.{[], ◌++◌, append_assoc}
use Prim.Native.Nat.{ℕ, suc, ◌+◌, ◌-◌, ◌≤◌, ◌<◌}
use native.Mathlib.Omega.{arith}
use native.Mathlib.Nat.{add-zero}
use native.Mathlib.Numerals.{add-one}
use lib.Seq.{slice, slice_empty, slice-cons, length-slice, take-take, drop-set-lt, drop-drop, get_or-drop, take-set-le, get_or-set_same, take-set-lt}
use lib.ListN.{length, take, drop, set, length-set, take-append-drop}
use Rattle.model.specs.Pairing.{Halves, put, take_halves}
use Rattle.pairing_halves.specs.declared.Place.{Place}
use Rattle.pairing_halves.specs.Arrays.{entry, rest, Added, ending, Kept, Lies, Cut}
use Rattle.pairing_halves.specs.Adding.{held-nothing, added-nothing, added_more, added_one, added_itself}
use Rattle.pairing_halves.proofs.Arrays.{slice_more}
use Rattle.pairing_halves.proofs.Places.{rest-front, rest_end}

-- the entries from f to i are moved down to b; those from i on are untouched
pub record Moving (a : Halves) (f b : ℕ) (z : Halves) (i : ℕ) : Type 0 where
  pub begins : f ≤ i
  pub moved : Added a b z (i - (f - b)) (slice f i a)
  pub ahead : drop i z ≡ drop i a

pub moving_starts : (a : Halves) (f b : ℕ) → b ≤ f → Moving a f b a f
moving_starts a f b h =
    let here : f - (f - b) ≡ b = omega arith in
    record { begins = omega arith; moved = rw (here, slice_empty f a) (added-nothing a b); ahead = refl }

pub moving_next : {a z : Halves} {f b i : ℕ} → Moving a f b z i → b ≤ f → i < length a → Moving a f b (set z (i - (f - b)) (entry z i)) (i + 1)
moving_next {a} {z} {f} {b} {i} m h k =
    let o = i - (f - b) in
    let one : i + 1 - (f - b) ≡ o + 1 = omega (arith, m.begins) in
    let same : entry z i ≡ entry a i = rw (get_or-drop i z 0 (0, 0), get_or-drop i a 0 (0, 0), add-zero i) at (ap (λ l. entry l 0) m.ahead) in
    record {
      begins = omega (arith, m.begins);
      moved =
          rw (one, same, slice_more a f i (0, 0) m.begins k)
          (added_more m.moved (added_one z o (entry a i) (omega (arith, m.begins, m.moved.below.as_long))));
      ahead = drop-set-lt (i + 1) z o (entry z i) (omega (arith, m.begins)) ∙ sym (drop-drop 1 i z) ∙ ap (drop 1) m.ahead ∙ drop-drop 1 i a;
    }

-- ---- what lies behind a place, its first entry cut in the array

-- an array is its entries below place b, those from there to place e, and those from there on
parts : (a : Halves) (b e : ℕ) → b ≤ e → a ≡ take b a ++ (slice b e a ++ drop e a)
parts a b e h =
    sym (take-append-drop e a) ∙ ap (λ l. l ++ drop e a) (sym (take-append-drop b (take e a)) ∙ ap (λ l. l ++ slice b e a) (take-take b e a h))
    ∙ append_assoc (take b a) (slice b e a) (drop e a)

module _ {a : Halves} {f : Place} {e : ℕ} (p : Lies a f e) (l : f.at < e) where
  -- what the entry still has, and the array where that is written
  abbrev left : ℕ × ℕ
  left = ((entry a f.at).0, (entry a f.at).1 - f.gone)

  abbrev cut : Halves
  cut = set a f.at left

  cut-long : length cut ≡ length a
  cut-long = length-set a f.at left

  cut-slice : slice f.at e cut ≡ rest a f e
  cut-slice =
      let b = f.at in
      let first : entry cut b ≡ left = get_or-set_same a b left (0, 0) (omega (arith, p.stands.inside)) in
      let tail : slice (suc b) e cut ≡ slice (suc b) e a
      = ap (drop (suc b)) (take-set-lt e a b left (omega arith)) ∙ drop-set-lt (suc b) (take e a) b left (omega arith) in
      rw (rest-front p l, add-one b) (slice-cons b e cut (0, 0) l (omega (arith, p.stands.inside, cut-long)) ∙ rw (first, tail))

  cut-ends : cut ≡ ending a e (rest a f e)
  cut-ends =
      let here : e - length (rest a f e) ≡ f.at
      = omega (arith, ap length cut-slice, length-slice f.at e cut (omega (arith, p.stands.inside, cut-long))) in
      rw (here, ← cut-slice)
      (parts cut f.at e (omega arith)
      ∙ rw (take-set-le f.at a f.at left (omega arith), drop-set-lt e a f.at left l))

  pub kept_last : {b r : ℕ} {z : Halves} → b ≤ f.at → Added cut b z r (slice f.at e cut) → Kept a e b z r (rest a f e)
  kept_last {b} {r} h q = record {
    below = record {
      ends = q.below.ends ∙ ap (λ x. b + length x) cut-slice;
      as_long = q.below.as_long ∙ cut-long;
      held = q.below.held ∙ rw (take-set-le b a f.at left h, cut-slice);
    };
    above = q.above ∙ ap (drop r) cut-ends;
  }

-- behind the end of a list there is nothing to keep
pub kept-none : {a : Halves} {f : Place} {e : ℕ} (b : ℕ) → Lies a f e → e ≤ f.at → Kept a e b a b (rest a f e)
kept-none {a} {e = e} b p l =
    let all : e - 0 ≡ e = omega arith in
    rw (rest_end p l) (record { below = held-nothing a b; above = ap (drop b) (rw all (sym (take-append-drop e a))) })

-- what stands before a place, and the part of its entry that is kept
pub kept-first : {a z : Halves} {b e k r : ℕ} {f : Place} → Cut a b e k f → Added a f.at z r (put (entry a f.at).0 f.gone [])
    → Added a b z r (take_halves k (slice b e a))
kept-first {a} {b = b} {f = f} c q =
    rw c.before (added_more (added_itself a b f.at c.begins (omega (arith, c.lies.stands.begins, c.lies.stands.inside))) q)
