-- Laws of lists that stand in arrays: held below an end, and added there.
use Rattle.std.specs.Prelude.{◌≡◌, refl, List, [], ◌∷◌, ◌++◌, ℕ, ◌+◌, ◌≤◌, ◌<◌, length, take, drop}
use Rattle.std.proofs.Common.{sym, ap, ◌∙◌, append-nil, append_assoc, arith, drop_at, take_at, drop-drop, length-take-le, take-take, length-append, take-append-drop}
use Rattle.std.proofs.Math.ListN.{set}
use Rattle.std.proofs.Math.Seq.{slice, length-slice, length-sets}
use Rattle.std.proofs.lemmas.List.Edits.{sets, sets-eq}
use Rattle.model.specs.Pairing.{Halves}
use Rattle.theory_walk.specs.Halves.{Filled}
use Rattle.pairing_halves.specs.Arrays.{Stands, Held, Added}

-- ---- held below an end

pub held-nothing : {A : Type 0} (a : List A) (b : ℕ) → Held a b a b []
held-nothing a b = record { ends = omega arith; as_long = refl; held = sym (append-nil (take b a)) }

module _ {A : Type 0} {a z : List A} {b e : ℕ} {l : List A} where
  -- what is held after an array is held after what that was made from
  pub held_more : {y : List A} {o : ℕ} {m : List A} → Held a b z e l → Held z e y o m → Held a b y o (l ++ m)
  held_more {m = m} p q = record {
    ends = omega (arith, length-append l m, p.ends, q.ends);
    as_long = q.as_long ∙ p.as_long;
    held = q.held ∙ ap (λ r. r ++ m) p.held ∙ append_assoc (take b a) l m;
  }

  -- below the place where it began nothing has changed
  held_below : b ≤ length a → Held a b z e l → take b z ≡ take b a
  held_below h p = sym (take-take b e z (omega (arith, p.ends))) ∙ ap (take b) p.held ∙ take_at (take b a) l b (length-take-le b a h)

  -- anew from the same place
  pub held-again : {y : List A} {o : ℕ} {m : List A} → b ≤ length a → Held a b z e l → Held z b y o m → Held a b y o m
  held-again {m = m} h p q = record { ends = q.ends; as_long = q.as_long ∙ p.as_long; held = q.held ∙ ap (λ r. r ++ m) (held_below h p) }

  -- the list stands there
  pub held-slice : b ≤ length a → Held a b z e l → slice b e z ≡ l
  held-slice h p = ap (drop b) p.held ∙ drop_at (take b a) l b (length-take-le b a h)

pub held_stands : (l : Halves) {a z : Halves} {b e : ℕ} → b ≤ length a → e ≤ length a → Filled l → Held a b z e l → Stands z b e
held_stands l h k f p = record {
  begins = omega (arith, p.ends);
  inside = omega (arith, p.as_long);
  filled = rw (held-slice h p) f;
}

-- ---- adding at the end

pub added-nothing : {A : Type 0} (a : List A) (b : ℕ) → Added a b a b []
added-nothing a b = record { below = held-nothing a b; above = refl }

-- an array holds its own list
pub added_itself : {A : Type 0} (a : List A) (b e : ℕ) → b ≤ e → e ≤ length a → Added a b a e (slice b e a)
added_itself a b e h k = record {
  below = record {
    ends = omega (arith, length-slice b e a k);
    as_long = refl;
    held = sym (take-append-drop b (take e a)) ∙ ap (λ l. l ++ slice b e a) (take-take b e a h);
  };
  above = refl;
}

-- what is added to an array is added to what it was made from
pub added_more : {A : Type 0} {a z : List A} {b e : ℕ} {l y : List A} {o : ℕ} {m : List A} → Added a b z e l → Added z e y o m → Added a b y o (l ++ m)
added_more {a = a} {z = z} {e = e} {o = o} {m = m} p q =
    let on : o ≡ e + length m = q.below.ends in
    record {
      below = held_more p.below q.below;
      above = q.above ∙ rw on (sym (drop-drop (length m) e z) ∙ ap (drop (length m)) p.above ∙ drop-drop (length m) e a);
    }

-- a list written there is added
pub added-written : {A : Type 0} (a : List A) (b : ℕ) (l : List A) → b + length l ≤ length a → Added a b (sets a b l) (b + length l) l
added-written a b l h =
    let whole = sets-eq l a b h in
    let long = length-append (take b a) l ∙ ap (λ k. k + length l) (length-take-le b a (omega arith)) in
    record {
      below = record {
        ends = refl;
        as_long = length-sets a b l;
        held = ap (take (b + length l)) whole ∙ take_at (take b a ++ l) (drop (b + length l) a) (b + length l) long;
      };
      above = ap (drop (b + length l)) whole ∙ drop_at (take b a ++ l) (drop (b + length l) a) (b + length l) long;
    }

-- one element more
pub added_one : {A : Type 0} (a : List A) (b : ℕ) (x : A) → b < length a → Added a b (set a b x) (b + 1) (x ∷ [])
added_one a b x h = added-written a b (x ∷ []) (omega arith)
