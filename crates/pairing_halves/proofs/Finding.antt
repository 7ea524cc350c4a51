-- The search for a place in a list that stands in an array: the entries passed, and those still ahead.
use mathlib.Core.Path.{◌≡◌, refl, sym, ◌∙◌}
use mathlib.Core.List.{[], ◌∷◌, ◌++◌, append_assoc}
use Prim.Native.Nat.{ℕ, ◌+◌, ◌-◌, ◌≤◌, ◌<◌}
use native.Mathlib.Omega.{arith}
use lib.Seq.{slice, slice_empty}
use Rattle.model.specs.Pairing.{Halves, put, take_halves, drop_halves}
use Rattle.pairing_halves.specs.Arrays.{entry, opened, Stands, Cut}
use Rattle.pairing_halves.proofs.Arrays.{slice_more, stands_end, front_entry, front_rest, front_positive}
use Rattle.pairing_halves.specs.Splits.{take_whole, drop-whole, take-cut, drop-cut}

-- of the list from b to e and its first k halves, the entries before `at` are passed, with `left` halves still to pass
pub record Finding (a : Halves) (b e k at left : ℕ) : Type 0 where
  pub begins : b ≤ at
  pub stands : Stands a at e
  pub before : take_halves k (slice b e a) ≡ slice b at a ++ take_halves left (slice at e a)
  pub after : drop_halves k (slice b e a) ≡ drop_halves left (slice at e a)

pub finding_starts : (a : Halves) (b e k : ℕ) → Stands a b e → Finding a b e k b k
finding_starts a b e k s = record { begins = omega arith; stands = s; before = rw (slice_empty b a); after = refl }

module _ {a : Halves} {b e k at left : ℕ} (f : Finding a b e k at left) where
  pub finding_next : at < e → (entry a at).1 ≤ left → Finding a b e k (at + 1) (left - (entry a at).1)
  finding_next l q =
      let s = f.stands in
      let h = entry a at in
      let m = slice (at + 1) e a in
      record {
        begins = omega (arith, f.begins);
        stands = front_rest s l;
        before =
            f.before
            ∙ rw (front_entry s l, take_whole left h m (front_positive s l) q, slice_more a b at (0, 0) f.begins (omega (arith, s.inside)))
            (sym (append_assoc (slice b at a) (h ∷ []) (take_halves (left - h.1) m)));
        after = f.after ∙ rw (front_entry s l) (drop-whole left h m q);
      }

  -- the place is in the entry at `at`, or at the end
  pub finding_cut : at < e → left < (entry a at).1 → Cut a b e k (record { at = at; gone = left })
  unfolding opened
  finding_cut l q =
      let s = f.stands in
      let h = entry a at in
      let m = slice (at + 1) e a in
      record {
        begins = f.begins;
        lies = record { stands = s; partly = λ _. q };
        before = f.before ∙ rw (front_entry s l, take-cut left h m (omega arith));
        after = f.after ∙ rw (front_entry s l) (drop-cut left h m (front_rest s l).filled (omega arith));
      }

  pub finding_end : e ≤ at → Cut a b e k (record { at = at; gone = 0 })
  unfolding opened put take_halves drop_halves
  finding_end l =
      let none = stands_end f.stands l in
      record {
        begins = f.begins;
        lies = record { stands = f.stands; partly = λ q. absurd (omega arith) };
        before = f.before ∙ rw none;
        after = f.after ∙ rw none;
      }
