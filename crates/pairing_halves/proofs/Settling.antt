-- The lists of a site settled in their arrays: from the cut, the match and what is kept.
use mathlib.Core.Path.{◌≡◌, sym, ap, ◌∙◌}
use mathlib.Core.List.{List}
use Prim.Native.Nat.{ℕ, ◌-◌}
use native.Mathlib.Omega.{arith}
use lib.Seq.{slice}
use Rattle.model.specs.declared.Pair.{Pair}
use Rattle.model.specs.Pairing.{Halves, drop_halves, halves}
use Rattle.theory_walk.specs.Halves.{halves-drop}
use Rattle.pairing_halves.specs.declared.Place.{Place}
use Rattle.pairing_halves.specs.declared.Tops.{Tops}
use Rattle.pairing_halves.specs.Arrays.{rest, Cut, Matchable, Matching, Settling}

module _ {u d : Halves} {p : List Pair} {b e : Tops} {down : ℕ} {f : Place} (s : Settling u d p b e down) (c : Cut d b.downs e.downs down f) where
  left : halves (rest d f e.downs) ≡ halves (slice b.downs e.downs d) - down
  left = sym (ap halves c.after) ∙ halves-drop down (slice b.downs e.downs d)

  pub settling_matches : Matchable u b.ups d f p e
  settling_matches = record {
    ups = s.ups;
    downs = c.lies;
    enough = omega (arith, left, s.enough);
    room = rw (← c.after) s.room;
  }

  pub settling_kept : {z : List Pair} {g : Place} {k : ℕ} → Matching u b.ups d f p e z g k
      → rest u g e.ups ≡ drop_halves (halves (slice b.downs e.downs d) - down) (slice b.ups e.ups u)
  settling_kept m = m.left ∙ ap (λ x. drop_halves x (slice b.ups e.ups u)) left
