-- The number that tells where a name stands, taken apart, gives the name of a site: so many bytes of the sheet from that offset on, for every sheet and every
-- number. Nothing is lost: a name lies on the sheet, which has at most BYTES bytes.
use Rattle.std.specs.Prelude.{Bool, true, false, cond, ◌&&◌, List, ◌≡◌, refl, ℕ, zero, suc, ◌+◌, ◌-◌, ◌*◌, ◌/◌, ◌%◌, ◌≤◌, ◌<◌, leb, length, take, drop}
use Rattle.std.proofs.Common.{subst, arith, leb-true, leb-false}
use Rattle.std.proofs.Math.Decide.{dec_lt}
use Rattle.std.proofs.Math.ListN.{get_or-eq_default}
use Rattle.model.specs.Limits.{BYTES}
use Rattle.model.specs.Edition.{editions}
use Rattle.sheet_names.specs.Names.{part}
use Rattle.model.specs.declared.Edition.{Edition}
use Rattle.sheet.specs.Sheet.{Network, empty, Read, refused, accepted, and_then, finish, read_lines, read_as, edition_of, read_sheet, range_in, name_range, name_of}
use Rattle.sheet.proofs.Editions.{of_the_edition}
use Rattle.sheet.specs.Sound.{Accepts}
use Rattle.sheet.specs.SheetTheorem.{an_accepted_sheet_is_a_tree}
use Rattle.packing.specs.Packed.{packed_name, unpacked_offset, unpacked_length}
use Rattle.packing.specs.Named.{told_part}

-- an offset and a length side by side
apart : (x y : ℕ) → y < 1048576 → ((x * 1048576 + y) % 1048576 ≡ y) × ((x * 1048576 + y) / 1048576 ≡ x)
apart x y small = (omega arith, omega arith)

-- a range of few bytes is told, whichever way it goes
a_small_range_is_told : (s : List ℕ) (r : ℕ × ℕ) → r.1 ≤ BYTES → told_part s (packed_name r) ≡ part s r
unfolding packed_name unpacked_offset unpacked_length
a_small_range_is_told s r small = by (leb r.1 r.0) refl
  where
    by : (t : Bool) → leb r.1 r.0 ≡ t
        → let value = cond t 0 (r.0 % 1048576 * 1048576 + (r.1 - r.0) % 1048576) in
        take (value % 1048576) (drop (value / 1048576) s) ≡ take (r.1 - r.0) (drop r.0 s)
    by true e = let none : r.1 - r.0 ≡ 0 = omega (arith, leb-true r.1 r.0 e) in rw none
    by false e =
        let before = leb-false r.1 r.0 e in
        let start : r.0 % 1048576 ≡ r.0 = omega arith in
        let size : (r.1 - r.0) % 1048576 ≡ r.1 - r.0 = omega arith in
        rw (start, size, (apart r.0 (r.1 - r.0) (omega arith)).0, (apart r.0 (r.1 - r.0) (omega arith)).1)

-- an accepted sheet has no more bytes than its edition allows
accepted_is_short : (ed : Edition) (s : List ℕ) → Accepts (λ net. length s ≤ ed.bytes) (read_as ed s)
unfolding read_as
accepted_is_short ed s =
    by (leb 1 (length s)) (leb (length s) ed.bytes) refl (and_then (read_lines ed s (length s) 1 0 empty) finish)
  where
    by : (t u : Bool) → leb (length s) ed.bytes ≡ u → (r : Read) → Accepts (λ net. length s ≤ ed.bytes) (cond (t && u) r (refused 1 0))
    by true true e (refused n k) = tt
    by true true e (accepted net) = leb-true (length s) ed.bytes e
    by true false e r = tt
    by false u e r = tt

-- a name ends within the bytes that a sheet may have
names_end_early : (s : List ℕ) (k : ℕ) → (name_range editions s k).1 ≤ BYTES
unfolding name_range range_in
names_end_early s zero = by (read_sheet editions s)
  where
    by : (r : Read) → (range_in 0 r).1 ≤ BYTES
    by (refused n l) = omega arith
    by (accepted net) = omega arith
names_end_early s (suc i) = by (read_sheet editions s) refl
  where
    short : (net : Network) → read_sheet editions s ≡ accepted net → length s ≤ BYTES
    short net e =
        let own = subst (Accepts (λ net. length s ≤ (edition_of editions s).bytes)) e (accepted_is_short (edition_of editions s) s) in
        let most = of_the_edition (λ ed. ed.bytes ≤ BYTES) s (omega arith) (omega arith) in
        omega (arith, own, most)

    by : (r : Read) → read_sheet editions s ≡ r → (range_in (suc i) r).1 ≤ BYTES
    by (refused n l) e = omega arith
    by (accepted net) e = elim (dec_lt i (length net.names)) [
      | yes l ↦ omega (arith, ((an_accepted_sheet_is_a_tree (edition_of editions s) s net e).names i l).end, short net e)
      | no l ↦ rw (get_or-eq_default net.names (0, 0) {n = i} (omega arith)) (omega arith)
    ]

-- the name of a site is what the packed number tells
pub the_packed_number_tells_the_name : (s : List ℕ) (k : ℕ) → told_part s (packed_name (name_range editions s k)) ≡ name_of editions s k
the_packed_number_tells_the_name s k = a_small_range_is_told s (name_range editions s k) (names_end_early s k)
