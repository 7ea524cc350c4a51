-- What the place of a pair tells, for callers: what the pair has open, and that its place is free for more.
use Rattle.std.specs.Prelude.{◌≡◌, refl, ◌≢◌, List, [], ◌∷◌, Option, Some, None, unwrap_or, ℕ, zero, suc, ◌≤◌, ◌<◌, length, get_or}
use Rattle.std.proofs.Common.{◌∙◌, arith}
use Rattle.lists.specs.Numbers.{look}
use Rattle.model.specs.Booking.{same, open_of, places_of}
use Rattle.model.specs.declared.Pair.{Pair}
use Rattle.theory_log.specs.Pairs.{same-other, open_none}
use Rattle.log_pairs.specs.Arrays.{none, entries, FirstPlace, Found, Growing, MayGrow}
use Rattle.log_pairs.specs.declared.OpenPairs.{OpenPairs}
use Rattle.log_pairs.specs.Rows.{length-entries, entries_at, first-there, first-before}

open_at : (a b : ℕ) (es : List Pair) (k : ℕ) → k < length es → places_of a b es ≤ 1 → same a b (get_or es k none) ≡ 1 → open_of a b es ≡ (get_or es k none).amount
unfolding open_of places_of
open_at a b [] k l o s = absurd (omega arith)
open_at a b (e ∷ es) zero l o s = rw s (omega (arith, open_none a b es (omega arith)))
open_at a b (e ∷ es) (suc k) l o s =
    let one-there = places-ge es k (omega arith) s in
    let z : same a b e ≡ 0 = omega arith in
    rw z (omega (arith, open_at a b es k (omega arith) (omega arith) s))
  where
    places-ge : (es : List Pair) (k : ℕ) → k < length es → same a b (get_or es k none) ≡ 1 → 1 ≤ places_of a b es
    places-ge [] k l s = absurd (omega arith)
    places-ge (e ∷ es) zero l s = omega arith
    places-ge (e ∷ es) (suc k) l s = omega (arith, places-ge es k (omega arith) s)

open_nowhere : (a b : ℕ) (es : List Pair) → ((i : ℕ) → i < length es → same a b (get_or es i none) ≢ 1) → open_of a b es ≡ 0
unfolding open_of
open_nowhere a b [] h = refl
open_nowhere a b (e ∷ es) h =
    rw (same-other a b e (h 0 (omega arith))) (omega (arith, open_nowhere a b es (λ i l. h (suc i) (omega arith))))

module _ (f m : List ℕ) {a b count k : ℕ} (p : FirstPlace f a b count k) where
  pub a_pair_that_is_found_has_its_amount_open : places_of a b (entries f m count) ≤ 1 → k < count → open_of a b (entries f m count) ≡ look m k
  a_pair_that_is_found_has_its_amount_open o l =
      open_at a b (entries f m count) k (omega (arith, length-entries f m count)) o (first-there f m a b count k p l)
      ∙ rw (entries_at f m count k l) refl

  pub a_pair_that_is_not_found_has_nothing_open : k ≡ count → open_of a b (entries f m count) ≡ 0
  a_pair_that_is_not_found_has_nothing_open e =
      open_nowhere a b (entries f m count) (λ i l. first-before f m a b count k p i (omega (arith, length-entries f m count)))

-- the place where a pair stands, or would stand as a new one
pub place_of : (f : List ℕ) (a b count : ℕ) (r : Option ℕ) → Found f a b count r → FirstPlace f a b count (unwrap_or r count)
place_of f a b count None h = h
place_of f a b count (Some k) h = h.1

pub may_grow : (ps : OpenPairs) (a b x : ℕ) (r : Option ℕ) → Found ps.pairs a b ps.count r → Growing ps a b x (unwrap_or r ps.count) → MayGrow ps a b x r
may_grow ps a b x None h g = g
may_grow ps a b x (Some k) h g = (h.0, g)
