-- What one request moves, and what it keeps: a refused one moves nothing; an opened amount is added on its path, one that is given up is taken from it.
use Rattle.std.specs.Prelude.{◌≡◌, length}
use Rattle.std.proofs.Math.Path.{refl, sym}
use Rattle.std.proofs.Common.{◌∙◌}
use mathlib.Core.List.{List, []}
use Prim.Native.Nat.{ℕ, ◌+◌, ◌*◌, ◌≤◌, ◌<◌}
use native.Mathlib.Omega.{arith}
use Rattle.std.proofs.Math.Decide.{dec_lt}
use Rattle.lists.specs.Numbers.{less}
use Rattle.lists.specs.Sums.{pick_same, pick_other, pick_const, same?, cases, is_same, is-other, less_one, less-lt}
use Rattle.model.specs.Limits.{OPEN}
use Rattle.model.specs.Flows.{Links, separates, load}
use Rattle.model.specs.Pairing.{lower_first}
use Rattle.model.specs.Booking.{pair, open_of, places_of, grow, shrink, answer_open, answer_give_up, answer, changed, next}
use Rattle.model.specs.Booking.{Asked, Entry, Kept}
use Rattle.model.specs.declared.Pair.{Pair}
use Rattle.model.specs.declared.Request.{Request}
use Rattle.model.specs.declared.Request.TheVariants.{Open, GiveUp, Fault}
use Rattle.theory_trees.specs.Trees.{separates-le}
use Rattle.theory_log.specs.Pairs.{open_none, grow-load, grow-length, grow-entries, grow_once, shrink-load, shrink-places, shrink-length, shrink-entries}
use Rattle.theory_log.proofs.Answers.{an_opening_is_answered_0_exactly_where_no_cause_applies}
use Rattle.theory_log.specs.Requests.{lower_entry, give-enough}

module _ (ls : Links) (n : ℕ) (c : ℕ → ℕ) where
  -- ---- an amount opened, or given up

  open_fits : (es : List Pair) (p : Pair) → answer_open ls c es p ≡ 0 → (j : ℕ) → j < length ls → load ls es j ≤ 2 * c j
      → load ls es j + p.amount * separates ls j p.first p.second ≤ 2 * c j
  open_fits es p a j l h =
      let none = ((an_opening_is_answered_0_exactly_where_no_cause_applies ls c es p).0 a).0 in
      same? (separates ls j p.first p.second) 1
      (λ s. rw s (cases (dec_lt (2 * c j) (load ls es j + p.amount))
      (λ k. absurd (none (record { link = j; inside = l; on = s; over = k })))
      (λ k. omega arith)))
      (λ d. let z : separates ls j p.first p.second ≡ 0 = omega (arith, separates-le ls j p.first p.second) in rw z (omega arith))

  open_room : (es : List Pair) (p : Pair) → answer_open ls c es p ≡ 0 → open_of p.first p.second es ≡ 0 → length es < OPEN
  open_room es p a z = cases (dec_lt (length es) OPEN)
      (λ l. l)
      (λ l. absurd (((an_opening_is_answered_0_exactly_where_no_cause_applies ls c es p).0 a).1 (record { closed = z; full = omega arith })))

  kept_open : (es : List Pair) (p : Pair) → Kept ls n c es → Entry n p → answer_open ls c es p ≡ 0 → Kept ls n c (grow p.first p.second p.amount es)
  kept_open es p k h a =
      let first = p.first in
      let second = p.second in
      record {
        few = same? (places_of first second es) 0
            (λ z. omega (arith, is_same z, grow-length first second p.amount es, open_room es p a (open_none first second es z)))
            (λ d. omega (arith, is-other d, grow-length first second p.amount es, k.few));
        entries = grow-entries first second p.amount es h k.entries;
        once = grow_once first second p.amount es k.once;
        fits = λ j l. rw (grow-load first second p.amount ls j es) (open_fits es p a j l (k.fits j l));
      }

  kept-give : (es : List Pair) (p : Pair) → Kept ls n c es → Entry n p → answer_give_up ls c es p ≡ 0
      → Kept ls n c (shrink p.first p.second p.amount es)
  kept-give es p k h a =
      let first = p.first in
      let second = p.second in
      record {
        few = omega (arith, shrink-length first second p.amount es, k.few);
        entries = shrink-entries first second p.amount n es (k.once first second) (give-enough ls n c es p a) k.entries;
        once = λ u v. omega (arith, shrink-places first second p.amount u v es, k.once u v);
        fits = λ j l. omega (arith, shrink-load first second p.amount ls j es (k.once first second) h.some (give-enough ls n c es p a), k.fits j l);
      }

  pub a_request_keeps_what_is_kept : (es : List Pair) (r : Request) → Kept ls n c es → Asked n r → Kept ls n c (next ls c es r)
  unfolding next answer changed
  a_request_keeps_what_is_kept es (Open e) k h = same? (answer_open ls c es (lower_first e)) 0
      (λ z. rw (pick_same z) (kept_open es (lower_first e) k (lower_entry n e h) z))
      (λ d. rw (pick_other d) k)
  a_request_keeps_what_is_kept es (GiveUp e) k h = same? (answer_give_up ls c es (lower_first e)) 0
      (λ z. rw (pick_same z) (kept-give es (lower_first e) k (lower_entry n e h) z))
      (λ d. rw (pick_other d) k)
  a_request_keeps_what_is_kept es (Fault f) k h = rw (pick_const f 0 es) k

-- the two sites of a pair may stand in either order
pub the_order_of_the_sites_does_not_matter : (a b x : ℕ) → lower_first (pair a b x) ≡ lower_first (pair b a x)
unfolding lower_first
the_order_of_the_sites_does_not_matter a b x = same? a b (λ e. rw e refl) (λ d. cases (dec_lt a b)
    (λ l. pick_other {u = less b a} {v = 1} (λ s. omega (arith, less-lt s)) _ _ ∙ sym (pick_same (less_one l) _ _))
    (λ l. let m : b < a = omega arith in
    pick_same (less_one m) _ _ ∙ sym (pick_other {u = less a b} {v = 1} (λ s. omega (arith, less-lt s)) _ _)))
