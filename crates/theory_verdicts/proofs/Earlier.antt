-- When a pair is given on an earlier line of a plan drawn by hand: some line before asks for an amount between the same two sites, in either order.
use Rattle.std.specs.Prelude.{◌≡◌, refl, ◌⊎◌, ◌≢◌, ◌↔◌, length}
use Rattle.std.proofs.Common.{sym}
use Rattle.std.proofs.Math.Logic.{inl, inr}
use mathlib.Core.List.{List, [], ◌∷◌}
use Prim.Native.Nat.{ℕ, zero, suc, ◌≤◌, ◌<◌}
use native.Mathlib.Omega.{arith}
use Rattle.lists.specs.Numbers.{less}
use Rattle.lists.specs.Sums.{pick_same, pick_other, same?}
use Rattle.model.specs.Pairing.{lower_first}
use Rattle.model.specs.Booking.{pair, places_of, same}
use Rattle.model.specs.declared.Pair.{Pair}
use Rattle.model.specs.declared.Request.{Request}
use Rattle.model.specs.declared.Request.TheVariants.{Open, GiveUp, Fault}
use Rattle.theory_log.specs.Pairs.{same-one, same-le}
use Rattle.theory_log.proofs.Pairs.{same-is}
use Rattle.theory_log.proofs.Requests.{the_order_of_the_sites_does_not_matter}
use Rattle.theory_log.specs.Logs.{line}
use Rattle.theory_verdicts.specs.HandPlan.{entered}
use Rattle.theory_verdicts.specs.Accounts.{drawn}
use Rattle.theory_verdicts.specs.Earlier.{EitherOrder, Enters}

module _ (a b : ℕ) where
  later : (r : Request) (rs : List Request) → Enters a b rs → Enters a b (r ∷ rs)
  later r rs w = record { place = suc w.place; before = omega (arith, w.before); pair-asked = w.pair-asked; asked = w.asked; meant = w.meant }

  -- a pair with a place had one before, or a line enters it
  pub a-place-is-entered : (es : List Pair) (rs : List Request) → places_of a b (drawn es rs) ≢ 0 → (places_of a b es ≢ 0) ⊎ Enters a b rs
  unfolding drawn entered places_of
  a-place-is-entered es [] d = inl d
  a-place-is-entered es (Open e ∷ rs) d = elim (a-place-is-entered (lower_first e ∷ es) rs d) [
    | inl h ↦ same? (same a b (lower_first e)) 1
        (λ s. inr (record { place = 0; before = omega arith; pair-asked = e; asked = refl; meant = s }))
        (λ o. inl (λ z. h (omega (arith, same-le a b (lower_first e)))))
    | inr w ↦ inr (later (Open e) rs w)
  ]
  a-place-is-entered es (GiveUp e ∷ rs) d = elim (a-place-is-entered es rs d) [ inl h ↦ inl h | inr w ↦ inr (later (GiveUp e) rs w) ]
  a-place-is-entered es (Fault k ∷ rs) d = elim (a-place-is-entered es rs d) [ inl h ↦ inl h | inr w ↦ inr (later (Fault k) rs w) ]

  places-grow : (es : List Pair) (rs : List Request) → places_of a b es ≤ places_of a b (drawn es rs)
  unfolding drawn entered places_of
  places-grow es [] = omega arith
  places-grow es (Open e ∷ rs) = omega (arith, places-grow (lower_first e ∷ es) rs)
  places-grow es (GiveUp e ∷ rs) = places-grow es rs
  places-grow es (Fault k ∷ rs) = places-grow es rs

  pub what_is_entered_has_a_place : (es : List Pair) (rs : List Request) (q : ℕ) (e : Pair) → q < length rs → line rs q ≡ Open e
      → same a b (lower_first e) ≡ 1 → places_of a b (drawn es rs) ≢ 0
  unfolding drawn entered places_of
  what_is_entered_has_a_place es [] q e l h s = absurd (omega arith)
  what_is_entered_has_a_place es (r ∷ rs) zero e l h s = rw h (λ z. omega (arith, places-grow (lower_first e ∷ es) rs))
  what_is_entered_has_a_place es (r ∷ rs) (suc q) e l h s = what_is_entered_has_a_place (entered es r) rs q e (omega arith) h s

told : (a b x p q y : ℕ) → (lower_first (pair p q y)).first ≡ (lower_first (pair a b x)).first → (lower_first (pair p q y)).second ≡ (lower_first (pair a b x)).second
    → EitherOrder a b p q
unfolding lower_first
told a b x p q y f g = same? (less b a) 1
    (λ s. same? (less q p) 1
    (λ t. inl (sym (rw (pick_same s, pick_same t) at g), sym (rw (pick_same s, pick_same t) at f)))
    (λ t. inr (sym (rw (pick_same s, pick_other t) at g), sym (rw (pick_same s, pick_other t) at f))))
    (λ s. same? (less q p) 1
    (λ t. inr (sym (rw (pick_other s, pick_same t) at f), sym (rw (pick_other s, pick_same t) at g)))
    (λ t. inl (sym (rw (pick_other s, pick_other t) at f), sym (rw (pick_other s, pick_other t) at g))))

alike : (p q x y : ℕ) → same (lower_first (pair p q x)).first (lower_first (pair p q x)).second (lower_first (pair p q y)) ≡ 1
unfolding lower_first
alike p q x y = same? (less q p) 1
    (λ s. simp (pick_same {A = Pair} s) (same-is q p (pair q p y) refl refl))
    (λ s. simp (pick_other {A = Pair} s) (same-is p q (pair p q y) refl refl))

-- of two pairs the lower sites first are the same just where the pairs are, in either order
pub the_lower_first_are_the_same_in_either_order : (a b x p q y : ℕ)
    → (same (lower_first (pair a b x)).first (lower_first (pair a b x)).second (lower_first (pair p q y)) ≡ 1) ↔ EitherOrder a b p q
the_lower_first_are_the_same_in_either_order a b x p q y = (
  λ s. let e = same-one (lower_first (pair a b x)).first (lower_first (pair a b x)).second (lower_first (pair p q y)) s in told a b x p q y e.0 e.1,
  λ h. elim h [
    | inl e ↦ rw (e.0, e.1) (alike p q x y)
    | inr e ↦ rw (e.0, e.1, the_order_of_the_sites_does_not_matter q p x) (alike p q x y)
  ],
)
