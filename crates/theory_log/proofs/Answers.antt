-- When a request gets which answer: each number exactly where its cause applies, in the order of document 02, Card 6.
use Rattle.std.specs.Prelude.{◌≡◌, ◌↔◌, List, ℕ}
use Rattle.std.proofs.Common.{arith}
use Rattle.std.proofs.Math.Decide.{dec_lt}
use Rattle.std.proofs.Math.ListN.{length}
use Rattle.lists.specs.Sums.{same?, cases}
use Rattle.model.specs.Limits.{OPEN}
use Rattle.model.specs.Flows.{Links}
use Rattle.model.specs.Booking.{open_of, overfilled, answer_open}
use Rattle.model.specs.declared.Pair.{Pair}
use Rattle.theory_log.specs.Answers.{Overfilled, overfilled-some, overfilled_by, says_15, says_16, opens_new, opens_more, NoPlace, crowds, overfills, Opening, fits}

module _ (ls : Links) (c : ℕ → ℕ) (es : List Pair) (p : Pair) where
  pub opening : Opening ls c es p
  opening = same? (overfilled ls c es p) 0
      (λ z. same? (open_of p.first p.second es) 0
      (λ o. cases (dec_lt (length es) OPEN)
      (λ l. Opening.fits z (λ w. omega (arith, w.full)) (opens_new ls c es p z o l))
      (λ l. Opening.crowds z (record { closed = o; full = omega arith }) (says_16 ls c es p z o (omega arith))))
      (λ o. Opening.fits z (λ w. o w.closed) (opens_more ls c es p z o)))
      (λ d. Opening.overfills (overfilled-some ls c es p d) (says_15 ls c es p d))

  -- ---- the answers, exactly

  pub answered_15_exactly_where_a_link_on_the_path_would_be_overfilled : (answer_open ls c es p ≡ 15) ↔ Overfilled ls c es p
  answered_15_exactly_where_a_link_on_the_path_would_be_overfilled = (λ e. by e opening, λ o. says_15 ls c es p (overfilled_by ls c es p o))
    where
      by : answer_open ls c es p ≡ 15 → Opening ls c es p → Overfilled ls c es p
      by e (Opening.overfills o a) = o
      by e (Opening.crowds z w a) = absurd (omega arith)
      by e (Opening.fits z d a) = absurd (omega arith)

  pub answered_16_exactly_where_nothing_is_overfilled_and_there_is_no_place : (answer_open ls c es p ≡ 16) ↔ ((Overfilled ls c es p → ⊥) × NoPlace ls c es p)
  answered_16_exactly_where_nothing_is_overfilled_and_there_is_no_place = (λ e. by e opening, λ w. back w opening)
    where
      by : answer_open ls c es p ≡ 16 → Opening ls c es p → (Overfilled ls c es p → ⊥) × NoPlace ls c es p
      by e (Opening.overfills o a) = absurd (omega arith)
      by e (Opening.crowds z w a) = (λ o. overfilled_by ls c es p o z, w)
      by e (Opening.fits z d a) = absurd (omega arith)

      back : (Overfilled ls c es p → ⊥) × NoPlace ls c es p → Opening ls c es p → answer_open ls c es p ≡ 16
      back w (Opening.overfills o a) = absurd (w.0 o)
      back w (Opening.crowds z v a) = a
      back w (Opening.fits z d a) = absurd (d w.1)

  pub an_opening_is_answered_0_exactly_where_no_cause_applies : (answer_open ls c es p ≡ 0) ↔ ((Overfilled ls c es p → ⊥) × (NoPlace ls c es p → ⊥))
  an_opening_is_answered_0_exactly_where_no_cause_applies = (λ e. by e opening, λ w. back w opening)
    where
      by : answer_open ls c es p ≡ 0 → Opening ls c es p → (Overfilled ls c es p → ⊥) × (NoPlace ls c es p → ⊥)
      by e (Opening.overfills o a) = absurd (omega arith)
      by e (Opening.crowds z w a) = absurd (omega arith)
      by e (Opening.fits z d a) = (λ o. overfilled_by ls c es p o z, d)

      back : (Overfilled ls c es p → ⊥) × (NoPlace ls c es p → ⊥) → Opening ls c es p → answer_open ls c es p ≡ 0
      back w (Opening.overfills o a) = absurd (w.0 o)
      back w (Opening.crowds z v a) = absurd (w.1 v)
      back w (Opening.fits z d a) = a
