-- When a request gets which answer: each number exactly where its cause applies, in the order of document 02, Card 6.
use Rattle.std.specs.Prelude.{◌≡◌, ◌≢◌, ◌↔◌, List, ℕ, ◌+◌, ◌*◌, ◌≤◌, ◌<◌}
use Rattle.std.proofs.Common.{◌∙◌, arith}
use Rattle.std.proofs.Math.Decide.{dec_lt}
use Rattle.std.proofs.Math.ListN.{length}
use Rattle.lists.specs.Numbers.{less}
use Rattle.lists.specs.Sums.{pick_same, pick_other, same?, cases, less_one, less_none, sum_ge, sum-some}
use Rattle.model.specs.Limits.{OPEN}
use Rattle.model.specs.Flows.{Links, separates, load}
use Rattle.model.specs.Booking.{open_of, overfilled, answer_open, answer_give_up}
use Rattle.model.specs.declared.Pair.{Pair}
use Rattle.theory_trees.specs.Trees.{separates-le}

module _ (ls : Links) (c : ℕ → ℕ) (es : List Pair) (p : Pair) where
  -- a link on the path of p that would be overfilled
  pub record Overfilled : Type 0 where
    pub link : ℕ
    pub inside : link < length ls
    pub on : separates ls link p.first p.second ≡ 1
    pub over : 2 * c link < load ls es link + p.amount

  pub overfilled-some : overfilled ls c es p ≢ 0 → Overfilled
  unfolding overfilled
  overfilled-some d =
      let r = sum-some (length ls) (λ j. separates ls j p.first p.second * less (2 * c j) (load ls es j + p.amount)) (omega arith) in
      let j = r.0 in
      same? (separates ls j p.first p.second) 1
      (λ s. record {
        link = j;
        inside = r.1;
        on = s;
        over = cases (dec_lt (2 * c j) (load ls es j + p.amount)) (λ l. l) (λ l. absurd (omega (arith, rw (s, less_none l) at r.2)));
      })
      (λ s. let z : separates ls j p.first p.second ≡ 0 = omega (arith, separates-le ls j p.first p.second) in
      absurd (omega (arith, rw z at r.2)))

  pub overfilled_by : Overfilled → overfilled ls c es p ≢ 0
  unfolding overfilled
  overfilled_by o z =
      let term = sum_ge (length ls) o.link (λ i. separates ls i p.first p.second * less (2 * c i) (load ls es i + p.amount)) o.inside in
      omega (arith, rw (o.on, less_one o.over) at term)

  -- ---- the answers by their causes

  pub says_15 : overfilled ls c es p ≢ 0 → answer_open ls c es p ≡ 15
  unfolding answer_open
  says_15 d = pick_other d _ _

  pub says_16 : overfilled ls c es p ≡ 0 → open_of p.first p.second es ≡ 0 → OPEN ≤ length es → answer_open ls c es p ≡ 16
  unfolding answer_open
  says_16 z o d = pick_same z _ _ ∙ pick_same o _ _ ∙ pick_other (λ e. omega (arith, less_none {a = length es} {b = OPEN} (λ i. omega arith))) _ _

  pub opens_new : overfilled ls c es p ≡ 0 → open_of p.first p.second es ≡ 0 → length es < OPEN → answer_open ls c es p ≡ 0
  unfolding answer_open
  opens_new z o d = pick_same z _ _ ∙ pick_same o _ _ ∙ pick_same (less_one d) _ _

  pub opens_more : overfilled ls c es p ≡ 0 → open_of p.first p.second es ≢ 0 → answer_open ls c es p ≡ 0
  unfolding answer_open
  opens_more z o = pick_same z _ _ ∙ pick_other o _ _

  pub says_14 : open_of p.first p.second es < p.amount → answer_give_up ls c es p ≡ 14
  unfolding answer_give_up
  says_14 i = pick_same (less_one i) _ _

  pub gives_up : p.amount ≤ open_of p.first p.second es → answer_give_up ls c es p ≡ 0
  unfolding answer_give_up
  gives_up i = pick_other (λ e. omega (arith, less_none {a = open_of p.first p.second es} {b = p.amount} (λ z. omega arith))) _ _

  -- the pair is not open, and OPEN others are
  pub record NoPlace : Type 0 where
    pub closed : open_of p.first p.second es ≡ 0
    pub full : OPEN ≤ length es

  -- of the three answers to an opening just one is given
  pub data Opening : Type 0 where
    overfills : Overfilled → answer_open ls c es p ≡ 15 → Opening
    crowds : overfilled ls c es p ≡ 0 → NoPlace → answer_open ls c es p ≡ 16 → Opening
    fits : overfilled ls c es p ≡ 0 → (NoPlace → ⊥) → answer_open ls c es p ≡ 0 → Opening

  pub answered_14_exactly_where_less_is_open : (answer_give_up ls c es p ≡ 14) ↔ (open_of p.first p.second es < p.amount)
  answered_14_exactly_where_less_is_open = (
    λ e. cases (dec_lt (open_of p.first p.second es) p.amount) (λ l. l) (λ l. absurd (omega (arith, gives_up (omega arith)))),
    λ l. says_14 l,
  )

  pub a_giving_up_is_answered_0_exactly_where_that_much_is_open : (answer_give_up ls c es p ≡ 0) ↔ (p.amount ≤ open_of p.first p.second es)
  a_giving_up_is_answered_0_exactly_where_that_much_is_open = (
    λ e. cases (dec_lt (open_of p.first p.second es) p.amount) (λ l. absurd (omega (arith, says_14 l))) (λ l. omega arith),
    λ l. gives_up l,
  )
