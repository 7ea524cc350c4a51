-- What the lines of a plan drawn by hand come to: the lowest line with a number, or the entries of all; and what holds of the entries. By induction over the
-- lines: a line is answered by the entries of those before it.
use Rattle.std.specs.Prelude.{◌≡◌, refl, ◌⊎◌, ◌≢◌, List, [], ◌∷◌, ℕ, zero, suc, ◌+◌, ◌*◌, ◌≤◌, ◌<◌, length}
use Rattle.std.proofs.Common.{sym, ap, ◌∙◌, inl, inr, mul-le-mul_left, arith}
use Rattle.lists.specs.Numbers.{Each}
use Rattle.lists.specs.Sums.{pick_same, pick_other, same?}
use Rattle.lists.specs.Tallies.{each_both}
use Rattle.model.specs.Limits.{AMOUNT}
use Rattle.model.specs.Flows.{Links, Ends, Multiflow, Route, load, total}
use Rattle.model.specs.Parts.{free_pair}
use Rattle.model.specs.Pairing.{lower_first}
use Rattle.model.specs.Booking.{places_of, same, Entry, Asked}
use Rattle.model.specs.declared.Pair.{Pair}
use Rattle.model.specs.declared.Request.{Request}
use Rattle.model.specs.declared.Request.TheVariants.{Open, GiveUp, Fault}
use Rattle.theory_trees.specs.Trees.{separates-le}
use Rattle.theory_trees.specs.FreePairs.{free_iff_route}
use Rattle.theory_log.specs.Pairs.{Sites, same-one, same-le}
use Rattle.theory_log.specs.Requests.{OpensOnly, lower_amount, lower_entry}
use Rattle.theory_verdicts.specs.HandPlan.{line_answer, entered, faulty, entries, account}
use Rattle.theory_verdicts.specs.Accounts.{Drawn, Lowest, answer_at, drawn}

-- the lowest line with a number decides; line p of rs is line p + i
pub the_lowest_faulty_line_decides : (i : ℕ) (es : List Pair) (rs : List Request) (p : ℕ) → p < length rs → answer_at es rs p ≢ 0
    → ((q : ℕ) → q < p → answer_at es rs q ≡ 0) → account i es rs ≡ faulty (answer_at es rs p) (p + i)
unfolding account drawn
the_lowest_faulty_line_decides i es [] p l d h = absurd (omega arith)
the_lowest_faulty_line_decides i es (r ∷ rs) zero l d h = let here : 0 + i ≡ i = omega arith in pick_other d _ _ ∙ ap (faulty (line_answer es r)) (sym here)
the_lowest_faulty_line_decides i es (r ∷ rs) (suc p) l d h =
    let next : p + suc i ≡ suc p + i = omega arith in
    pick_same (h 0 (omega arith)) _ _
    ∙ the_lowest_faulty_line_decides (suc i) (entered es r) rs p (omega arith) d (λ q k. h (suc q) (omega arith))
    ∙ ap (faulty (answer_at es (r ∷ rs) (suc p))) next

-- where no line has a number, the entries are those of all lines
pub lines_without_a_fault_are_entered : (i : ℕ) (es : List Pair) (rs : List Request) → ((p : ℕ) → p < length rs → answer_at es rs p ≡ 0)
    → account i es rs ≡ entries (drawn es rs)
unfolding account drawn
lines_without_a_fault_are_entered i es [] h = refl
lines_without_a_fault_are_entered i es (r ∷ rs) h =
    pick_same (h 0 (omega arith)) _ _ ∙ lines_without_a_fault_are_entered (suc i) (entered es r) rs (λ p l. h (suc p) (omega arith))

pub a_lowest_faulty_line_or_none : (es : List Pair) (rs : List Request) → Lowest es rs ⊎ ((p : ℕ) → p < length rs → answer_at es rs p ≡ 0)
unfolding drawn
a_lowest_faulty_line_or_none es [] = inr (λ p l. absurd (omega arith))
a_lowest_faulty_line_or_none es (r ∷ rs) = same? (line_answer es r) 0
    (λ e. elim (a_lowest_faulty_line_or_none (entered es r) rs) [
      | inl w ↦ inl (record { place = suc w.place; here = omega (arith, w.here); some = w.some; none_before = later e w.none_before })
      | inr h ↦ inr (later-all e h)
    ])
    (λ d. inl (record { place = 0; here = omega arith; some = d; none_before = λ q l. absurd (omega arith) }))
  where
    later : line_answer es r ≡ 0 → {p : ℕ} → ((q : ℕ) → q < p → answer_at (entered es r) rs q ≡ 0) → (q : ℕ) → q < suc p → answer_at es (r ∷ rs) q ≡ 0
    later e h zero l = e
    later e h (suc q) l = h q (omega arith)

    later-all : line_answer es r ≡ 0 → ((q : ℕ) → q < length rs → answer_at (entered es r) rs q ≡ 0) → (q : ℕ) → q < length (r ∷ rs)
        → answer_at es (r ∷ rs) q ≡ 0
    later-all e h zero l = e
    later-all e h (suc q) l = h q (omega arith)

pub no_entries : (n : ℕ) (P : ℕ → ℕ → Type 0) → Drawn n P []
unfolding places_of
no_entries n P = record { proper = tt; limited = tt; sites = tt; once = λ a b. omega arith }

-- a pair that no earlier line gives
pub answered_0_is_new : (es : List Pair) (e : Pair) → line_answer es (Open e) ≡ 0 → places_of (lower_first e).first (lower_first e).second es ≡ 0
unfolding line_answer
answered_0_is_new es e h = same? (places_of (lower_first e).first (lower_first e).second es) 0
    (λ z. z) (λ d. absurd (omega (arith, h, pick_other {A = ℕ} d 0 20)))

-- one more place for a pair that has none
one_more : (a b : ℕ) (e : Pair) (es : List Pair) → places_of e.first e.second es ≡ 0 → places_of a b es ≤ 1 → places_of a b (e ∷ es) ≤ 1
unfolding places_of
one_more a b e es none h = same? (same a b e) 1
    (λ s. let both = same-one a b e s in
    let z : places_of a b es ≡ 0 = rw (both.0, both.1) at none in
    omega arith)
    (λ d. omega (arith, same-le a b e))

pub entered_are_drawn : {n : ℕ} {P : ℕ → ℕ → Type 0} {es : List Pair} → Drawn n P es → (r : Request) → Asked n r → OpensOnly P r → line_answer es r ≡ 0
    → Drawn n P (entered es r)
unfolding entered
entered_are_drawn {n} {P} {es} w (Open e) asked only z = record {
  proper = (lower_entry n e asked, w.proper);
  limited = (rw (lower_amount e) asked.limited, w.limited);
  sites = (only, w.sites);
  once = λ a b. one_more a b (lower_first e) es (answered_0_is_new es e z) (w.once a b);
}
entered_are_drawn w (GiveUp e) asked only z = w
entered_are_drawn w (Fault k) asked only z = w

pub all_entries_are_drawn : {n : ℕ} {P : ℕ → ℕ → Type 0} (es : List Pair) → Drawn n P es → (rs : List Request) → Each (Asked n) rs → Each (OpensOnly P) rs
    → ((p : ℕ) → p < length rs → answer_at es rs p ≡ 0) → Drawn n P (drawn es rs)
unfolding drawn
all_entries_are_drawn es w [] asked only h = w
all_entries_are_drawn es w (r ∷ rs) asked only h =
    all_entries_are_drawn (entered es r) (entered_are_drawn w r asked.0 only.0 (h 0 (omega arith))) rs asked.1 only.1
    (λ p l. h (suc p) (omega arith))

-- between ends free to be joined they are a plan
pub drawn_is_a_multiflow : (ls : Links) (n : ℕ) (terminal : ℕ → ℕ) → Ends ls n → (es : List Pair) → Drawn n (λ a b. free_pair ls terminal a b ≡ 1) es
    → Multiflow ls n terminal es
drawn_is_a_multiflow ls n terminal ends es w =
    each_both (Entry n) (Sites (λ a b. free_pair ls terminal a b ≡ 1)) (Route ls n terminal)
    (λ e here free. (free_iff_route ls terminal n ends e here.first-site here.second-site).0 free) es w.proper w.sites

-- a line enters at most one pair
pub entries_are_few : (es : List Pair) (rs : List Request) → length (drawn es rs) ≤ length es + length rs
unfolding drawn entered
entries_are_few es [] = omega arith
entries_are_few es (Open e ∷ rs) = omega (arith, entries_are_few (lower_first e ∷ es) rs)
entries_are_few es (GiveUp e ∷ rs) = omega (arith, entries_are_few es rs)
entries_are_few es (Fault k ∷ rs) = omega (arith, entries_are_few es rs)

pub total_is_limited : (es : List Pair) → Each (λ e. e.amount ≤ AMOUNT) es → total es ≤ length es * AMOUNT
unfolding total
total_is_limited [] h = omega arith
total_is_limited (e ∷ es) h = omega (arith, h.0, total_is_limited es h.1)

pub a_load_is_at_most_the_total : (ls : Links) (j : ℕ) (es : List Pair) → load ls es j ≤ total es
unfolding load total
a_load_is_at_most_the_total ls j [] = omega arith
a_load_is_at_most_the_total ls j (e ∷ es) =
    omega (arith, mul-le-mul_left e.amount (separates-le ls j e.first e.second), a_load_is_at_most_the_total ls j es)
