-- The lines of a text one by one, and that what a line asks can be asked: two sites free to be joined and an amount within the limit.
use Rattle.std.specs.Prelude.{Option, Some, None, Bool, ◌≢◌, ◌≡◌, ltb, drop, get_or, Result, Ok, Err}
use Rattle.std.proofs.Math.Bool.{true, false, cond}
use mathlib.Core.List.{List, [], ◌∷◌, map}
use Rattle.std.proofs.Math.Path.{refl}
use Prim.Native.Nat.{ℕ, zero, suc, ◌+◌, ◌≤◌, ◌<◌}
use native.Mathlib.Omega.{arith}
use Rattle.std.proofs.Math.ListN.{length, length-map}
use Rattle.lists.specs.Numbers.{less, look, Each}
use Rattle.lists.specs.Sums.{pick_same, pick_other, pick_cases, same?}
use Rattle.model.specs.Limits.{AMOUNT}
use Rattle.model.specs.Flows.{Links}
use Rattle.model.specs.Parts.{free_pair}
use Rattle.model.specs.Pairing.{lower_first}
use Rattle.model.specs.Booking.{pair, Proper, Asked}
use Rattle.model.specs.declared.Pair.{Pair}
use Rattle.model.specs.declared.Request.{Request}
use Rattle.model.specs.declared.Request.TheVariants as request
use Rattle.theory_trees.specs.FreePairs.{free_parts, free_turned}
use Rattle.theory_log.specs.Requests.{OpensOnly}
use Rattle.text_lines.specs.Lines.{line_length, line_at}
use Rattle.sheet_names.specs.LookupLaws.{Says, lookup_says}
use Rattle.sheet.specs.Sheet.{lookup}
use Rattle.log_lines.specs.LogLines.{line_by}
use Rattle.log_lines.specs.FaultyPlanLines.{AmountTold}
use Rattle.log_lines.proofs.FaultyPlanLines.{a_line_tells_its_amount}
use Rattle.log_lines.specs.declared.Booking.{Booking}
use Rattle.log_requests.specs.Requests.{lines, line_of, request_for, between, request_by, request_at, requests}
use Rattle.log_requests.specs.RequestLaws.{Free, Named}

-- ---- the two sites
module _ (ls : Links) (t : ℕ → ℕ) (opens : Bool) (x a b : ℕ) where
  pub a_pair_that_is_not_free_gets_6 : free_pair ls t a b ≢ 1 → between ls t opens x (Some a) (Some b) ≡ request.Fault 6
  unfolding between
  a_pair_that_is_not_free_gets_6 d = pick_other d _ _

  pub a_free_pair_is_asked_for : free_pair ls t a b ≡ 1 → between ls t opens x (Some a) (Some b) ≡ request_for opens (pair a b x)
  unfolding between
  a_free_pair_is_asked_for e = pick_same e _ _

pub found_is_a_site : (s f : List ℕ) (names : List (ℕ × ℕ)) → Named (length names) (lookup s names f)
found_is_a_site s f names = by (lookup s names f) (lookup_says s f names 1)
  where
    by : (w : Option ℕ) → Says s names 1 f w → Named (length names) w
    by (Some v) h = omega arith
    by None h = tt

-- what holds of faults, and of amounts within the limit between two ends free to be joined, holds of all that is asked
module _ (s : List ℕ) (names : List (ℕ × ℕ)) (ls : Links) (t : ℕ → ℕ) (Q : Request → Type 0) (of-faults : (k : ℕ) → Q (request.Fault k))
    (of-pairs : (opens : Bool) (e : Pair) → Proper (length names) e → free_pair ls t e.first e.second ≡ 1 → Q (request_for opens e)) where
  of_between : (opens : Bool) (x : ℕ) → 1 ≤ x → x ≤ AMOUNT → (v w : Option ℕ) → Named (length names) v → Named (length names) w → Q (between ls t opens x v w)
  unfolding between
  of_between opens x some limited None w g h = of-faults 6
  of_between opens x some limited (Some a) None g h = of-faults 6
  of_between opens x some limited (Some a) (Some b) g h = pick_cases Q (free_pair ls t a b) 1 (request_for opens (pair a b x)) (request.Fault 6)
      (λ e. of-pairs opens (pair a b x)
      (record { first-site = g; second-site = h; different = (free_parts ls t a b e).0; some = some; limited = limited }) e)
      (λ d. of-faults 6)

  of_line : (l : List ℕ) (w : Result Booking ℕ) → AmountTold w → Q (request_by s names ls t l w)
  unfolding request_by
  of_line l (Ok b) (some, limited) = of_between b.opens b.amount some limited _ _ (found_is_a_site s _ names) (found_is_a_site s _ names)
  of_line l (Err k) h = of-faults k

  pub of_a_request : (plan : Bool) (text : List ℕ) (at : ℕ) → Q (request_at plan s names ls t text at)
  unfolding request_at request_by line_of
  of_a_request plan text at = by (ltb (at + line_length (drop at text)) (length text))
    where
      by : (z : Bool) → Q (request_by s names ls t (line_at text at) (cond z (line_by plan (line_at text at)) (Err 2)))
      by true = of_line (line_at text at) (line_by plan (line_at text at)) (a_line_tells_its_amount plan (line_at text at))
      by false = of-faults 2

  of_each : (plan : Bool) (text ats : List ℕ) → Each Q (map (request_at plan s names ls t text) ats)
  of_each plan text [] = tt
  of_each plan text (at ∷ ats) = (of_a_request plan text at, of_each plan text ats)

  pub of_the_requests : (plan : Bool) (text : List ℕ) → Each Q (requests plan s names ls t text)
  unfolding requests
  of_the_requests plan text = of_each plan text (lines text)

-- the element at a place of a list that is mapped
at_place : (f : ℕ → Request) (l : List ℕ) (i : ℕ) (d : Request) → i < length l → get_or (map f l) i d ≡ f (look l i)
at_place f [] i d h = absurd (omega arith)
at_place f (x ∷ l) zero d h = refl
at_place f (x ∷ l) (suc i) d h = at_place f l i d (omega arith)

asked_for : (n : ℕ) (opens : Bool) (e : Pair) → Proper n e → Asked n (request_for opens e)
asked_for n true e p = p
asked_for n false e p = p

free_opened : (ls : Links) (t : ℕ → ℕ) (opens : Bool) (e : Pair) → Free ls t e.first e.second → OpensOnly (Free ls t) (request_for opens e)
unfolding lower_first
free_opened ls t true e f = same? (less e.second e.first) 1
    (λ s. rw (pick_same s) (free_turned ls t e.first e.second f))
    (λ d. rw (pick_other d) f)
free_opened ls t false e f = tt

module _ (plan : Bool) (s : List ℕ) (names : List (ℕ × ℕ)) (ls : Links) (t : ℕ → ℕ) (text : List ℕ) where
  pub a_request_can_be_asked : (at : ℕ) → Asked (length names) (request_at plan s names ls t text at)
  a_request_can_be_asked at = of_a_request s names ls t (Asked (length names)) (λ k. tt) (λ opens e p f. asked_for (length names) opens e p) plan text at

  pub the_requests_can_be_asked : Each (Asked (length names)) (requests plan s names ls t text)
  the_requests_can_be_asked = of_the_requests s names ls t (Asked (length names)) (λ k. tt) (λ opens e p f. asked_for (length names) opens e p) plan text

  -- only pairs of ends free to be joined are opened
  pub the_requests_open_free_pairs_only : Each (OpensOnly (Free ls t)) (requests plan s names ls t text)
  the_requests_open_free_pairs_only = of_the_requests s names ls t (OpensOnly (Free ls t)) (λ k. tt) (λ opens e p f. free_opened ls t opens e f) plan text

  -- the line at place i
  pub what_a_line_asks : (i : ℕ) → i < length (lines text)
      → get_or (requests plan s names ls t text) i (request.Fault 0) ≡ request_at plan s names ls t text (look (lines text) i)
  unfolding requests
  what_a_line_asks i h = at_place (request_at plan s names ls t text) (lines text) i (request.Fault 0) h

  pub as_many_requests_as_lines : length (requests plan s names ls t text) ≡ length (lines text)
  unfolding requests
  as_many_requests_as_lines = length-map (lines text) (request_at plan s names ls t text)
