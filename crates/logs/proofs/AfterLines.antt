-- What holds after every line of a log over an accepted sheet, and what the answer to each line is, also as lent back: the facts of `theory_log` about the
-- requests of its lines. Document 02, Card 6 ("After every line each link's load is what the answered-0 lines opened over it less what they gave up, and never
-- above twice its usable size").
use mathlib.Core.List.{List, []}
use Rattle.std.specs.Prelude.{◌↔◌, ◌≢◌, ◌≡◌, ℕ, ◌<◌, length, drop}
use Rattle.std.proofs.Common.{arith}
use Rattle.std.proofs.Math.ListN.{get_or-append}
use Rattle.lists.specs.Numbers.{look}
use Rattle.model.specs.declared.Request.TheVariants as request
use Rattle.sheet.specs.Sheet.{Network}
use Rattle.log_requests.specs.Requests.{lines}
use Rattle.logs.specs.Log.{answers_of}
use Rattle.logs.specs.Causes as cause
use Rattle.logs.specs.Outcome.{Replayed}
use Rattle.logs.specs.Told.{AllAnswered}
use Rattle.logs.specs.AfterLines.{Cause, a_line_gets_0_just_where_no_cause_applies, a_line_gets_a_number_just_for_its_cause, each_line_gets_one_answer}

module _ (s : List ℕ) (net : Network) (log l : List ℕ) (o : Replayed) (all : AllAnswered s net log l o) (i : ℕ) (here : i < length (lines log)) where
  -- place i of the lent list holds the answer to line i
  pub a_place_holds_the_answer : look o.list i ≡ look (answers_of s net log) i
  a_place_holds_the_answer = rw all.list_filled
      (get_or-append (answers_of s net log) (drop (length (lines log)) l) 0 i (omega (arith, each_line_gets_one_answer s net log)))

  pub a_place_holds_a_number_just_for_its_cause : (k : ℕ) → k ≢ 0 → (look o.list i ≡ k) ↔ Cause s net log i here k
  a_place_holds_a_number_just_for_its_cause k d = rw a_place_holds_the_answer (a_line_gets_a_number_just_for_its_cause s net log i here k d)

  pub a_place_holds_0_just_where_no_cause_applies : (look o.list i ≡ 0) ↔ ((k : ℕ) → ¬ (Cause s net log i here k))
  a_place_holds_0_just_where_no_cause_applies = rw a_place_holds_the_answer (a_line_gets_0_just_where_no_cause_applies s net log i here)
