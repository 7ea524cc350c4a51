-- What holds after every line of a log over an accepted sheet, and what the answer to each line is, also as lent back: the facts of `theory_log` about the
-- requests of its lines. Document 02, Card 6 ("After every line each link's load is what the answered-0 lines opened over it less what they gave up, and never
-- above twice its usable size").
use Rattle.std.proofs.Math.Bool.{false}
use mathlib.Core.List.{List, []}
use Rattle.std.specs.Prelude.{◌↔◌, ◌≢◌, ◌≡◌, ℕ, suc, ◌+◌, ◌*◌, ◌≤◌, ◌<◌, length, take}
use Rattle.std.proofs.Math.Path.{ap}
use Rattle.std.proofs.Common.{◌∙◌, arith}
use Rattle.std.proofs.Math.ListN.{length-map}
use Rattle.lists.specs.Numbers.{look, Each}
use Rattle.model.specs.Limits.{OPEN}
use Rattle.lists.specs.Tallies.{each_both}
use Rattle.model.specs.Flows.{Route, Multiflow, load}
use Rattle.model.specs.Parts.{free_pair}
use Rattle.model.specs.Booking.{places_of, answer, after, opened, given_up, Asked, Entry}
use Rattle.model.specs.declared.Edition.{Edition}
use Rattle.model.specs.declared.Pair.{Pair}
use Rattle.model.specs.declared.Request.TheVariants as request
use Rattle.theory_trees.specs.FreePairs.{free_iff_route}
use Rattle.theory_log.specs.Pairs.{Sites}
use Rattle.theory_log.specs.Logs as theory
use Rattle.theory_log.proofs.Logs as laws
use Rattle.sheet.specs.Sheet.{Network, read_sheet, accepted, edition_of}
use Rattle.sheet.specs.SheetTheorem.{an_accepted_sheet_is_a_tree}
use Rattle.log_requests.specs.Requests.{lines, request_at, requests, is_end}
use Rattle.logs.specs.Log.{requests_of, answers_of}
use Rattle.log_requests.specs.RequestLaws.{Free}
use Rattle.log_requests.proofs.RequestLaws.{the_requests_can_be_asked, the_requests_open_free_pairs_only, what_a_line_asks}
use Rattle.logs.specs.Causes as cause

module _ (s : List ℕ) (net : Network) (log : List ℕ) where
  abbrev capacity_of : ℕ → ℕ
  capacity_of = look net.capacities

  abbrev number : ℕ
  number = length net.names

  -- the pairs that are open after the first i lines
  unfoldable pub open_after : ℕ → List Pair
  open_after i = after net.links capacity_of [] (take i (requests_of s net log))

  -- what the first i lines that are answered 0 opened over link j, and what they gave up there
  unfoldable pub opened_by : ℕ → ℕ → ℕ
  opened_by i j = opened net.links capacity_of [] (take i (requests_of s net log)) j

  unfoldable pub given_up_by : ℕ → ℕ → ℕ
  given_up_by i j = given_up net.links capacity_of [] (take i (requests_of s net log)) j

  -- what holds of them
  pub record Holds (i : ℕ) : Type 0 where
    -- the load of each link is what was opened over it less what was given up
    pub balance : (j : ℕ) → opened_by i j ≡ load net.links (open_after i) j + given_up_by i j
    -- and at most twice its capacity
    pub fits : (j : ℕ) → j < length net.links → load net.links (open_after i) j ≤ 2 * look net.capacities j
    -- at most OPEN pairs are open
    pub few : length (open_after i) ≤ OPEN
    -- each is a pair of two sites, the lower one first, with an amount above 0
    pub entries : Each (Entry (length net.names)) (open_after i)
    -- its sites are two different ends with no other end on their path
    pub free : Each (λ e. free_pair net.links (is_end net) e.first e.second ≡ 1) (open_after i)
    -- and all are different
    pub once : (a b : ℕ) → places_of a b (open_after i) ≤ 1

  asked : Each (Asked (length net.names)) (requests_of s net log)
  asked = the_requests_can_be_asked false s net.names net.links (is_end net) log

  -- after every line
  pub after_every_line : (i : ℕ) → Holds i
  unfolding open_after opened_by given_up_by
  after_every_line i = record {
    balance = laws.after_every_line_the_load_is_what_was_opened_less_what_was_given_up net.links capacity_of number (requests_of s net log) asked i;
    fits = laws.after_every_line_no_load_is_above_twice_the_capacity net.links capacity_of number (requests_of s net log) asked i;
    few = laws.after_every_line_at_most_OPEN_pairs_are_open net.links capacity_of number (requests_of s net log) asked i;
    entries = laws.after_every_line_each_open_pair_has_an_amount net.links capacity_of number (requests_of s net log) asked i;
    free = theory.after_every_line_only_what_the_lines_open_is_open net.links capacity_of (Free net.links (is_end net)) (requests_of s net log)
        (the_requests_open_free_pairs_only false s net.names net.links (is_end net) log) i;
    once = laws.after_every_line_the_open_pairs_are_different net.links capacity_of number (requests_of s net log) asked i;
  }

  -- over an accepted sheet what is open is a plan: each entry joins two ends free to be joined (01: plan)
  pub what_is_open_is_a_multiflow : (known : List Edition) → read_sheet known s ≡ accepted net → (i : ℕ)
      → Multiflow net.links number (is_end net) (open_after i)
  what_is_open_is_a_multiflow known e i =
      let holds = after_every_line i in
      each_both (Entry number) (Sites (Free net.links (is_end net))) (Route net.links number (is_end net))
      (λ p here free. (free_iff_route net.links (is_end net) number (an_accepted_sheet_is_a_tree (edition_of known s) s net e).tree.ends p
      here.first-site here.second-site).0 free)
      (open_after i) holds.entries holds.free

  -- each line gets one answer
  pub each_line_gets_one_answer : length (answers_of s net log) ≡ length (lines log)
  unfolding requests
  each_line_gets_one_answer =
      theory.each_line_gets_one_answer net.links capacity_of [] (requests_of s net log)
      ∙ length-map (lines log) (request_at false s net.names net.links (is_end net) log)

  module _ (i : ℕ) (here : i < length (lines log)) where
    counted : i < length (requests_of s net log)
    unfolding requests
    counted = omega (arith, length-map (lines log) (request_at false s net.names net.links (is_end net) log))

    -- a refused line moves nothing
    pub a_refused_line_moves_nothing : look (answers_of s net log) i ≢ 0 → open_after (suc i) ≡ open_after i
    unfolding open_after
    a_refused_line_moves_nothing = theory.a_refused_line_moves_nothing net.links capacity_of [] (requests_of s net log) i counted

    -- its answer is that to what it asks, where the lines before it are done
    pub the_answer_to_a_line : look (answers_of s net log) i
        ≡ answer net.links capacity_of (open_after i) (request_at false s net.names net.links (is_end net) log (look (lines log) i))
    unfolding open_after
    the_answer_to_a_line =
        theory.a_line_is_answered_after_those_before_it net.links capacity_of [] (requests_of s net log) i counted
        ∙ ap (answer net.links capacity_of (open_after i))
        (what_a_line_asks false s net.names net.links (is_end net) log i here)

    -- why it gets a number
    abbrev pub Cause : ℕ → Type 0
    Cause = cause.Cause s net.names net.links (is_end net) capacity_of (open_after i) log (look (lines log) i)

    -- each number just for its cause, and 0 just where no cause applies
    pub a_line_gets_a_number_just_for_its_cause : (k : ℕ) → k ≢ 0 → (look (answers_of s net log) i ≡ k) ↔ Cause k
    a_line_gets_a_number_just_for_its_cause k d = rw the_answer_to_a_line
        (cause.a_line_gets_a_number_just_for_its_cause s net.names net.links (is_end net) capacity_of (open_after i) log (look (lines log) i) k d)

    pub a_line_gets_0_just_where_no_cause_applies : (look (answers_of s net log) i ≡ 0) ↔ ((k : ℕ) → ¬ (Cause k))
    a_line_gets_0_just_where_no_cause_applies = rw the_answer_to_a_line
        (cause.a_line_gets_0_just_where_no_cause_applies s net.names net.links (is_end net) capacity_of (open_after i) log (look (lines log) i))

-- ---- as lent back
