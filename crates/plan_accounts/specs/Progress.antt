-- How far a plan is entered: the arrays hold the entries of the lines so far, and the lines left come to what all lines come to. Each step takes one line.
use Rattle.std.proofs.Math.Bool.{true}
use mathlib.Core.List.{List, [], map}
use Rattle.std.specs.Prelude.{◌≡◌, refl, ◌≢◌, ℕ, ◌+◌, ◌-◌, ◌*◌, ◌/◌, ◌≤◌, ◌<◌, replicate}
use Rattle.std.proofs.Common.{sym, ◌∙◌, add-one, arith}
use Rattle.std.proofs.Math.Path.{ap}
use Rattle.std.proofs.Math.Nat.{zero-div}
use Rattle.std.proofs.Math.ListN.{length}
use Rattle.lists.specs.Numbers.{look}
use Rattle.lists.specs.Sums.{pick_same, pick_other}
use Rattle.lists.specs.Places.{look-zeros}
use Rattle.model.specs.Limits.{AMOUNT, PLANLINES, ROWS, SITES, WORDS}
use Rattle.model.specs.Flows.{Links, load, total}
use Rattle.model.specs.Booking.{places_of}
use Rattle.model.specs.declared.Pair.{Pair}
use Rattle.theory_verdicts.specs.HandPlan.{entered, Account, faulty, entries, account}
use Rattle.theory_verdicts.proofs.Accounts.{a_load_is_at_most_the_total}
use Rattle.text_lines.specs.Lines.{after_line}
use Rattle.log_requests.specs.Requests.{lines_from, lines, request_at, requests}
use Rattle.log_requests.specs.RequestLaws.{after-within, lines_end, lines_step, all_lines}
use Rattle.log_paths.specs.Tables.{in_table}
use Rattle.plan_entries.specs.Holding.{Roomy, Holding, LineEntered}
use Rattle.plan_entries.specs.declared.Entered.{Entered}
use Rattle.plan_accounts.specs.declared.Accounted.{Accounted}

-- what is told of the lines: the number and the line of a fault; or 0, the total and the loads of the entries
abbrev pub Comes : Links → Account → Accounted → Type 0
Comes ls (faulty k l) r = (r.number ≡ k) × (r.line ≡ l) × (k ≢ 0)
Comes ls (entries es) r = (r.number ≡ 0) × (r.total ≡ total es) × ((j : ℕ) → look r.load j ≡ load ls es j)

module _ (s : List ℕ) (names : List (ℕ × ℕ)) (ls : Links) (t : ℕ → ℕ) (plan : List ℕ) where
  -- what the lines from an offset on come to, after the entries es
  abbrev left : ℕ → List Pair → ℕ → Account
  left i es at = account i es (map (request_at true s names ls t plan) (lines_from plan (length plan - at) at))

  -- the lines before line i are entered, and it starts at an offset
  pub record Progress (given l : List ℕ) (sum at i : ℕ) : Type 0 where
    pub es : List Pair
    pub same : account 1 [] (requests true s names ls t plan) ≡ left i es at
    pub on_plan : at ≤ length plan
    pub counted : i + length (lines_from plan (length plan - at) at) ≡ 1 + length (lines plan)
    pub some : 1 ≤ i
    pub holds : Holding ls es given l
    pub summed : sum ≡ total es
    pub small : sum + AMOUNT ≤ i * AMOUNT

  -- before the first line
  pub start : Progress (replicate ROWS 0) (replicate SITES 0) 0 0 1
  unfolding requests in_table places_of load total
  start = record {
    es = [];
    same = ap (λ ats. account 1 [] (map (request_at true s names ls t plan) ats)) (all_lines plan);
    on_plan = omega arith;
    counted = ap (λ r. 1 + length r) (sym (all_lines plan));
    some = omega arith;
    holds = record {
      rows = refl;
      places = refl;
      pairs = λ a k l. rw (look-zeros ROWS (a * WORDS + k / 64), zero-div) refl;
      loads = λ j. look-zeros SITES j;
    };
    summed = refl;
    small = omega arith;
  }

  module _ {given l : List ℕ} {sum at i : ℕ} (P : Progress given l sum at i) where
    -- after the last line
    pub over : length plan ≤ at → account 1 [] (requests true s names ls t plan) ≡ entries P.es
    unfolding account
    over h = P.same ∙ ap (λ r. account i P.es (map (request_at true s names ls t plan) r)) (lines_end plan (length plan - at) at h)

    module _ (few : length (lines plan) ≤ PLANLINES) where
      -- the number of the line is one of a plan, or the next after its last
      pub line_low : i ≤ 1 + PLANLINES
      line_low = omega (arith, P.counted)

      module _ (h : at < length plan) where
        pub line-here : i ≤ PLANLINES
        line-here = omega (arith, P.counted, ap length (lines_step plan at h))

        -- there is room for one more amount
        pub roomy : Roomy given l
        roomy = record {
          rows = P.holds.rows;
          places = P.holds.places;
          small = λ j. omega (arith, P.holds.loads j, a_load_is_at_most_the_total ls j P.es, P.summed, P.small, line-here);
        }

        module _ {given' l' : List ℕ} {r : Entered} (e : LineEntered ls P.es (request_at true s names ls t plan at) given' l' r) where
          -- a line with a number is the lowest faulty one
          pub faulty_here : r.number ≢ 0 → account 1 [] (requests true s names ls t plan) ≡ faulty r.number i
          unfolding account
          faulty_here d =
              P.same
              ∙ ap (λ r. account i P.es (map (request_at true s names ls t plan) r)) (lines_step plan at h)
              ∙ pick_other (λ z. d (e.said ∙ z)) _ _
              ∙ ap (λ k. faulty k i) (sym e.said)

          -- any other is entered
          pub next : r.number ≡ 0 → Progress given' l' (sum + r.amount) (after_line plan at) (i + 1)
          unfolding account
          next z = record {
            es = entered P.es (request_at true s names ls t plan at);
            same = P.same
                ∙ ap (λ r. account i P.es (map (request_at true s names ls t plan) r)) (lines_step plan at h)
                ∙ pick_same (sym e.said ∙ z) _ _
                ∙ ap (λ k. left k (entered P.es (request_at true s names ls t plan at)) (after_line plan at)) (sym (add-one i));
            on_plan = after-within plan at;
            counted = omega (arith, P.counted, ap length (lines_step plan at h));
            some = omega arith;
            holds = e.holds z;
            summed = omega (arith, P.summed, e.totals z);
            small = omega (arith, P.small, e.limited);
          }
