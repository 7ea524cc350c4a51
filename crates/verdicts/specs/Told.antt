-- What judging tells, for every sheet and every plan: each number for its cause and for no other; an accepted plan is a plan that fits, with its total, and yes
-- exactly if no fitting plan, however finely cut, has a greater total. Document 02, Card 12, and 01 on a second text read with the sheet.
use Rattle.std.specs.Prelude.{true, ◌≡◌, ◌⊎◌, ◌↔◌, ℕ, ◌+◌, ◌*◌, ◌≤◌, ◌<◌}
use mathlib.Core.List.{List, []}
use Rattle.std.proofs.Math.ListN.{length}
use Rattle.lists.specs.Numbers.{look}
use Rattle.model.specs.Limits.{AMOUNT, PLANLINES, PLANBYTES}
use Rattle.model.specs.Flows.{Multiflow, Fits, total}
use Rattle.model.specs.Booking.{places_of}
use Rattle.model.specs.TextRefusals.{refused_in}
use Rattle.model.specs.declared.Edition.{Edition}
use Rattle.model.specs.declared.Pair.{Pair}
use Rattle.theory_verdicts.specs.Accounts.{drawn}
use Rattle.theory_verdicts.specs.Loads.{Overloaded}
use Rattle.theory_verdicts.specs.Largest.{NoneGreater}
use Rattle.sheet.specs.Sheet.{Network, edition_of}
use Rattle.sheet.specs.Causes.{Refusal}
use Rattle.sheet.specs.Answers.{SheetNumber}
use Rattle.log_requests.specs.Requests.{lines, requests, is_end}
use Rattle.log_requests.specs.Sheets.{Sheet}
use Rattle.verdicts.specs.Outcome.{Outcome, judged_as, text_of, number, line_of, total_of, yes_of, judged}
use Rattle.verdicts.specs.Causes.{Cause}

-- the entries of all lines of a plan, the lower site first in each
abbrev pub plan_drawn : List ℕ → Network → List ℕ → List Pair
plan_drawn s net plan = drawn [] (requests true s net.names net.links (is_end net) plan)

-- the plan has no more bytes and lines than a plan may have
pub record Short (plan : List ℕ) : Type 0 where
  pub bytes : length plan ≤ PLANBYTES
  pub few : length (lines plan) ≤ PLANLINES

-- no line of it has a cause
abbrev pub Clean : List ℕ → Network → List ℕ → Type 0
Clean s net plan = (p : ℕ) → p < length (lines plan) → (k : ℕ) → ¬ (Cause s net plan p k)

-- an accepted plan: what is told of it, and what holds of its entries es
pub record Accepted (net : Network) (es : List Pair) (o : Outcome) : Type 0 where
  pub judged-told : o ≡ judged_as (total_of o) (yes_of o)
  pub text-told : text_of o ≡ 0
  pub number-told : number o ≡ 0
  pub line-told : line_of o ≡ 0
  -- it is a plan that fits, in halves, with no pair twice, and its total is the one told
  pub plan : Multiflow net.links (length net.names) (is_end net) es
  pub fits : Fits net.links 2 (look net.capacities) es
  pub once : (a b : ℕ) → places_of a b es ≤ 1
  pub total-told : total_of o ≡ total es
  pub small : total es ≤ PLANLINES * AMOUNT
  -- yes exactly if no fitting plan, however finely cut, has a greater total
  pub yes : (yes_of o ≡ true) ↔ NoneGreater net.links (length net.names) (is_end net) net.capacities (total es)

-- what judging a plan over the sheet s comes to: the sheet is refused for a cause of its own; or it has none, and the plan has too many bytes or lines; or a
-- line has a cause, the lowest; or none has, and some load is above twice the usable size; or the plan is accepted
pub data JudgeTold (known : List Edition) (s plan : List ℕ) : Type 0 where
  faulty_sheet : (k line : ℕ) → Refusal (edition_of known s) s k line → SheetNumber (edition_of known s).sizing k → judged known s plan ≡ refused_in 1 k line
      → JudgeTold known s plan
  long_plan : (net : Network) → Sheet known s net → (PLANBYTES < length plan) ⊎ (PLANLINES < length (lines plan)) → judged known s plan ≡ refused_in 2 1 0
      → JudgeTold known s plan
  faulty_line : (net : Network) → Sheet known s net → Short plan → (p k : ℕ) → p < length (lines plan) → Cause s net plan p k
      → ((q : ℕ) → q < p → (j : ℕ) → ¬ (Cause s net plan q j)) → judged known s plan ≡ refused_in 2 k (p + 1) → JudgeTold known s plan
  heavy_plan : (net : Network) → Sheet known s net → Short plan → Clean s net plan → Overloaded net.links (look net.capacities) (plan_drawn s net plan)
      → judged known s plan ≡ refused_in 2 21 0 → JudgeTold known s plan
  accepted_plan : (net : Network) → Sheet known s net → Short plan → Clean s net plan
      → (Overloaded net.links (look net.capacities) (plan_drawn s net plan) → ⊥) → Accepted net (plan_drawn s net plan) (judged known s plan)
      → JudgeTold known s plan
