-- The outcome of judging a plan drawn by hand, for every sheet and every plan: text, number and line of a refusal, or the total and yes or no.
-- Document 02, Card 12, and 01 on a second text read with the sheet.
use Rattle.std.specs.Prelude.{Bool, true, false, cond, ◌&&◌, List, [], ℕ, eqb, leb, length, Result, Ok, Err}
use Rattle.lists.specs.Numbers.{pick, look}
use Rattle.model.specs.Limits.{PLANLINES, PLANBYTES}
use Rattle.model.specs.Flows.{Links, total}
use Rattle.model.specs.TextRefusals.{refused_in}
use Rattle.model.specs.declared.Edition.{Edition}
use Rattle.model.specs.declared.TextRefusal.{TextRefusal}
use Rattle.theory_verdicts.specs.HandPlan.{Account, faulty, entries, account, overloaded, largest_total}
use Rattle.sheet.specs.Sheet.{Network, Read, refused, accepted, read_sheet}
use Rattle.log_requests.specs.Requests.{lines, requests, is_end}
use Rattle.verdicts.specs.declared.Verdict.{Verdict}
-- the papers' text, number and line for each outcome
pub use Rattle.model.specs.TextRefusals.{text_of, number, line_of}

-- the outcome of judging: a verdict, or a refusal of one of two texts (1 the sheet, 2 the plan)
abbrev pub Outcome : Type 0
Outcome = Result Verdict TextRefusal

-- a plan of a total, in halves, and whether yes is told of it
abbrev pub judged_as : ℕ → Bool → Outcome
judged_as x largest = Ok (record { total = x; largest = largest })

-- the total in halves; 0 of a refusal
abbrev pub total_of : Outcome → ℕ
total_of (Ok v) = v.total
total_of (Err r) = 0

-- whether yes is told
abbrev pub yes_of : Outcome → Bool
yes_of (Ok v) = v.largest
yes_of (Err r) = false

-- what the lines of a plan come to over a tree: its lowest faulty line; after the last line 21 where some load is above twice the usable size, at line 0; else
-- its total, and yes where that is the largest
unfoldable pub verdict : Links → ℕ → (ℕ → ℕ) → List ℕ → Account → Outcome
verdict ls n terminal c (faulty k l) = refused_in 2 k l
verdict ls n terminal c (entries es) =
    pick (overloaded ls (look c) es) 0 (judged_as (total es) (eqb (total es) (largest_total ls n terminal c))) (refused_in 2 21 0)

-- over the network of an accepted sheet
abbrev pub verdict_of : List ℕ → Network → List ℕ → Outcome
verdict_of s net plan =
    verdict net.links (length net.names) (is_end net) net.capacities
    (account 1 [] (requests true s net.names net.links (is_end net) plan))

-- 1 where the plan has more bytes or lines than a plan may have
unfoldable pub judge_over : List ℕ → Network → List ℕ → Outcome
judge_over s net plan = cond (leb (length plan) PLANBYTES && leb (length (lines plan)) PLANLINES) (verdict_of s net plan) (refused_in 2 1 0)

-- a plan over a sheet that is read; the sheet's refusals come first
unfoldable pub judge_read : List ℕ → List ℕ → Read → Outcome
judge_read s plan (refused n k) = refused_in 1 n k
judge_read s plan (accepted net) = judge_over s net plan

-- the plan judged over the sheet s
unfoldable pub judged : List Edition → List ℕ → List ℕ → Outcome
judged known s plan = judge_read s plan (read_sheet known s)
