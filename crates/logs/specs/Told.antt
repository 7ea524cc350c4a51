-- What a replay tells, for every sheet, every log and every lent list: each number for its cause and for no other, and the list after.
-- Document 02, Card 6, and 01 on a second text read with the sheet (its refusals first, then 1, then 9, each at line 0).
use Rattle.std.specs.Prelude.{◌≡◌, ◌⊎◌, List, [], ◌++◌, ℕ, ◌≤◌, ◌<◌, drop}
use Rattle.std.proofs.Math.ListN.{length}
use Rattle.model.specs.Limits.{LOGLINES, LOGBYTES}
use Rattle.model.specs.declared.Edition.{Edition}
use Rattle.sheet.specs.Sheet.{Network, edition_of}
use Rattle.sheet.specs.Causes.{Refusal}
use Rattle.sheet.specs.Answers.{SheetNumber}
use Rattle.log_requests.specs.Requests.{lines}
use Rattle.log_requests.specs.Sheets.{Sheet}
use Rattle.logs.specs.Log.{answers_of}
use Rattle.logs.specs.Outcome.{Replayed, text_of, number, line_of, count_of, replayed}

-- text t is refused with number k at line l: the count is 0 and the list keeps its values
pub record IsRefused (t k l : ℕ) (list : List ℕ) (o : Replayed) : Type 0 where
  pub text-told : text_of o.outcome ≡ t
  pub number-told : number o.outcome ≡ k
  pub line-told : line_of o.outcome ≡ l
  pub count-told : count_of o.outcome ≡ 0
  pub list_kept : o.list ≡ list

-- every line is answered: text 0, number 0, line 0 and the count of lines; the list holds the answers, and after them its values from before
pub record AllAnswered (s : List ℕ) (net : Network) (log list : List ℕ) (o : Replayed) : Type 0 where
  pub text-told : text_of o.outcome ≡ 0
  pub number-told : number o.outcome ≡ 0
  pub line-told : line_of o.outcome ≡ 0
  pub count-told : count_of o.outcome ≡ length (lines log)
  pub list_filled : o.list ≡ answers_of s net log ++ drop (length (lines log)) list

-- the log has no more bytes and lines than a log may have
pub record Short (log : List ℕ) : Type 0 where
  pub bytes : length log ≤ LOGBYTES
  pub few : length (lines log) ≤ LOGLINES

-- what the replay of a log over the sheet s, into the lent list l, comes to: the sheet is refused for a cause of its own; or it has none, and the log has
-- too many bytes or lines; or the list has fewer places than the log has lines; or every line is answered
pub data ReplayTold (known : List Edition) (s log l : List ℕ) : Type 0 where
  faulty_sheet : (k line : ℕ) → Refusal (edition_of known s) s k line → SheetNumber (edition_of known s).sizing k
      → IsRefused 1 k line l (replayed known s log l) → ReplayTold known s log l
  long-log : (net : Network) → Sheet known s net → (LOGBYTES < length log) ⊎ (LOGLINES < length (lines log)) → IsRefused 2 1 0 l (replayed known s log l)
      → ReplayTold known s log l
  few_places : (net : Network) → Sheet known s net → Short log → length l < length (lines log) → IsRefused 2 9 0 l (replayed known s log l)
      → ReplayTold known s log l
  all-answered : (net : Network) → Sheet known s net → Short log → length (lines log) ≤ length l → AllAnswered s net log l (replayed known s log l)
      → ReplayTold known s log l

-- ---- Card 8
