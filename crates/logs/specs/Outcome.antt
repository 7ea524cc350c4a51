-- The outcome of a replay, for every sheet, every log and every lent list: text, number, line, count, and the list after.
-- Document 02, Card 6, and 01 on a second text read with the sheet.
use Rattle.std.specs.Prelude.{cond, ◌&&◌, List, ◌++◌, ℕ, leb, length, drop, Result, Ok, Err}
use Rattle.model.specs.Limits.{LOGLINES, LOGBYTES}
use Rattle.model.specs.TextRefusals.{refused_in}
use Rattle.model.specs.declared.Edition.{Edition}
use Rattle.model.specs.declared.TextRefusal.{TextRefusal}
use Rattle.sheet.specs.Sheet.{Network, Read, refused, accepted, read_sheet}
use Rattle.log_requests.specs.Requests.{lines}
use Rattle.logs.specs.Log.{answers_of}
-- the papers' text, number and line for each outcome
pub use Rattle.model.specs.TextRefusals.{text_of, number, line_of}

-- the outcome of a replay: so many lines answered, or a refusal of one of two texts (1 the sheet, 2 the log)
abbrev pub Outcome : Type 0
Outcome = Result ℕ TextRefusal

-- the count of lines answered; 0 of a refusal
abbrev pub count_of : Outcome → ℕ
count_of (Ok n) = n
count_of (Err r) = 0

-- the outcome, and the lent list after
pub record Replayed : Type 0 where
  pub outcome : Outcome
  pub list : List ℕ

-- a log over the network of an accepted sheet: 1 where it has more bytes or lines than a log may have, then 9 where the list has fewer places than the log has
-- lines; else every line is answered, and the places after the answers keep their values
unfoldable pub replay_over : List ℕ → Network → List ℕ → List ℕ → Replayed
replay_over s net log l =
    let n = length (lines log) in
    cond (leb (length log) LOGBYTES && leb n LOGLINES)
    (cond (leb n (length l))
    (record { outcome = Ok n; list = answers_of s net log ++ drop n l })
    (record { outcome = refused_in 2 9 0; list = l }))
    (record { outcome = refused_in 2 1 0; list = l })

-- a log over a sheet that is read; the sheet's refusals come first
unfoldable pub replay_read : List ℕ → List ℕ → List ℕ → Read → Replayed
replay_read s log l (refused n k) = record { outcome = refused_in 1 n k; list = l }
replay_read s log l (accepted net) = replay_over s net log l

-- the log replayed over the sheet s, its answers into the lent list l
unfoldable pub replayed : List Edition → List ℕ → List ℕ → List ℕ → Replayed
replayed known s log l = replay_read s log l (read_sheet known s)
