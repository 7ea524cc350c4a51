-- `line_of`: an unended line first, then the line by itself.
use Rattle.std.proofs.Common.{rules, ◌≡◌, ◌+◌, ◌<◌, Result, List, ℕ, length, arith, sym, ap, ◌∙◌}
use Rattle.text_lines.specs.Lines.{line_at}
use Rattle.log_lines.specs.declared.Booking.{Booking}
use Rattle.log_lines.specs.LogLines.{line_by}
use Rattle.log_requests.specs.Requests.{is_plan, line_of}
use Rattle.log_requests.specs.declared.Text.{Text}
use Rattle.log_requests.specs.declared.Text.TheVariants.{Log, Plan}
use Rattle.log_requests.specs.RequestLaws.{unended_line, ended_line}
use Rattle.log_requests.proofs.line_of.Goals as goal

-- an ended line, of a plan or of a log
ended : (text : List ℕ) (at : ℕ) {kind : Text} (by : Text) {line : List ℕ} {x : Result Booking ℕ} → line ≡ line_at text at → at + length line < length text
    → kind ≡ by → x ≡ line_by (is_plan by) line → x ≡ line_of (is_plan kind) text at
ended text at by l h p e = rw p (e ∙ ap (line_by (is_plan by)) l ∙ sym (ended_line text (is_plan by) at (omega (arith, ap length l))))

pub returns-then-at-line : goal.returns-then-at-line
returns-then-at-line c = sym (unended_line c.args.text.now (is_plan c.args.kind) c.args.at (omega (arith, ap length c.requires.1)))

-- What the line was read as is left to `search`, which finds it among the facts.
pub returns-in-Log : goal.returns-in-Log
returns-in-Log c = ended c.args.text.now c.args.at Log c.requires.1 (omega arith) c.in-Log.is (search rules)

pub returns-in-Plan : goal.returns-in-Plan
returns-in-Plan c = ended c.args.text.now c.args.at Plan c.requires.1 (omega arith) c.in-Plan.is (search rules)
