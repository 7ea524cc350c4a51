-- `put_log` meets its contract: one text for each number.
use Rattle.std.proofs.Common.{◌≢◌, [], ◌∷◌, ◌++◌, arith}
use Rattle.lists.specs.Sums.{pick_same, pick_other}
use Rattle.model.specs.Text.{bytes}
use Rattle.report_words.specs.TwoTexts.{log_long, log_words}
use Rattle.report_words.proofs.put_log.Goals as goal

pub returns-in-1 : goal.returns-in-1
unfolding log_words
returns-in-1 c = rw (pick_same c.in-1.is log_long (bytes "the log: more lines than places for answers" ++ (10 ∷ []))) c.put_long_log.ensures

pub returns-in_default : goal.returns-in_default
unfolding log_words
returns-in_default c =
    let other : c.args.number ≢ 1 = omega arith in
    rw (pick_other other log_long (bytes "the log: more lines than places for answers" ++ (10 ∷ []))) c.put_bytes.ensures
