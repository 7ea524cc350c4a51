-- `write_words` meets its contract: where the fault is, and what is wrong.
use Rattle.std.proofs.Common.{[], ◌∷◌, ◌++◌, ℕ, ◌^◌, ◌<◌, arith}
use Rattle.text_writers.specs.Wrote.{Room}
use Rattle.text_writers.specs.Writing.{then, room_front, room_after}
use Rattle.report_causes.specs.CauseWords.{place, cause}
use Rattle.report_words.specs.Words.{words}
use Rattle.report_words.specs.Lengths.{words_are_short}
use Rattle.report_words.proofs.write_words.Goals as goal

room : (number l : ℕ) → l < 2 ^ 64 → Room 0 (place l ++ (cause number ++ (10 ∷ [])))
unfolding words
room number l h = omega (arith, words_are_short number l h)

pub put_place-at-requires : goal.put_place-at-requires
put_place-at-requires c = room_front 0 (place c.args.line) (cause c.args.number ++ (10 ∷ [])) (room c.args.number c.args.line (omega arith))

pub put_cause-requires : goal.put_cause-requires
put_cause-requires c = room_after c.put_place-at.ensures (cause c.args.number ++ (10 ∷ [])) (room c.args.number c.args.line (omega arith))

pub returns : goal.returns
unfolding words
returns c = then c.put_place-at.ensures c.put_cause.ensures
