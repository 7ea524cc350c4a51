-- `write_words_of` meets its contract: the words of the log, or those of the sheet behind its word.
use Rattle.std.proofs.Common.{◌≡◌, ◌≢◌, [], ◌∷◌, ◌++◌, List, ℕ, ◌^◌, ◌≤◌, ◌<◌, length, arith}
use Rattle.lists.specs.Sums.{pick_same, pick_other}
use Rattle.text_writers.specs.Wrote.{Room}
use Rattle.text_writers.specs.Writing.{then, room_front, room_after}
use Rattle.report_causes.specs.CauseWords.{place, cause}
use Rattle.report_words.specs.Words.{words}
use Rattle.report_words.specs.TwoTexts.{sheet_word, log_words, words_of, words_of_are_short}
use Rattle.report_words.proofs.write_words_of.Goals as goal

-- the words of the sheet
of_the_sheet : (text number l : ℕ) → text ≢ 2 → words_of text number l ≡ sheet_word l ++ (place l ++ (cause number ++ (10 ∷ [])))
unfolding words_of words
of_the_sheet text number l d = pick_other d (log_words number) (sheet_word l ++ words number l)

room : (text number l : ℕ) → text ≢ 2 → l < 2 ^ 64 → Room 0 (sheet_word l ++ (place l ++ (cause number ++ (10 ∷ []))))
room text number l d h = rw (of_the_sheet text number l d) at (shortened (words_of text number l) (words_of_are_short text number l h))
  where
    shortened : (w : List ℕ) → length w ≤ 150 → Room 0 w
    shortened w k = omega arith

pub returns-then-text-eq2 : goal.returns-then-text-eq2
unfolding words_of
returns-then-text-eq2 c =
    rw (pick_same c.if-text-eq2.true (log_words c.args.number) (sheet_word c.args.line ++ words c.args.number c.args.line)) c.put_log.ensures

pub put_place-next-requires : goal.put_place-next-requires
put_place-next-requires c =
    let a = c.args in
    let rest = place a.line ++ (cause a.number ++ (10 ∷ [])) in
    room_front _ (place a.line) (cause a.number ++ (10 ∷ []))
    (room_after c.put_sheet-at.ensures rest (room a.text a.number a.line c.if-text-eq2.false (omega arith)))

pub put_cause-requires : goal.put_cause-requires
put_cause-requires c =
    let a = c.args in
    let rest = place a.line ++ (cause a.number ++ (10 ∷ [])) in
    room_after c.put_place-next.ensures (cause a.number ++ (10 ∷ []))
    (room_after c.put_sheet-at.ensures rest (room a.text a.number a.line c.if-text-eq2.false (omega arith)))

pub returns : goal.returns
returns c =
    rw (of_the_sheet c.args.text c.args.number c.args.line c.if-text-eq2.false)
    (then c.put_sheet-at.ensures (then c.put_place-next.ensures c.put_cause.ensures))
