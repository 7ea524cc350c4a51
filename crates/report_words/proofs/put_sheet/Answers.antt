-- `put_sheet` meets its contract: nothing, or the word.
use Rattle.std.proofs.Common.{[]}
use Rattle.lists.specs.Sums.{pick_same, pick_other}
use Rattle.model.specs.Text.{bytes}
use Rattle.text_writers.specs.Writing.{nothing}
use Rattle.report_words.specs.TwoTexts.{sheet_word}
use Rattle.report_words.proofs.put_sheet.Goals as goal

pub returns-then-line-eq0 : goal.returns-then-line-eq0
unfolding sheet_word
returns-then-line-eq0 c = rw (pick_same c.if-line-eq0.true [] (bytes "the sheet, ")) (nothing _ 0)

pub returns : goal.returns
unfolding sheet_word
returns c = rw (pick_other c.if-line-eq0.false [] (bytes "the sheet, ")) c.put_part.ensures
