-- The first field chooses the form.
use Rattle.std.proofs.Common.{sym, arith}
use Rattle.text_grammar.specs.SplitLaws.{count_of_split}
use Rattle.log_lines.specs.LogLines.{log_line}
use Rattle.log_lines.proofs.classify.Goals as goal

pub field-requires : goal.field-requires
field-requires c =
    let counted = count_of_split c.args.line.now c.split-found.result c.split-found.ensures in
    (c.split-found.ensures, omega arith, omega (arith, counted))

pub returns-then-opens : goal.returns-then-opens
unfolding log_line
returns-then-opens c =
    let first = rw c.field.ensures at c.is_byte-opens.ensures in
    rw (sym first, c.if-opens.true) (rw c.if-opens.true at c.line_as.ensures)

pub returns : goal.returns
unfolding log_line
returns c =
    let first = rw c.field.ensures at c.is_byte-opens.ensures in
    rw (sym first, c.if-opens.false) (rw c.if-opens.false at c.line_as-2.ensures)
