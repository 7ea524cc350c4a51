-- Test by test, as the definition.
use Rattle.std.proofs.Common.{sym, ◌∙◌, arith, eq-eqb, ne_eqb, length}
use Rattle.text_fields.specs.Fields.{fields}
use Rattle.text_grammar.specs.SplitLaws.{count_of_split}
use Rattle.sheet_kinds.specs.LineKinds.{is_heading}
use Rattle.sheet_kinds.proofs.is_heading.Goals as goal

pub returns-then-found-ne2 : goal.returns-then-found-ne2
unfolding is_heading
returns-then-found-ne2 c =
    let counted = count_of_split c.args.line.now c.split-found.result c.split-found.ensures in
    rw (ne_eqb (length (fields c.args.line.now)) 2 (omega (arith, counted)))

pub returns-then-not-is_heading_word : goal.returns-then-not-is_heading_word
unfolding is_heading
returns-then-not-is_heading_word c =
    let counted = count_of_split c.args.line.now c.split-found.result c.split-found.ensures in
    let word = rw c.field.ensures at c.is_heading_word.ensures in
    rw (eq-eqb (length (fields c.args.line.now)) 2 (omega (arith, counted)), sym word ∙ c.if-not-is_heading_word.true)

pub returns : goal.returns
unfolding is_heading
returns c =
    let counted = count_of_split c.args.line.now c.split-found.result c.split-found.ensures in
    let word = rw c.field.ensures at c.is_heading_word.ensures in
    rw (eq-eqb (length (fields c.args.line.now)) 2 (omega (arith, counted)), sym word ∙ c.if-not-is_heading_word.false)
    (rw c.field-2.ensures at c.is_byte.ensures)
