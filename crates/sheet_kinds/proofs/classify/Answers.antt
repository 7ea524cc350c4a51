-- By the first field: what it is found to be, against `L` and against `T`.
use Rattle.std.proofs.Common.{sym, ◌∙◌, arith}
use Rattle.text_grammar.specs.SplitLaws.{count_of_split}
use Rattle.sheet_kinds.specs.LineKinds.{kind_of, kind}
use Rattle.sheet_kinds.proofs.classify.Goals as goal

pub field-first-requires : goal.field-first-requires
field-first-requires c =
    let counted = count_of_split c.args.line.now c.split-found.result c.split-found.ensures in
    (c.split-found.ensures, omega arith, omega (arith, counted))

pub returns-then-is_byte : goal.returns-then-is_byte
unfolding kind kind_of
returns-then-is_byte c =
    let link = rw c.field-first.ensures at c.is_byte.ensures in
    rw (sym link ∙ c.if-is_byte.true) c.link.ensures

pub returns-then-is_byte-2 : goal.returns-then-is_byte-2
unfolding kind kind_of
returns-then-is_byte-2 c =
    let link = rw c.field-first.ensures at c.is_byte.ensures in
    let mark = rw c.field-first.ensures at c.is_byte-2.ensures in
    rw (sym link ∙ c.if-is_byte.false, sym mark ∙ c.if-is_byte-2.true) c.site.ensures

pub returns : goal.returns
unfolding kind kind_of
returns c =
    let link = rw c.field-first.ensures at c.is_byte.ensures in
    let mark = rw c.field-first.ensures at c.is_byte-2.ensures in
    rw (sym link ∙ c.if-is_byte.false, sym mark ∙ c.if-is_byte-2.false) c.site-2.ensures
