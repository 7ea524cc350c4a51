-- A link line has its fourth field.
use Rattle.std.proofs.Common.{arith}
use Rattle.text_fields.specs.Fields.{fields}
use Rattle.text_grammar.specs.SplitLaws.{count_of_split}
use Rattle.sheet_kinds.specs.LineKindLaws.{link_parts}
use Rattle.sheet_kinds.proofs.usable.Goals as goal

pub field-requires : goal.field-requires
field-requires c =
    let l = c.args.line.now in
    let counted = count_of_split l c.args.found c.requires.0 in
    let parts = link_parts c.args.edition.sizing (fields l) c.requires.1 in
    (c.requires.0, omega arith, omega (arith, counted, parts.enough))
