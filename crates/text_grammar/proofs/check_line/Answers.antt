-- A line has a first field.
use Rattle.std.proofs.Common.{arith}
use Rattle.text_grammar.specs.SplitLaws.{count_of_split}
use Rattle.text_grammar.proofs.check_line.Goals as goal

pub field-requires : goal.field-requires
field-requires c = (c.requires.0, omega arith, omega (arith, count_of_split c.args.line.now c.args.found c.requires.0))
