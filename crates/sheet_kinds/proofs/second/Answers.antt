-- Without a fifth field 0 stands for the second number.
use Rattle.std.proofs.Common.{sym, arith}
use Rattle.text_fields.specs.Fields.{fields}
use Rattle.text_grammar.specs.SplitLaws.{count_of_split}
use Rattle.sheet_kinds.specs.LineKindLaws.{no_reserve}
use Rattle.sheet_kinds.proofs.second.Goals as goal

pub returns-then-few : goal.returns-then-few
returns-then-few c =
    let l = c.args.line.now in
    sym (no_reserve c.args.most (fields l) (omega (arith, count_of_split l c.args.found c.requires)))
