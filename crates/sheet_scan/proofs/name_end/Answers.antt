-- A run with a letter among it is a name, where the given byte follows.
use Rattle.std.proofs.Common.{◌<◌, arith}
use Rattle.sheet_scan.specs.ScanLaws.{a_run_is_a_name}
use Rattle.sheet_scan.proofs.name_end.Goals as goal

pub returns : goal.returns
returns c =
    let run = c.run_end-end in
    let some = c.has_letter.ensures c.if-not-has_letter.false in
    let ahead : c.args.from < run.result = omega (arith, some.1, some.2) in
    (ahead, a_run_is_a_name _ _ _ _ ahead (omega arith) (omega arith) run.ensures.2 some c.if-sheet-end.false)
