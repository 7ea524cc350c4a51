-- What one scan finds is the line.
use Rattle.sheet_scan.specs.FoundLines.{a_found_line_is_scanned}
use Rattle.sheet_scan.proofs.scan.Goals as goal

pub returns-in-Some : goal.returns-in-Some
returns-in-Some c = a_found_line_is_scanned c.args.edition c.args.sheet.now c.args.at _ _ c.in-Some.ensures
