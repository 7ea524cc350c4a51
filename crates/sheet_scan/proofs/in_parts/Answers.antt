-- The line, its kind, and what follows its end.
use Rattle.sheet_scan.specs.FoundLines.{parts_are_scanned}
use Rattle.sheet_scan.proofs.in_parts.Goals as goal

pub returns : goal.returns
returns c =
    let a = c.args in
    parts_are_scanned a.edition a.sheet.now a.at _ _ _ c.requires c.line-line.ensures.bytes c.classify.ensures c.rest.ensures
