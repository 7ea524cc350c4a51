-- A letter, a name and byte 10 are a site line.
use Rattle.sheet_scan.specs.FoundLines.{a_site_is_found}
use Rattle.sheet_scan.proofs.quick_site.Goals as goal

pub returns : goal.returns
returns c =
    let name = c.in_ok-end.ensures in
    a_site_is_found c.args.edition c.args.sheet.now c.args.at c.in_ok-end.end c.args.mark c.requires.1 c.requires.0 name.0 name.1
