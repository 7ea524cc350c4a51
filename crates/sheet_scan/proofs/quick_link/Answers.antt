-- A letter, two names and numbers that give a capacity are a link line.
use Rattle.std.proofs.Common.{◌≡◌, Ok, sym, ◌∙◌, arith}
use Rattle.sheet_scan.specs.FoundLines.{a_link_is_found}
use Rattle.sheet_scan.proofs.quick_link.Goals as goal

pub returns : goal.returns
returns c =
    let one = c.in_ok-end.ensures in
    let two = c.in_ok-end2.ensures in
    let usable : c.paired-capacity.result ≡ Ok c.in_ok-size.size = grind arith in
    a_link_is_found c.args.edition c.args.sheet.now c.args.at c.in_ok-end.end c.in_ok-end2.end2 _ _ _ _ c.requires one.0 one.1 two.0 two.1
    c.in_ok-numbers.ensures (sym c.paired-capacity.ensures ∙ usable)
