-- `write` meets its contract: six parts, one after the other, and room for the whole has room for each.
use Rattle.text_writers.specs.Writing.{then}
use Rattle.report.specs.Report.{report_of}
use Rattle.report.proofs.Parts.{head_room, links_room, sites_room, cuts_room, before_room, pairs_room, first_paired}
use Rattle.report.proofs.write.Goals as goal

pub heading-head-requires : goal.heading-head-requires
heading-head-requires c = (head_room c.requires, c.requires.small)

pub put_lines-links-requires : goal.put_lines-links-requires
put_lines-links-requires c = (links_room c.requires c.heading-head.ensures, c.requires.linked)

pub put_site_lines-sites-requires : goal.put_site_lines-sites-requires
put_site_lines-sites-requires c =
    let links = then c.heading-head.ensures c.put_lines-links.ensures in
    (sites_room c.requires links, c.requires.named, c.requires.owned)

pub put_cut_lines-cuts-requires : goal.put_cut_lines-cuts-requires
put_cut_lines-cuts-requires c =
    let links = then c.heading-head.ensures c.put_lines-links.ensures in
    let sites = then links c.put_site_lines-sites.ensures in
    (cuts_room c.requires sites, c.requires.named, (c.requires.few, c.requires.sized, c.requires.counted))

pub put_part-next-requires : goal.put_part-next-requires
put_part-next-requires c =
    let links = then c.heading-head.ensures c.put_lines-links.ensures in
    let sites = then links c.put_site_lines-sites.ensures in
    before_room c.requires (then sites c.put_cut_lines-cuts.ensures)

pub put_pairs-requires : goal.put_pairs-requires
put_pairs-requires c =
    let links = then c.heading-head.ensures c.put_lines-links.ensures in
    let sites = then links c.put_site_lines-sites.ensures in
    let cuts = then sites c.put_cut_lines-cuts.ensures in
    (pairs_room c.requires (then cuts c.put_part-next.ensures), first_paired c.requires.paired)

pub returns : goal.returns
unfolding report_of
returns c =
    let links = then c.heading-head.ensures c.put_lines-links.ensures in
    let sites = then links c.put_site_lines-sites.ensures in
    let cuts = then sites c.put_cut_lines-cuts.ensures in
    then (then cuts c.put_part-next.ensures) c.put_pairs.ensures
