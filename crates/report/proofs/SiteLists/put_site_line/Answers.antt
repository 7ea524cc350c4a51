-- `put_site_line` meets its contract: two fields, and a name or `-`.
use Rattle.std.proofs.Common.{◌-◌, [], ◌∷◌, arith}
use Rattle.lists.specs.Numbers.{look}
use Rattle.lists.specs.Sums.{pick_same, pick_other}
use Rattle.model.specs.Text.{bytes}
use Rattle.text_writers.specs.Fields.{line}
use Rattle.text_writers.specs.Writing.{line_ended, last_field_lem, room_begun, room_ended}
use Rattle.report.specs.Report.{site_record, site_line, owner_name}
use Rattle.report.specs.Lent.{name_in}
use Rattle.report.proofs.SiteLists.put_site_line.Goals as goal

pub put_site-next-requires : goal.put_site-next-requires
unfolding site_line site_record
put_site-next-requires c =
    let name = name_in c.args.names in
    let owner = look c.args.self.owner.now (c.args.x - 1) in
    (room_begun c.args.at (bytes "N" ∷ name c.args.x ∷ []) (owner_name name owner) [] c.requires.0, c.requires.2)

pub put_letter-requires : goal.put_letter-requires
unfolding site_line site_record owner_name line
put_letter-requires c = room_ended _ (bytes "-") [] c.put_site-next.ensures (rw (pick_same c.if-owner-eq0.true) at c.requires.0)

pub returns-then-owner-eq0 : goal.returns-then-owner-eq0
unfolding site_line site_record owner_name
returns-then-owner-eq0 c =
    rw (pick_same c.if-owner-eq0.true) (line_ended _ _ _ c.put_site-next.ensures (last_field_lem (45 ∷ []) c.put_letter.ensures))

pub put_name-requires : goal.put_name-requires
unfolding site_line site_record owner_name line
put_name-requires c =
    let owner = look c.args.self.owner.now (c.args.x - 1) in
    let some = c.if-owner-eq0.false in (
      room_ended _ (name_in c.args.names owner) [] c.put_site-next.ensures (rw (pick_other some) at c.requires.0),
      c.requires.3.named (c.args.x - 1) (omega arith) some,
    )

pub returns : goal.returns
unfolding site_line site_record owner_name
returns c = rw (pick_other c.if-owner-eq0.false) (line_ended _ _ _ c.put_site-next.ensures (last_field_lem _ c.put_name.ensures))
