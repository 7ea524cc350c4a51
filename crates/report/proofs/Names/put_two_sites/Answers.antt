-- `put_two_sites` meets its contract: two fields, and one more.
use Rattle.std.proofs.Common.{[], ◌∷◌}
use Rattle.text_writers.specs.Writing.{next_field, room_fields, room_next}
use Rattle.report.specs.Lent.{name_in}
use Rattle.report.proofs.Names.put_two_sites.Goals as goal

pub put_site-next-requires : goal.put_site-next-requires
put_site-next-requires c =
    let name = name_in c.args.self in
    (room_fields c.args.at ((c.args.letter ∷ []) ∷ name c.args.v ∷ []) (name c.args.w) c.requires.0, c.requires.1)

pub put_name-requires : goal.put_name-requires
put_name-requires c =
    let name = name_in c.args.self in
    (room_next ((c.args.letter ∷ []) ∷ name c.args.v ∷ []) (name c.args.w) c.put_site-next.ensures c.requires.0, c.requires.2)

pub returns : goal.returns
returns c = next_field _ _ c.put_site-next.ensures c.put_name.ensures
