-- `first_size` meets its contract: a refusal of the reading is passed on, and over an accepted sheet's network the size is shown.
use Rattle.std.proofs.Common.{sym}
use Rattle.planner.specs.Taken.{accepted_is_listed}
use Rattle.sides.proofs.OverNetwork.{refused_is_shown}
use Rattle.sides.proofs.first_size.Goals as goal

pub show_network-requires : goal.show_network-requires
show_network-requires c = accepted_is_listed _ _ c.in-Ok.ensures

pub returns-in-Err : goal.returns-in-Err
returns-in-Err c =
    let a = c.args in
    sym (refused_is_shown a.sheet.now a.name.now a.name2.now _ c.in-Err.ensures)
