-- `answer` meets its contract: a refusal of the reading is passed on, and over an accepted sheet's network the answer is given.
use Rattle.std.proofs.Common.{sym, ap}
use Rattle.planner.specs.Taken.{accepted_is_listed}
use Rattle.sides.proofs.OverNetwork.{refused_is_told}
use Rattle.sides.proofs.answer.Goals as goal

pub answer_network-requires : goal.answer_network-requires
answer_network-requires c = accepted_is_listed _ _ c.in-Ok.ensures

pub returns-in-Err : goal.returns-in-Err
returns-in-Err c =
    let a = c.args in
    let e = refused_is_told a.sheet.now a.name.now a.name2.now a.number a.sizes.now _ c.in-Err.ensures in
    record { told = sym (ap (λ p. p.outcome) e); left = sym (ap (λ p. p.list) e) }
