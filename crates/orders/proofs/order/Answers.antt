-- `order` meets its contract: a refusal of the reading is passed on, and an accepted sheet's network is ordered.
use Rattle.std.proofs.Common.{sym, ap, ◌∙◌}
use Rattle.planner.specs.Taken.{accepted_is_listed}
use Rattle.orders.specs.Stored.{refused_is_told}
use Rattle.orders.proofs.order.Goals as goal

pub order_network-requires : goal.order_network-requires
order_network-requires c = accepted_is_listed _ _ (sym c.in-Ok.is ∙ c.read.ensures)

pub returns-in-Err : goal.returns-in-Err
returns-in-Err c =
    let e = refused_is_told c.args.sheet.now c.args.list.now _ (sym c.in-Err.is ∙ c.read.ensures) in
    record { told = sym (ap (λ o. o.outcome) e); left = sym (ap (λ o. o.list) e) }
