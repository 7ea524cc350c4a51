-- `exchange_second` meets its contract: a refusal of the reading is passed on as one of sheet 2, and over an accepted sheet the networks exchange.
use Rattle.std.specs.Prelude.{Err}
use Rattle.std.proofs.Common.{sym, ap, ◌∙◌}
use Rattle.model.specs.Edition.{editions}
use Rattle.planner.specs.Taken.{accepted_is_listed, refused_is_read}
use Rattle.exchanges.proofs.Told.{second_refused}
use Rattle.exchanges.proofs.exchange_second.Goals as goal

pub exchange_networks-requires : goal.exchange_networks-requires
exchange_networks-requires c = (c.requires, accepted_is_listed _ _ c.in-Ok.ensures)

pub returns-in-Err : goal.returns-in-Err
returns-in-Err c =
    let a = c.args in
    let e = second_refused editions a.first.now a.second.now a.sizes.now a.sizes2.now c.requires.net _ _ c.requires.read
    (refused_is_read a.second.now _ c.in-Err.ensures) in
    record {
      told = ap Err c.in_text.ensures ∙ sym (ap (λ p. p.outcome) e);
      left = sym (ap (λ p. p.first) e);
      left2 = sym (ap (λ p. p.second) e);
    }
