-- `exchange` meets its contract: a refusal of the reading is passed on as one of sheet 1; else the second sheet is read.
use Rattle.std.specs.Prelude.{Err}
use Rattle.std.proofs.Common.{sym, ap, ◌∙◌}
use Rattle.model.specs.Edition.{editions}
use Rattle.planner.specs.Taken.{accepted_is_listed, refused_is_read}
use Rattle.exchanges.proofs.Told.{first_refused}
use Rattle.exchanges.proofs.exchange.Goals as goal

pub exchange_second-requires : goal.exchange_second-requires
exchange_second-requires c = accepted_is_listed _ _ c.in-Ok.ensures

pub returns-in-Err : goal.returns-in-Err
returns-in-Err c =
    let a = c.args in
    let e = first_refused editions a.first.now a.second.now a.sizes.now a.sizes2.now _ _ (refused_is_read a.first.now _ c.in-Err.ensures) in
    record {
      told = ap Err c.in_text.ensures ∙ sym (ap (λ p. p.outcome) e);
      left = sym (ap (λ p. p.first) e);
      left2 = sym (ap (λ p. p.second) e);
    }
