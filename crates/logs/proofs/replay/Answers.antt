-- `replay` meets its contract: a refusal of the reading is passed on as one of text 1, and over an accepted sheet's network the log is replayed.
use Rattle.std.specs.Prelude.{Err}
use Rattle.std.proofs.Common.{sym, ap, ◌∙◌}
use Rattle.planner.specs.Taken.{accepted_is_listed}
use Rattle.logs.proofs.OverNetwork.{refused_is_told}
use Rattle.logs.proofs.replay.Goals as goal

pub replay_network-requires : goal.replay_network-requires
replay_network-requires c = accepted_is_listed _ _ (sym c.in-Ok.is ∙ c.read.ensures)

pub returns-in-Err : goal.returns-in-Err
returns-in-Err c =
    let e = refused_is_told c.args.sheet.now c.args.log.now c.args.answers.now _ (sym c.in-Err.is ∙ c.read.ensures) in
    record { told = ap Err c.in_text.ensures ∙ sym (ap (λ p. p.outcome) e); left = sym (ap (λ p. p.list) e) }
