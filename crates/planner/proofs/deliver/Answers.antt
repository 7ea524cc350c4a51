-- `deliver` meets its contract: the report in a buffer that is long enough, else 9.
use Rattle.std.proofs.Common.{sym, ap, ◌∙◌, arith}
use Rattle.planner.specs.Fits.{too_long, long-enough, no_room, room_enough}
use Rattle.planner.proofs.deliver.Goals as goal

pub returns-then-fits : goal.returns-then-fits
returns-then-fits c =
    let b = c.args.report.now in
    let w = c.write-length in
    let long = room_enough _ _ (sym c.fits.ensures ∙ (cc)) (omega (arith, c.requires.room)) in
    let e = long-enough _ b _ w.result long w.ensures in
    record { told = sym (ap (λ p. p.outcome) e); left = sym (ap (λ p. p.buffer) e) }

pub returns : goal.returns
returns c =
    let e = too_long _ c.args.report.now (no_room _ _ (sym c.fits.ensures ∙ (cc))) in
    record { told = sym (ap (λ p. p.outcome) e); left = sym (ap (λ p. p.buffer) e) }
