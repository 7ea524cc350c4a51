-- `deliver` meets its contract: the report in a buffer that is long enough, else 9.
use Rattle.std.proofs.Common.{sym, ap, ◌∙◌, leb-true, leb-false}
use Rattle.planner.specs.Fits.{too_long, long-enough}
use Rattle.spans.proofs.deliver.Goals as goal

pub returns-then-fits : goal.returns-then-fits
returns-then-fits c =
    let w = c.write_span-length in
    let e = long-enough _ c.args.report.now _ w.result (leb-true _ _ (sym c.fits.ensures ∙ (cc))) w.ensures in
    record { told = sym (ap (λ p. p.outcome) e); left = sym (ap (λ p. p.buffer) e) }

pub returns : goal.returns
returns c =
    let e = too_long _ c.args.report.now (leb-false _ _ (sym c.fits.ensures ∙ (cc))) in
    record { told = sym (ap (λ p. p.outcome) e); left = sym (ap (λ p. p.buffer) e) }
