-- `fits` meets its contract: nothing is measured where there is room for the longest report, else the length tells.
use Rattle.std.proofs.Common.{refl, ap, ◌∙◌, arith, leb, zero-add, le-leb}
use Rattle.std.proofs.lemmas.Bool.{lt-leb}
use Rattle.model.specs.Limits.{REPORT}
use Rattle.planner.specs.Fits.{fits}
use Rattle.planner.proofs.fits.Goals as goal

pub returns-then-room-ge-REPORT : goal.returns-then-room-ge-REPORT
unfolding fits
returns-then-room-ge-REPORT c = rw (le-leb REPORT c.args.room (omega arith)) refl

pub returns : goal.returns
unfolding fits
returns c =
    rw (lt-leb REPORT c.args.room (omega arith)) (ap (λ k. leb k c.args.room) (c.write-length.ensures.next ∙ zero-add _))
