-- `fits` meets its contract: below the longest report's length the report is measured. That it fits a buffer with room for the longest is found without an answer.
use Rattle.std.proofs.Common.{leb, zero-add, ap, ◌∙◌}
use Rattle.spans.proofs.fits.Goals as goal

pub returns : goal.returns
returns c = ap (λ k. leb k c.args.room) (c.write_span-length.ensures.next ∙ zero-add _)
