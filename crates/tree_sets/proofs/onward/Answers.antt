-- The walk at the next member: the lowest member that is left is taken out of its word, and where none is left the later words are looked at.
use Rattle.std.proofs.Common.{rules, Fits, w64}
use Rattle.tree_sets.specs.Walks.{within}
use Rattle.tree_sets.proofs.Standing.{onward-here, onward-later}
use Rattle.tree_sets.proofs.onward.Goals as goal

pub returns-then-left-ne0 : goal.returns-then-left-ne0
returns-then-left-ne0 c =
    let w = c.args.w in
    let fits : Fits w64 w.left = search rules in
    rw c.lowest.ensures (onward-here (within c.args.words.now) w c.requires fits.fits c.if-left-ne0.true)

pub returns : goal.returns
returns c = onward-later (within c.args.words.now) c.args.w c.requires c.if-left-ne0.false c.later.ensures
