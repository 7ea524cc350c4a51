-- `account`: the plan is entered up to the line at the offset.
use Rattle.std.proofs.Common.{◌-◌, length}
use Rattle.lists.specs.Numbers.{look}
use Rattle.tree.specs.Offer.{links}
use Rattle.sheet_names.specs.Names.{ranges}
use Rattle.plan_accounts.specs.Progress as along
use Rattle.plan_accounts.proofs.account.Given as goal

abbrev pub invariant-loop-given : goal.invariant-loop-given
invariant-loop-given l =
    along.Progress l.sheet (ranges l.starts l.stops 0 l.n) (links l.one l.two) (look l.ends) l.plan l.given l.load l.total l.at l.i

abbrev pub decreases-loop-given : goal.decreases-loop-given
decreases-loop-given l = length l.plan - l.at
