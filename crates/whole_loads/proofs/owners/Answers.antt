-- `owners`: one owner more.
use Rattle.std.proofs.Common.{refl, sym, ap, ◌∙◌, arith, length-set, get_or-set_same, get_or-set_other}
use Rattle.std.proofs.Math.Decide.{dec_lt}
use Rattle.std.proofs.Math.ListN.{get_or-eq_default}
use Rattle.model.specs.Limits.{PLACES}
use Rattle.lists.specs.Sums.{same?, cases}
use Rattle.lists.specs.Places.{look-zeros}
use Rattle.whole_notes.specs.Notes.{note, blank}
use Rattle.whole_loads.proofs.owners.Goals as goal

pub loop-x-init : goal.loop-x-init
loop-x-init c = record { places = refl; told = λ i h. absurd (omega arith); ahead = λ i h. look-zeros PLACES i }

pub loop-x-preserved : goal.loop-x-preserved
loop-x-preserved c =
    let now = c.loop-x in
    let new = (note c.args.notes.now now.x).owner in
    record {
      places = length-set now.owner now.x new ∙ now.invariant.places;
      told = λ i h. same? i now.x
          (λ e. rw e (get_or-set_same now.owner now.x new 0 (omega arith)))
          (λ d. get_or-set_other now.owner now.x i new 0 d ∙ now.invariant.told i (omega arith));
      ahead = λ i h. get_or-set_other now.owner now.x i new 0 (λ e. omega arith) ∙ now.invariant.ahead i (omega arith);
    }

pub returns : goal.returns
returns c = λ x. cases (dec_lt x PLACES)
    (λ h. c.loop-x.invariant.told x (omega arith))
    (λ h. c.loop-x.invariant.ahead x (omega arith)
    ∙ ap (λ e. e.owner) (sym (get_or-eq_default c.args.notes.now blank {n = x} (omega arith))))
