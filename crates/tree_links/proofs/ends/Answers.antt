-- `ends`: one place more holds what the rule of an end says.
use Rattle.std.proofs.Common.{suc, refl, sym, ◌∙◌, arith, length-set}
use Rattle.std.proofs.Math.Path.{fun_ext}
use Rattle.std.proofs.Math.Decide.{dec_lt}
use Rattle.std.proofs.Math.ListN.{get_or-eq_default}
use Rattle.std.proofs.Math.Seq.{get_or-set_same, get_or-set_other}
use Rattle.model.specs.Limits.{PLACES}
use Rattle.lists.specs.Sums.{same?, cases}
use Rattle.lists.specs.Places.{look_values, look-zeros}
use Rattle.model.specs.Flows.{end_at, ends}
use Rattle.theory_trees.proofs.Ends.{length-ends}
use Rattle.tree.specs.Offer.{links}
use Rattle.tree_links.proofs.ends.Goals as goal

pub loop-v-init : goal.loop-v-init
loop-v-init c = record { long = refl; so_far = λ x h. absurd (omega arith); behind = λ x h. look-zeros PLACES x }

pub loop-v-preserved : goal.loop-v-preserved
loop-v-preserved c =
    let v = c.loop-v.v in
    let list = c.loop-v.list in
    let new = c.end_at.result in
    let long = c.loop-v.invariant.long in
    record {
      long = length-set list v new ∙ long;
      so_far = λ x h. same? x v
          (λ e. rw e (get_or-set_same list v new 0 (omega arith) ∙ c.end_at.ensures))
          (λ d. get_or-set_other list v x new 0 d ∙ c.loop-v.invariant.so_far x (omega arith));
      behind = λ x h. get_or-set_other list v x new 0 (λ e. omega arith) ∙ c.loop-v.invariant.behind x (omega arith);
    }

pub returns : goal.returns
unfolding ends
returns c =
    let ls = links c.args.one.now c.args.two.now in
    let marks = c.args.marks.now in
    let n = c.args.n in
    fun_ext (λ x. cases (dec_lt x (suc n))
    (λ h. c.loop-v.invariant.so_far x (omega arith) ∙ sym (look_values (end_at ls marks) (suc n) x h))
    (λ h. c.loop-v.invariant.behind x (omega arith) ∙ sym (get_or-eq_default (ends ls n marks) 0 {n = x} (omega (arith, length-ends ls n marks)))))
