-- `links_up`: link j is put at its child, where no other link stands.
use Rattle.std.proofs.Common.{◌≡◌, refl, length-set, sym, ◌∙◌, arith, get_or-set_same}
use Rattle.std.proofs.Math.Seq.{get_or-set_other}
use Rattle.model.specs.Limits.{PLACES}
use Rattle.lists.specs.Numbers.{look}
use Rattle.lists.specs.Places.{look-zeros}
use Rattle.lists.specs.Sums.{same?}
use Rattle.log_paths.proofs.links_up.Goals as goal

pub loop-j-init : goal.loop-j-init
loop-j-init c = (refl, record { each = λ i l. absurd (omega arith); others = λ x d. look-zeros PLACES x; low = λ x. omega (arith, look-zeros PLACES x) })

pub loop-j-preserved : goal.loop-j-preserved
loop-j-preserved c =
    let child = c.args.child.now in
    let up = c.loop-j.up in
    let j = c.loop-j.j in
    let here = look child j in
    let w = c.loop-j.invariant.1 in
    let low = c.requires.1 j (omega arith) in
    let long = c.loop-j.invariant.0 in (
      length-set up here j ∙ long,
      record {
        each = λ i l. same? i j
            (λ e. rw e (get_or-set_same up here j 0 (omega arith)))
            (λ d. get_or-set_other up here (look child i) j 0 (λ e. d (c.requires.2 i j (omega arith) (omega arith) e)) ∙ w.each i (omega arith));
        others = λ x d. get_or-set_other up here x j 0 (λ e. d j (omega arith) (sym e)) ∙ w.others x (λ i l. d i (omega arith));
        low = λ x. same? x here
            (λ e. rw (e, get_or-set_same up here j 0 (omega arith)) (omega arith))
            (λ d. rw (get_or-set_other up here x j 0 d) (omega (arith, w.low x)));
      },
    )

pub returns : goal.returns
returns c =
    let all : c.loop-j.j ≡ c.args.links = omega arith in
    rw all at c.loop-j.invariant.1
