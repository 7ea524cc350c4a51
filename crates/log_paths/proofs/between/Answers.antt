-- `between`: one word more is made in each turn, and all words are the path.
use Rattle.std.proofs.Common.{refl, ◌+◌, ◌*◌, length-set, bit_xor, ◌∙◌, arith, get_or-set_same}
use Rattle.std.proofs.Math.Seq.{get_or-set_other}
use Rattle.model.specs.Limits.{WORDS}
use Rattle.lists.specs.Numbers.{look}
use Rattle.lists.specs.Sums.{same?}
use Rattle.log_paths.proofs.Words.{path_by}
use Rattle.log_paths.proofs.between.Goals as goal

pub loop-q-init : goal.loop-q-init
loop-q-init c = (refl, λ p h. absurd (omega arith))

pub loop-q-preserved : goal.loop-q-preserved
loop-q-preserved c =
    let a = c.args in
    let q = c.loop-q.q in
    let words = c.loop-q.words in
    let long = c.loop-q.invariant.0 in
    let word = bit_xor (look a.rows.now (a.a * WORDS + q)) (look a.rows.now (a.b * WORDS + q)) in (
      length-set words q word ∙ long,
      λ p h. same? p q
          (λ e. rw e (get_or-set_same words q word 0 (omega arith)))
          (λ d. get_or-set_other words q p word 0 d ∙ c.loop-q.invariant.1 p (omega arith)),
    )

pub returns : goal.returns
returns c =
    let a = c.args in
    path_by a.rows.now c.loop-q.words a.a a.b c.loop-q.invariant.0 (λ q h. c.loop-q.invariant.1 q (omega arith))
