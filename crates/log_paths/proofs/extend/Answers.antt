-- `extend`: the words of the near row are read as they were, since the two rows lie apart.
use Rattle.std.proofs.Common.{◌≡◌, ◌+◌, ◌*◌, bit_xor, arith}
use Rattle.std.proofs.Math.Path.{ap₂}
use Rattle.std.proofs.Math.Decide.{dec_lt}
use Rattle.model.specs.Limits.{WORDS}
use Rattle.lists.specs.Numbers.{look}
use Rattle.lists.specs.Sums.{cases}
use Rattle.log_paths.proofs.Words.{patch_start, patch_next, patch_extended}
use Rattle.log_paths.proofs.extend.Goals as goal

pub loop-q-init : goal.loop-q-init
loop-q-init c = patch_start _ _ _

pub loop-q-preserved : goal.loop-q-preserved
loop-q-preserved c =
    let a = c.args in
    let l = c.loop-q in
    let place = a.near * WORDS + l.q in
    let same : look l.rows place ≡ look a.rows.now place = cases (dec_lt a.near a.far)
    (λ z. l.invariant.low place (omega arith))
    (λ z. let d = c.requires.3 in l.invariant.high place (omega arith)) in
    patch_next l.invariant (omega arith) (ap₂ bit_xor same c.single_word.ensures)

pub returns : goal.returns
returns c =
    let a = c.args in
    let e : c.loop-q.q ≡ WORDS = omega arith in
    patch_extended a.near a.far a.j a.rows.now c.loop-q.rows (rw e at c.loop-q.invariant)
