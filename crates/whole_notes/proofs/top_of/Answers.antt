-- `top_of` meets its contract, by its tests.
use Rattle.std.proofs.Common.{◌≡◌, ◌≢◌, refl, arith}
use Rattle.std.proofs.Math.Logic.{if_pos, if_neg}
use Rattle.std.proofs.Math.Decide.{dec_lt}
use Rattle.lists.specs.Sums.{pick_same, pick_other}
use Rattle.model.specs.WholeLoads.{new_top}
use Rattle.whole_notes.proofs.top_of.Goals as goal

pub returns-then-p-eq0 : goal.returns-then-p-eq0
unfolding new_top
returns-then-p-eq0 c =
    let none : c.args.p ≡ 0 = omega arith in
    rw (pick_same none) refl

pub returns-then-terminal-eq1 : goal.returns-then-terminal-eq1
unfolding new_top
returns-then-terminal-eq1 c =
    let site : c.args.p ≢ 0 = omega arith in
    let terminal : c.args.terminal ≡ 1 = omega arith in
    rw (pick_other site, pick_same terminal) refl

pub returns-then-old-eq0 : goal.returns-then-old-eq0
unfolding new_top
returns-then-old-eq0 c =
    let site : c.args.p ≢ 0 = omega arith in
    let joint : c.args.terminal ≢ 1 = omega arith in
    let first : c.args.old ≡ 0 = omega arith in
    rw (pick_other site, pick_other joint, pick_same first) refl

pub returns-then-was-new : goal.returns-then-was-new
unfolding new_top
returns-then-was-new c =
    let a = c.args in
    let site : a.p ≢ 0 = omega arith in
    let joint : a.terminal ≢ 1 = omega arith in
    let another : a.old ≢ 0 = omega arith in
    rw (pick_other site, pick_other joint, pick_other another, if_pos (dec_lt a.was a.new) (omega arith)) refl

pub returns-else-was-new : goal.returns-else-was-new
unfolding new_top
returns-else-was-new c =
    let a = c.args in
    let site : a.p ≢ 0 = omega arith in
    let joint : a.terminal ≢ 1 = omega arith in
    let another : a.old ≢ 0 = omega arith in
    rw (pick_other site, pick_other joint, pick_other another, if_neg (dec_lt a.was a.new) (λ h. omega arith)) refl
