-- `copy` meets its contract: one place more is filled, and at the end all are that the list has.
use Rattle.std.proofs.Common.{◌≡◌, List, ℕ, ◌++◌, refl, ap, ◌∙◌, arith, length, drop, map-id}
use Rattle.lists.specs.Numbers.{look}
use Rattle.tree.specs.Places.{filled, filled_none, filled_next, map_table}
use Rattle.trimming_passes.proofs.copy.Goals as goal

filled_copy : (c l : List ℕ) → filled (look c) (length c) l ≡ c ++ drop (length c) l
unfolding filled
filled_copy c l = ap (λ r. r ++ drop (length c) l) (map_table (λ x. x) c (length c) refl ∙ map-id c)

pub loop-j-init : goal.loop-j-init
loop-j-init c = filled_none (look c.args.from.now) c.args.to.now

pub loop-j-preserved : goal.loop-j-preserved
loop-j-preserved c = filled_next (look c.args.from.now) c.loop-j.j c.args.to.now (omega arith) c.loop-j.invariant refl

pub returns : goal.returns
returns c =
    let from = c.args.from.now in
    let to = c.args.to.now in
    let all : c.loop-j.j ≡ length from = omega arith in
    c.loop-j.invariant ∙ ap (λ j. filled (look from) j to) all ∙ filled_copy from to
