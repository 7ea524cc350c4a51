-- `terminal_sizes` meets its contract: after i sites the terminals among them have their sums.
use Rattle.std.proofs.Common.{◌≡◌, refl, ap, set, ◌∙◌, ℕ, arith}
use Rattle.lists.specs.Numbers.{look}
use Rattle.cuts_groups.specs.Places.{of_terminal, places-none, places-terminal, places_inner}
use Rattle.cuts_groups.proofs.terminal_sizes.Goals as goal
use Rattle.cuts_groups.proofs.terminal_sizes.Goals.{then-ends-x-eq1, else-ends-x-eq1}

pub loop-i-init : goal.loop-i-init
loop-i-init c = (omega arith, c.requires.2 ∙ places-none (of_terminal (look c.args.ends.now) (λ a. look c.args.leaving.now (look c.args.labels.now a))))

pub loop-i-preserved : goal.loop-i-preserved
loop-i-preserved c =
    let a = c.args in
    let l = c.loop-i in
    let sum-at : ℕ → ℕ = λ x. look a.leaving.now (look a.labels.now x) in
    elim c.if-ends-x-eq1.branch [
      | then-ends-x-eq1 w ↦ (
        omega arith,
        w.size-is ∙ ap (λ label. set l.size l.i (look a.leaving.now label)) w.from.ensures ∙ places-terminal (look a.ends.now) sum-at l.i (omega arith) l.invariant.1 w.if-ends-x-eq1.true refl,
      )
      | else-ends-x-eq1 w ↦ (
        omega arith,
        w.size-is ∙ places_inner (look a.ends.now) sum-at l.i (omega arith) l.invariant.1 w.if-ends-x-eq1.false,
      )
    ]

pub returns : goal.returns
returns c =
    let all : c.loop-i.i ≡ c.args.n = omega arith in
    rw all at c.loop-i.invariant.1
