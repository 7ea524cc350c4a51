-- `span_lists`: what is worked out of the low and of the high sizes, by one chart, is the span, and can be written.
use Rattle.std.proofs.Common.{◌≡◌, ℕ, ◌≤◌, List, length, take, sym, ap, ◌∙◌, arith}
use Rattle.std.proofs.Math.ListN.{length-take}
use Rattle.trimming.specs.Outcome.{capacities}
use Rattle.trimming.specs.Promise.{capacities_keep_the_promise}
use Rattle.spans.specs.Ready.{total_by}
use Rattle.spans.proofs.Ready.{the_front_is_worked_out, the_sum_is_the_largest_total, the_low_tree, the_high_tree, few_firsts}
use Rattle.spans.proofs.Ready.{the_lists_can_be_written, they_are_within_a_report, the_span_is_delivered}
use Rattle.spans.proofs.span_lists.Goals as goal

-- a list has the places of its front
front-has-places : (l : List ℕ) (m : ℕ) → length (take m l) ≡ m → m ≤ length l
front-has-places l m e = omega (arith, length-take m l)

pub invariant_of-tree : goal.invariant_of-tree
invariant_of-tree c = record { within = the_low_tree c.requires }

pub trim-lower-requires : goal.trim-lower-requires
trim-lower-requires c = rw c.of-chart.ensures ((the_low_tree c.requires).within, few_firsts c.requires)

pub trim-upper-requires : goal.trim-upper-requires
trim-upper-requires c = rw c.of-chart.ensures ((the_high_tree c.requires).within, few_firsts c.requires)

pub deliver-requires : goal.deliver-requires
deliver-requires c =
    let w = the_low_tree c.requires in
    let u = the_high_tree c.requires in
    let ended = rw c.of-chart.ensures at c.of-chart.result.ended in
    let e = the_front_is_worked_out w _ ended _ _ (rw c.of-chart.ensures at c.trim-lower.ensures.left) in
    let f = the_front_is_worked_out u _ ended _ _ (rw c.of-chart.ensures at c.trim-upper.ensures.left) in
    let g = (rw c.of-chart.ensures at c.trim-lower.ensures.told) ∙ the_sum_is_the_largest_total w _ ended in
    let h = (rw c.of-chart.ensures at c.trim-upper.ensures.told) ∙ the_sum_is_the_largest_total u _ ended in
    (the_lists_can_be_written c.requires _ _ _ _ e f g h, omega (arith, they_are_within_a_report c.requires _ _ _ _ e f g h))

pub returns : goal.returns
returns c =
    let w = the_low_tree c.requires in
    let u = the_high_tree c.requires in
    let ended = rw c.of-chart.ensures at c.of-chart.result.ended in
    let e = the_front_is_worked_out w _ ended _ _ (rw c.of-chart.ensures at c.trim-lower.ensures.left) in
    let f = the_front_is_worked_out u _ ended _ _ (rw c.of-chart.ensures at c.trim-upper.ensures.left) in
    let g = (rw c.of-chart.ensures at c.trim-lower.ensures.told) ∙ the_sum_is_the_largest_total w _ ended in
    let h = (rw c.of-chart.ensures at c.trim-upper.ensures.told) ∙ the_sum_is_the_largest_total u _ ended in
    let d = the_span_is_delivered c.requires _ _ _ _ e f g h c.args.report.now in
    record { told = c.deliver.ensures.told ∙ ap (λ p. p.outcome) d; left = c.deliver.ensures.left ∙ ap (λ p. p.buffer) d }
