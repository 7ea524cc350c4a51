-- `whole_charted`: the loads taken are the largest, so they can be walked, and what is worked out is ready.
use Rattle.std.proofs.Common.{◌≡◌, ℕ, ◌≤◌, List, ◌++◌, length, take, drop, refl, ap, ◌∙◌, arith}
use Rattle.std.proofs.Math.Path.{fun_ext}
use Rattle.std.proofs.lemmas.List.{length-replicate}
use Rattle.model.specs.Limits.{SITES}
use Rattle.model.specs.Pairing.{ordered}
use Rattle.model.specs.Parts.{pair_list_of_parts}
use Rattle.model.specs.Text.{bytes}
use Rattle.model.specs.declared.Pairs.{Pairs}
use Rattle.lists.specs.Numbers.{look}
use Rattle.text_writers.specs.Wrote.{Wrote}
use Rattle.tree.specs.Offer.{links}
use Rattle.tree_links.specs.Chains.{offer-placed, offer_limited}
use Rattle.whole_loads.specs.Solved.{Solved}
use Rattle.cuts_groups.specs.Steps.{owning, sets_of}
use Rattle.pairing_walk.specs.Visits.{listing, pairs_of}
use Rattle.report.specs.Report.{Plan, report_of, odd_line, whole_report}
use Rattle.report.specs.Shown.{shown_by, CanWrite}
use Rattle.model.specs.Edition.{editions}
use Rattle.planner.specs.Outcome.{Outcome, deliver, planned_whole}
use Rattle.planner.specs.Fits.{ready_is_delivered}
use Rattle.planner.specs.Ready.{TakenApart, Charted, ReadyBy}
use Rattle.planner.specs.Taken.{the_network_is_a_tree_within}
use Rattle.planner.specs.Works.{pairs_in_order}
use Rattle.planner.proofs.Charts.{charted}
use Rattle.planner.specs.WholeWorks.{every_leaf_is_an_end, whole_loads_can_be_walked, the_front_is_the_loads, the_labels_are_end_sets}
use Rattle.planner.specs.WholeWorks.{the_text_stands_at_the_front, whole_circuits_are_ready}
use Rattle.planner.proofs.whole_charted.Goals as goal

-- what is worked out stands ready
ready : {s starting stopping one two c order ends last before : List ℕ} {n : ℕ} (a : TakenApart s starting stopping n one two c)
    → Charted a order ends last before
    → {lent loads labels : List ℕ} {odd : ℕ} → Solved (links one two) n (look ends) (look c) lent loads labels odd
    → {owner size count : List ℕ} → owning owner size count ≡ sets_of (links one two) n (look ends) (look c) (look labels)
    → {made ps : Pairs} → made ≡ listing (pairs_of n ends one two (take (length one) loads))
    → (ps.count ≡ made.count) × (ps.list ≡ ordered (take made.count made.list) ++ drop made.count made.list)
    → {blank line : List ℕ} {r : ℕ} → Wrote blank 0 (odd_line odd) line r → r ≤ length blank
    → ReadyBy whole_report s starting stopping
    (shown_by (bytes "whole") (take r line) s starting stopping n one two c (take (length one) loads) ends owner size count ps) ps
unfolding pair_list_of_parts
ready {one = one} {two = two} {c = c} {ends = ends} {n = n} a chart solved {owner} {size} {count} sets {made} {ps} walked put wrote room =
    let listed = pairs_in_order _ made ps walked put in
    whole_circuits_are_ready a _ ends (owning owner size count) _ ps chart.marked (the_front_is_the_loads a chart _ _ solved.loads)
    (sets ∙ ap (sets_of (links one two) n (look ends) (look c)) (fun_ext solved.owners))
    (the_text_stands_at_the_front wrote room ∙ ap odd_line solved.odd) listed.0 listed.1

module _ {s starting stopping : List ℕ} {p : Plan} {ps : Pairs} where
  writable : ReadyBy whole_report s starting stopping p ps → CanWrite s starting stopping p ps
  writable r = r.writable

  delivered : (b : List ℕ) {after : List ℕ} {o : Outcome} → o ≡ (deliver (report_of p) b).outcome → after ≡ (deliver (report_of p) b).buffer
      → ReadyBy whole_report s starting stopping p ps → (o ≡ (planned_whole editions s b).outcome) × (after ≡ (planned_whole editions s b).buffer)
  delivered b told left r = let e = ready_is_delivered r b in (told ∙ ap (λ d. d.outcome) e, left ∙ ap (λ d. d.buffer) e)

pub solve-odd-requires : goal.solve-odd-requires
solve-odd-requires c =
    let a = c.requires.0 in
    let chart = charted c.args.names c.args.chart.now c.requires in
    let tree = the_network_is_a_tree_within a in
    (tree, chart.ordered, every_leaf_is_an_end a chart, omega (arith, tree.firsts, tree.few, length-replicate {A = ℕ} SITES 0))

pub sets_of-requires : goal.sets_of-requires
sets_of-requires c =
    let a = c.requires.0 in
    let chart = charted c.args.names c.args.chart.now c.requires in
    let tree = the_network_is_a_tree_within a in
    let sets = the_labels_are_end_sets a chart c.solve-odd.new.owner c.solve-odd.ensures.owners in
    (tree.few, offer-placed tree, offer_limited tree, sets, c.solve-odd.ensures.low, record { owners = refl; sizes = refl; counts = refl })

pub decompose-made-requires : goal.decompose-made-requires
decompose-made-requires c =
    let a = c.requires.0 in
    let chart = charted c.args.names c.args.chart.now c.requires in
    let walk = (whole_loads_can_be_walked a chart _ (the_front_is_the_loads a chart _ _ c.solve-odd.ensures.loads)).1 in
    record { tree = walk.tree; balanced = walk.balanced }

-- what the sets are is found by `cc`

pub deliver-requires : goal.deliver-requires
deliver-requires c =
    let line = c.write_odd-length.ensures in
    writable (ready c.requires.0 (charted c.args.names c.args.chart.now c.requires) c.solve-odd.ensures (cc) c.decompose-made.ensures c.ordered-pairs.ensures line.0 (omega (arith, line.1)))

pub returns : goal.returns
returns c =
    let line = c.write_odd-length.ensures in
    let d = delivered _ c.deliver.ensures.told c.deliver.ensures.left
    (ready c.requires.0 (charted c.args.names c.args.chart.now c.requires) c.solve-odd.ensures (cc) c.decompose-made.ensures c.ordered-pairs.ensures line.0 (omega (arith, line.1))) in
    record { told = d.0; left = d.1 }
