-- `plan_charted`: the balanced capacities keep the promise of trimming, so they can be walked, and what is worked out is ready.
use Rattle.std.proofs.Common.{◌≡◌, refl, sym, ap, ◌∙◌, [], ℕ, ◌++◌, List, length, take, drop, arith}
use Rattle.std.proofs.lemmas.List.{length-replicate}
use Rattle.model.specs.Limits.{SITES}
use Rattle.model.specs.Edition.{editions}
use Rattle.model.specs.Pairing.{ordered}
use Rattle.model.specs.Parts.{pair_list_of_parts}
use Rattle.model.specs.Text.{bytes}
use Rattle.model.specs.Trimming.{balanced}
use Rattle.model.specs.declared.Pairs.{Pairs}
use Rattle.lists.specs.Numbers.{look}
use Rattle.tree.specs.Offer.{links}
use Rattle.tree_links.specs.Chains.{offer-placed, offer_limited}
use Rattle.trimming.specs.Promise.{Promise}
use Rattle.cuts_groups.specs.Steps.{owning, owned}
use Rattle.pairing_walk.specs.Visits.{listing, pairs_of}
use Rattle.report.specs.Report.{Plan, report_of}
use Rattle.report.specs.Shown.{shown_by, CanWrite}
use Rattle.planner.specs.Outcome.{Outcome, deliver, planned}
use Rattle.planner.specs.Fits.{ready_is_delivered}
use Rattle.planner.specs.Ready.{TakenApart, Charted, Ready}
use Rattle.planner.specs.Taken.{the_network_is_a_tree_within}
use Rattle.planner.specs.Works.{the_front_keeps_the_promise, the_promised_can_be_walked, pairs_in_order, owned_has_places, what_is_worked_out_is_ready}
use Rattle.planner.proofs.Charts.{charted}
use Rattle.planner.proofs.plan_charted.Goals as goal

-- what is worked out stands ready
ready : {s starting stopping one two c order ends last before : List ℕ} {n : ℕ} (a : TakenApart s starting stopping n one two c)
    → Charted a order ends last before
    → (front : List ℕ) → front ≡ balanced (links one two) n (look ends) c
    → {owner size count : List ℕ} → owning owner size count ≡ owned (links one two) n (look ends) (look c) (look front)
    → {made ps : Pairs} → made ≡ listing (pairs_of n ends one two front)
    → (ps.count ≡ made.count) × (ps.list ≡ ordered (take made.count made.list) ++ drop made.count made.list)
    → Ready s starting stopping (shown_by (bytes "plan") [] s starting stopping n one two c front ends owner size count ps) ps
unfolding pair_list_of_parts
ready {ends = ends} a chart front fits {owner} {size} {count} cuts {made} {ps} walked put =
    let listed = pairs_in_order _ made ps walked put in
    what_is_worked_out_is_ready a front ends (owning owner size count) ps chart.marked fits cuts listed.0 listed.1

module _ {s starting stopping : List ℕ} {p : Plan} {ps : Pairs} where
  writable : Ready s starting stopping p ps → CanWrite s starting stopping p ps
  writable r = r.writable

  delivered : (b : List ℕ) {after : List ℕ} {o : Outcome} → o ≡ (deliver (report_of p) b).outcome → after ≡ (deliver (report_of p) b).buffer
      → Ready s starting stopping p ps → (o ≡ (planned editions s b).outcome) × (after ≡ (planned editions s b).buffer)
  delivered b told left r = let e = ready_is_delivered r b in (told ∙ ap (λ d. d.outcome) e, left ∙ ap (λ d. d.buffer) e)

pub balance-requires : goal.balance-requires
balance-requires c =
    let tree = the_network_is_a_tree_within c.requires.0 in
    (tree, c.args.chart.now.ordered, omega (arith, tree.firsts, tree.few, length-replicate {A = ℕ} SITES 0))

pub slice_bounds-trimmed-end : goal.slice_bounds-trimmed-end
slice_bounds-trimmed-end c =
    let chart = c.args.chart.now in
    sym (the_front_keeps_the_promise c.requires.0 (look chart.ends) (charted c.args.names chart c.requires).marked _ _ c.balance.ensures).1.each

pub cuts_of-requires : goal.cuts_of-requires
cuts_of-requires c =
    let chart = c.args.chart.now in
    let tree = the_network_is_a_tree_within c.requires.0 in
    let promised = the_front_keeps_the_promise c.requires.0 (look chart.ends) (charted c.args.names chart c.requires).marked _ _ c.balance.ensures in
    (tree.few, offer-placed tree, offer_limited tree, promised.1.each, record { owners = refl; sizes = refl; counts = refl })

pub decompose-made-requires : goal.decompose-made-requires
decompose-made-requires c =
    let chart = c.args.chart.now in
    let of-the-network = charted c.args.names chart c.requires in
    let promised = the_front_keeps_the_promise c.requires.0 (look chart.ends) of-the-network.marked _ _ c.balance.ensures in
    let walk = the_promised_can_be_walked c.requires.0 of-the-network _ promised.1 in
    record { tree = walk.tree; balanced = walk.balanced }

pub deliver-requires : goal.deliver-requires
deliver-requires c =
    let chart = c.args.chart.now in
    let of-the-network = charted c.args.names chart c.requires in
    let promised = the_front_keeps_the_promise c.requires.0 (look chart.ends) of-the-network.marked _ _ c.balance.ensures in
    writable (ready c.requires.0 of-the-network _ promised.0 c.cuts_of.ensures c.decompose-made.ensures c.ordered-pairs.ensures)

pub returns : goal.returns
returns c =
    let chart = c.args.chart.now in
    let of-the-network = charted c.args.names chart c.requires in
    let promised = the_front_keeps_the_promise c.requires.0 (look chart.ends) of-the-network.marked _ _ c.balance.ensures in
    let d = delivered _ c.deliver.ensures.told c.deliver.ensures.left
    (ready c.requires.0 of-the-network _ promised.0 c.cuts_of.ensures c.decompose-made.ensures c.ordered-pairs.ensures) in
    record { told = d.0; left = d.1 }
