-- `join` meets its contract, label by label.
use Rattle.std.proofs.Common.{◌≡◌, refl, sym, ap, ◌∙◌, arith, List, ℕ}
use Rattle.std.proofs.lemmas.Bool.{le-ltb, lt-ltb}
use Rattle.lists.specs.Numbers.{look}
use Rattle.model.specs.Flows.{relabel}
use Rattle.tree_labels.specs.Labels.{linked}
use Rattle.tree_labels.specs.LabelPlaces.{linked-sites, partly-at, partly_step, partly-all}
use Rattle.tree_labels.proofs.join.Goals as goal
use Rattle.tree_labels.proofs.join.Goals.{then-labels-one-via-then-labels-one, then-labels-one-via-else-labels-one+then-labels-two}

pub returns-then-labels-one : goal.returns-then-labels-one
unfolding linked
returns-then-labels-one c = elim c.then-labels-one.branch [
  | then-labels-one-via-then-labels-one w ↦ rw (le-ltb _ _ w.if-labels-one.true) refl
  | then-labels-one-via-else-labels-one+then-labels-two w ↦ rw (lt-ltb _ _ w.if-labels-one.false, le-ltb _ _ w.if-labels-two.true) refl
]

pub loop-label-preserved : goal.loop-label-preserved
loop-label-preserved c =
    let labels = c.args.labels.now in
    let f = relabel (look labels c.args.one) (look labels c.args.two) in
    let x = c.loop-label.label-index in
    let here : c.relabel.result ≡ f (look labels x)
    = c.relabel.ensures ∙ ap f (ap (λ (m : List ℕ). look m x) c.loop-label.invariant ∙ partly-at f labels x c.loop-label-test.true) in
    rw (c.loop-label.invariant, here) (partly_step f labels x c.loop-label-test.true)

pub returns : goal.returns
returns c =
    let labels = c.args.labels.now in
    c.loop-label.invariant ∙ partly-all _ labels c.loop-label.label-index (omega arith)
    ∙ sym (linked-sites labels c.args.one c.args.two c.if-labels-one.false c.if-labels-two.false)
