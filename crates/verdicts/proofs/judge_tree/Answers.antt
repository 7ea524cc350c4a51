-- `judge_tree`: the table of names, the ends and the table of paths are those of the tree; then what the lines come to decides.
use Rattle.std.proofs.Common.{true, ◌≡◌, [], ℕ, List, length, eqb, sym, ap, ◌∙◌, subst, arith}
use Rattle.lists.specs.Numbers.{look}
use Rattle.model.specs.Limits.{SITES}
use Rattle.model.specs.Flows.{ends}
use Rattle.theory_trees.specs.Leaves.{Outer}
use Rattle.theory_trees.proofs.Ends.{unmarked_ends_are_outer}
use Rattle.tree.specs.Offer.{links}
use Rattle.tree.specs.Accepted.{TreeOf}
use Rattle.tree.specs.Links.{length-links}
use Rattle.tree.specs.Steps.{told, denied}
use Rattle.tree.specs.declared.accepted.AcceptedTree.{AcceptedTree}
use Rattle.sheet_names.specs.Names.{ranges}
use Rattle.log_requests.specs.Requests.{requests}
use Rattle.theory_verdicts.specs.HandPlan.{account}
use Rattle.plan_accounts.specs.Progress.{Comes}
use Rattle.plan_accounts.specs.declared.Accounted.{Accounted}
use Rattle.verdicts.specs.Outcome.{judged_as}
use Rattle.verdicts.proofs.Laws.{a_fault_is_the_verdict, an_overload_is_the_verdict, the_total_is_the_verdict}
use Rattle.verdicts.proofs.judge_tree.Goals as goal

pub paths-rows-requires : goal.paths-rows-requires
paths-rows-requires c = c.args.tree.within

-- without marks each end has one link
pub account-accounted-requires : goal.account-accounted-requires
account-accounted-requires c =
    let t = c.args.tree in
    let ls = links t.one.now t.two.now in
    let w = t.within.within in
    let ended = rw c.of.ensures at c.ends-ends.ensures in
    let tree : TreeOf SITES t.sites t.one.now t.two.now = record { tree = w.tree; few = w.few; firsts = w.firsts; seconds = w.seconds } in (
      record { tree = tree; table = c.paths-rows.ensures },
      c.index-table.ensures,
      c.requires.1,
      λ e. subst (Outer ls t.sites) (sym ended) (unmarked_ends_are_outer ls t.sites t.marks.now (told c.unmarked-outer.result c.unmarked-outer.ensures e)),
    )

-- what the lines come to, with the ends of the tree
comes : (t : AcceptedTree) (sheet plan starts stops list : List ℕ) (r : Accounted) → let ls = links t.one.now t.two.now in
    look list ≡ look (ends ls t.sites t.marks.now)
    → Comes ls (account 1 [] (requests true sheet (ranges starts stops 0 t.sites) ls (look list) plan)) r
    → Comes ls (account 1 [] (requests true sheet (ranges starts stops 0 t.sites) ls (look (ends ls t.sites t.marks.now)) plan)) r
comes t sheet plan starts stops list r e f =
    let ls = links t.one.now t.two.now in
    subst (λ (es : ℕ → ℕ). Comes ls (account 1 [] (requests true sheet (ranges starts stops 0 t.sites) ls es plan)) r) e f

-- a capacity for each link
long : (t : AcceptedTree) → length t.capacity.now ≡ length (links t.one.now t.two.now)
long t =
    let w = t.within.within in
    omega (arith, w.firsts, w.seconds, w.capacities, length-links t.one.now t.two.now (omega (arith, w.firsts, w.seconds)))

pub returns-then-accounted-ne0 : goal.returns-then-accounted-ne0
returns-then-accounted-ne0 c =
    let a = c.args in
    let come = comes a.tree a.sheet.now a.plan.now a.starts.now a.stops.now _ c.account-accounted.result (rw c.of.ensures at c.ends-ends.ensures) c.account-accounted.ensures in
    a_fault_is_the_verdict _ _ _ _ c.account-accounted.result _ come (λ e. omega arith)

pub overloaded-requires : goal.overloaded-requires
overloaded-requires c =
    let w = c.args.tree.within.within in
    record { few = omega (arith, w.few, w.capacities); limited = w.limited }

pub returns-then-overloaded : goal.returns-then-overloaded
returns-then-overloaded c =
    let a = c.args in
    let come = comes a.tree a.sheet.now a.plan.now a.starts.now a.stops.now _ c.account-accounted.result (rw c.of.ensures at c.ends-ends.ensures) c.account-accounted.ensures in
    an_overload_is_the_verdict _ _ _ _ c.account-accounted.result (long a.tree) (omega arith) _ come (told c.overloaded.result c.overloaded.ensures c.if-overloaded.true)

pub returns : goal.returns
returns c =
    let a = c.args in
    let come = comes a.tree a.sheet.now a.plan.now a.starts.now a.stops.now _ c.account-accounted.result (rw c.of.ensures at c.ends-ends.ensures) c.account-accounted.ensures in
    ap (λ most. judged_as c.account-accounted.result.total (eqb c.account-accounted.result.total most)) c.largest_total-most.ensures
    ∙ the_total_is_the_verdict _ _ _ _ c.account-accounted.result (long a.tree) (omega arith) _ come
    (denied c.overloaded.result c.overloaded.ensures c.if-overloaded.false)
