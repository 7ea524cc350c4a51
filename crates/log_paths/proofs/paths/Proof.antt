-- `paths` meets its contract: the rows are made along the elimination order, from its last site outward.
use mathlib.Core.Path.{◌≡◌, ap, ◌∙◌}
use native.Mathlib.Omega.{arith}
use borrow.Author.Rules.{rules}
use lib.ListN.{take}
use Rattle.model.specs.Edition.{largest}
use Rattle.model.specs.Trimming.{elimination}
use Rattle.tree.specs.Offer.{links}
use Rattle.tree.specs.Accepted.{eliminated_in_order, a_tree_within_the_limits_is_accepted}
use Rattle.log_paths.proofs.Spreading.{children-apart, child-low, outward_order, table}
use Rattle.log_paths.proofs.paths.Statement.{statement}
use Rattle.log_paths.proofs.paths.Tie as tie

-- the first n sites of the answer are the elimination order
ordered : (c : tie.After-eliminate-tree) → let a = c.before.before.before.before.before.args in
    take a.n c.eliminate-tree.result.sites ≡ elimination (links a.one.now a.two.now) a.n
ordered c =
    let s = c.before.before.before.before.before in
    let a = s.args in
    ap (λ r. take a.n r.sites) c.eliminate-tree.ensures
    ∙ eliminated_in_order a.n a.one.now a.two.now a.marks.now a.capacity.now
    (a_tree_within_the_limits_is_accepted largest _ _ _ _ _ s.requires)

parents-of-requires : tie.Need-parents_of-parents-requires
parents-of-requires c κs = (c.before.before.before.before.before.before.before.requires.within, ordered c.before.before)

links-up-requires : tie.Need-links_up-up-requires
links-up-requires c κs =
    let told = c.before.before.before in
    let first = told.before.before.before in
    let w = first.before.before.before.before.before.requires.within in (
      omega (arith, w.few, w.firsts),
      child-low first.eliminate-tree.result.sites w (ordered first) told.parents_of-parents.ensures,
      children-apart first.eliminate-tree.result.sites w (ordered first) told.parents_of-parents.ensures,
    )

outward-requires : tie.Need-outward-requires
outward-requires c κs =
    let told = c.before.before.before.before.before.before.before in
    let first = told.before.before.before in
    let w = first.before.before.before.before.before.requires.within in
    outward_order first.eliminate-tree.result.sites w (ordered first) told.parents_of-parents.ensures c.before.before.before.links_up-up.ensures

returns : tie.Need-returns
returns c =
    let told = c.before.before.before.before.before.before.before.before in
    let first = told.before.before.before in
    let w = first.before.before.before.before.before.requires.within in
    let up = c.before.before.before.before.links_up-up in
    table first.eliminate-tree.result.sites w (ordered first) told.parents_of-parents.ensures up.ensures c.outward.ensures

pub paths_spec : {M : Type 1} → statement M
paths_spec = tie.close (tie.spec (λ c κs. search rules) parents-of-requires links-up-requires outward-requires returns)
