-- `sharing`: the tests of the definition one by one. The test of the names in common is left to `omega`: it finds it among the facts.
use Rattle.std.proofs.Common.{ℕ, ◌≤◌, ◌<◌, length, sym, ◌∙◌, arith}
use Rattle.lists.specs.Numbers.{look}
use Rattle.model.specs.Flows.{Site}
use Rattle.model.specs.Limits.{SITES}
use Rattle.tree.specs.declared.accepted.AcceptedTree.{AcceptedTree}
use Rattle.tree_links.specs.Chains.{offer-placed}
use Rattle.region_sharing.specs.Laws.{sites_of_the_link, partners_of_the_sites, not_two_names, no_first_link, no_second_link, other-size}
use Rattle.region_sharing.specs.Laws.{with_far_sites, without-far-sites}
use Rattle.region_sharing.proofs.sharing.Goals as goal

pub returns-then-commons-ne2 : goal.returns-then-commons-ne2
returns-then-commons-ne2 c = let a = c.args in not_two_names a.tree.within a.tree2.within (look a.partners.now) (λ e. omega arith)

pub shared_first-first-requires : goal.shared_first-first-requires
shared_first-first-requires c = offer-placed c.args.tree.within.within

pub returns-then-first-tree : goal.returns-then-first-tree
returns-then-first-tree c =
    let a = c.args in
    let p = look a.partners.now in
    no_first_link a.tree.within a.tree2.within p (omega arith) c.shared_first-first.result c.shared_first-first.ensures (omega arith)

-- the sites of a link have partners' places
here : (t t2 : AcceptedTree) (p : ℕ → ℕ) (j : ℕ) → j < length t.one.now
    → (Site t.sites (look t.one.now j) × Site t.sites (look t.two.now j)) × (t.sites ≤ SITES)
here t t2 p j h = (sites_of_the_link t.within t2.within p j h, omega (arith, t.within.within.few))

pub offset_bounds-partners-x : goal.offset_bounds-partners-x
offset_bounds-partners-x c = let a = c.args in omega (arith, here a.tree a.tree2 (look a.partners.now) c.shared_first-first.result (omega arith))

pub bounds-partners-x : goal.bounds-partners-x
bounds-partners-x c = let a = c.args in omega (arith, here a.tree a.tree2 (look a.partners.now) c.shared_first-first.result (omega arith))

pub offset_bounds-partners-y : goal.offset_bounds-partners-y
offset_bounds-partners-y c = let a = c.args in omega (arith, here a.tree a.tree2 (look a.partners.now) c.shared_first-first.result (omega arith))

pub bounds-partners-y : goal.bounds-partners-y
bounds-partners-y c = let a = c.args in omega (arith, here a.tree a.tree2 (look a.partners.now) c.shared_first-first.result (omega arith))

pub returns-then-second-tree2 : goal.returns-then-second-tree2
returns-then-second-tree2 c =
    let a = c.args in
    no_second_link a.tree.within a.tree2.within (look a.partners.now) (omega arith) c.shared_first-first.result c.shared_first-first.ensures (omega arith)
    c.shared_second-second.result c.shared_second-second.ensures (omega arith)

pub returns-then-tree-first : goal.returns-then-tree-first
returns-then-tree-first c =
    let a = c.args in
    other-size a.tree.within a.tree2.within (look a.partners.now) (omega arith) c.shared_first-first.result c.shared_first-first.ensures (omega arith)
    c.shared_second-second.result c.shared_second-second.ensures (omega arith) c.if-tree-first.true

pub far_sites-requires : goal.far_sites-requires
far_sites-requires c =
    let a = c.args in
    let s = (here a.tree a.tree2 (look a.partners.now) c.shared_first-first.result (omega arith)).0 in
    let p = partners_of_the_sites a.tree.within a.tree2.within (look a.partners.now) c.shared_first-first.result (omega arith) c.requires
    c.shared_first-first.ensures in
    (s.0, s.1, p.0, p.1)

pub returns-then-far_sites : goal.returns-then-far_sites
returns-then-far_sites c =
    let a = c.args in
    with_far_sites a.tree.within a.tree2.within (look a.partners.now) (omega arith) c.shared_first-first.result c.shared_first-first.ensures (omega arith)
    c.shared_second-second.result c.shared_second-second.ensures (omega arith) c.if-tree-first.false (sym c.far_sites.ensures ∙ c.if-far_sites.true)

pub returns : goal.returns
returns c =
    let a = c.args in
    without-far-sites a.tree.within a.tree2.within (look a.partners.now) (omega arith) c.shared_first-first.result c.shared_first-first.ensures (omega arith)
    c.shared_second-second.result c.shared_second-second.ensures (omega arith) c.if-tree-first.false (sym c.far_sites.ensures ∙ c.if-far_sites.false)
