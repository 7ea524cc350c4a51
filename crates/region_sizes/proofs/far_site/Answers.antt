-- `far_site`: the second site first.
use Rattle.std.proofs.Common.{◌≡◌, length, sym, ◌∙◌, arith, eqb-true}
use Rattle.std.proofs.lemmas.Bool.{eqb-false}
use Rattle.tree.specs.Links.{length-links, links-two}
use Rattle.region_sizes.specs.Laws.{the_second_is_far, the_first_is_far}
use Rattle.region_sizes.proofs.far_site.Goals as goal

pub lone-requires : goal.lone-requires
lone-requires c =
    let t = c.args.tree in
    let w = t.within.within in
    let pairs : length t.one.now ≡ length t.two.now = omega (arith, w.firsts, w.seconds) in
    let site = (w.tree.ends c.args.link (omega (arith, length-links t.one.now t.two.now pairs))).1 in
    rw (links-two t.one.now t.two.now c.args.link c.requires (omega arith)) at site

pub returns-then-lone : goal.returns-then-lone
returns-then-lone c =
    let t = c.args.tree in
    let w = t.within.within in
    the_second_is_far t.sites t.one.now t.two.now t.marks.now t.capacity.now c.args.link c.requires (omega (arith, w.firsts, w.seconds))
    (eqb-true _ 1 (sym c.lone.ensures ∙ c.if-lone.true))

pub returns : goal.returns
returns c =
    let t = c.args.tree in
    let w = t.within.within in
    the_first_is_far t.sites t.one.now t.two.now t.marks.now t.capacity.now c.args.link c.requires (omega (arith, w.firsts, w.seconds))
    (eqb-false _ 1 (sym c.lone.ensures ∙ c.if-lone.false))
