-- `crossed`: each link of the path lies between two sites that have places, and the search goes on where neither is another end.
use Rattle.std.proofs.Common.{◌≡◌, sym, ◌∙◌, arith}
use borrow.Author.Tests.{eqb-true, eqb-false}
use Rattle.lists.specs.Numbers.{look}
use Rattle.model.specs.Parts.{another}
use Rattle.theory_trees.specs.FreePairs.{another-none}
use Rattle.log_paths.specs.Search.{clear_start, clear_on, clear_next, clear_end}
use Rattle.log_ends.proofs.Crossings.{sites-low, placed, met, met-none}
use Rattle.log_ends.proofs.crossed.Goals as goal

pub between-path-requires : goal.between-path-requires
between-path-requires c = let s = c.requires in sites-low s.0 s.1 s.2

pub loop-link-init : goal.loop-link-init
loop-link-init c =
    let s = c.requires in
    let path = c.between-path.result in
    let by = c.between-path.ensures in
    let clear = clear_start path _ (c.into_iter-link-iterator.ensures.into_iter_gives ∙ c.members-link-items.ensures) in
    (path, by, clear, λ j more e. placed s.0 s.1 s.2 path by j (clear_on _ _ clear e).on)

pub offset_bounds-one-link : goal.offset_bounds-one-link
offset_bounds-one-link c = omega (arith, c.loop-link.invariant.3 c.in-Some.link _ c.in-Some.ensures.steps)

pub bounds-one-link : goal.bounds-one-link
bounds-one-link c = (c.loop-link.invariant.3 c.in-Some.link _ c.in-Some.ensures.steps).first

pub returns-then-another : goal.returns-then-another
returns-then-another c =
    let s = c.requires in
    let i = c.loop-link.invariant in
    let a = c.args in
    let it = eqb-true (another (look a.ends.now) a.a a.b (look a.one.now c.in-Some.link)) 1 (sym c.another.ensures ∙ c.if-another.true) in
    met s.0 s.1 s.2 i.0 i.1 a.ends.now c.in-Some.link (clear_on _ _ i.2 c.in-Some.ensures.steps).on (λ z. omega (arith, z, it))

pub returns-then-another-2 : goal.returns-then-another-2
returns-then-another-2 c =
    let s = c.requires in
    let i = c.loop-link.invariant in
    let a = c.args in
    let it = eqb-true (another (look a.ends.now) a.a a.b (look a.two.now c.in-Some.link)) 1 (sym c.another-in-loop-link.ensures ∙ c.if-another-2.true) in
    met s.0 s.1 s.2 i.0 i.1 a.ends.now c.in-Some.link (clear_on _ _ i.2 c.in-Some.ensures.steps).on (λ z. omega (arith, z, it))

pub loop-link-preserved : goal.loop-link-preserved
loop-link-preserved c =
    let s = c.requires in
    let i = c.loop-link.invariant in
    let a = c.args in
    let t = look a.ends.now in
    let j = c.in-Some.link in
    let one : another t a.a a.b (look a.one.now j) ≡ 0 = another-none t a.a a.b (look a.one.now j)
    (eqb-false _ 1 (sym c.another.ensures ∙ c.if-another.false)) in
    let two : another t a.a a.b (look a.two.now j) ≡ 0 = another-none t a.a a.b (look a.two.now j)
    (eqb-false _ 1 (sym c.another-in-loop-link.ensures ∙ c.if-another-2.false)) in
    let clear = clear_next _ _ i.2 c.in-Some.ensures.steps (λ d. d (omega arith)) in
    (i.0, i.1, clear, λ j more e. placed s.0 s.1 s.2 i.0 i.1 j (clear_on _ _ clear e).on)

pub returns : goal.returns
returns c =
    let s = c.requires in
    let i = c.loop-link.invariant in
    met-none s.0 s.1 s.2 i.0 i.1 c.args.ends.now (clear_end _ _ i.2 c.in-None.ensures.steps.0)
