-- `overfills`: the search goes on behind a link that has room.
use Rattle.std.proofs.Common.{◌∙◌, arith}
use Rattle.log_paths.specs.Search.{clear_start, clear_on, clear_next, clear_end}
use Rattle.log_steps.proofs.Walks.{small}
use Rattle.log_steps.proofs.overfills.Goals as goal

pub loop-link-init : goal.loop-link-init
loop-link-init c =
    let clear = clear_start _ _ (c.into_iter-link-iterator.ensures.into_iter_gives ∙ c.members-link-items.ensures) in
    (clear, small c.requires clear)

pub loop-link-preserved : goal.loop-link-preserved
loop-link-preserved c =
    let clear = clear_next _ _ c.loop-link.invariant.0 c.in-Some.ensures.steps (λ over. let under = c.if-capacity-link.false in omega arith) in
    (clear, small c.requires clear)

pub returns : goal.returns
returns c =
    λ o. clear_end _ _ c.loop-link.invariant.0 c.in-None.ensures.steps.0 o.link
    (omega (arith, c.requires.few, c.requires.links o.link o.on)) o.on o.over

pub offset_bounds-capacity-link : goal.offset_bounds-capacity-link
offset_bounds-capacity-link c = omega (arith, c.loop-link.invariant.1 c.in-Some.link _ c.in-Some.ensures.steps)

pub bounds-capacity-link : goal.bounds-capacity-link
bounds-capacity-link c = (c.loop-link.invariant.1 c.in-Some.link _ c.in-Some.ensures.steps).link

pub returns-then-capacity-link : goal.returns-then-capacity-link
returns-then-capacity-link c =
    record { link = c.in-Some.link; on = (clear_on _ _ c.loop-link.invariant.0 c.in-Some.ensures.steps).on; over = c.if-capacity-link.true }
