-- `raise`: the next link stands as it was, and gets the amount more.
use Rattle.std.proofs.Common.{◌≡◌, ◌≢◌, ◌+◌, ◌*◌, ℕ, List, ◌∙◌, arith}
use Rattle.std.proofs.Math.Path.{ap}
use Rattle.lists.specs.Numbers.{look}
use Rattle.tree_sets.specs.Members.{member}
use Rattle.tree_sets.specs.declared.Set.{Set}
use Rattle.log_steps.specs.Loads.{raised}
use Rattle.log_steps.proofs.Walks.{walking_start, walking_here, walking_next, walking_end, none-at}
use Rattle.log_steps.proofs.raise.Goals as goal

others : (path : Set) (x : ℕ) (was : List ℕ) (i : ℕ) → member path i ≢ 1 → look was i + x * member path i ≡ look was i
others path x was i d = omega (arith, none-at path x i d)

pub loop-link-init : goal.loop-link-init
loop-link-init c = walking_start _ _ _ c.requires.places (c.into_iter-link-iterator.ensures.into_iter_gives ∙ c.members-link-items.ensures)

pub offset_bounds-load-link : goal.offset_bounds-load-link
offset_bounds-load-link c = omega (arith, (walking_here _ _ _ (others c.args.path c.args.x c.args.load.now) c.loop-link.invariant c.in-Some.ensures.steps).low)

pub bounds-load-link : goal.bounds-load-link
bounds-load-link c = (walking_here _ _ _ (others c.args.path c.args.x c.args.load.now) c.loop-link.invariant c.in-Some.ensures.steps).low

pub bounds-load-link-in-loop-link : goal.bounds-load-link-in-loop-link
bounds-load-link-in-loop-link c = (walking_here _ _ _ (others c.args.path c.args.x c.args.load.now) c.loop-link.invariant c.in-Some.ensures.steps).low

pub overflow_add-load : goal.overflow_add-load
overflow_add-load c =
    let h = walking_here _ _ _ (others c.args.path c.args.x c.args.load.now) c.loop-link.invariant c.in-Some.ensures.steps in
    omega (arith, h.same, c.requires.room c.in-Some.link)

pub loop-link-preserved : goal.loop-link-preserved
loop-link-preserved c =
    let h = walking_here _ _ _ (others c.args.path c.args.x c.args.load.now) c.loop-link.invariant c.in-Some.ensures.steps in
    walking_next _ _ _ (others c.args.path c.args.x c.args.load.now) c.loop-link.invariant c.in-Some.ensures.steps
    (omega (arith, h.same, ap (λ z. c.args.x * z) h.on))

pub returns : goal.returns
unfolding raised
returns c = walking_end _ _ _ (others c.args.path c.args.x c.args.load.now) c.loop-link.invariant c.in-None.ensures.steps.0
