-- `give_by`: the lesser of the two numbers is the shared link's size, and what is trimmed again is summed.
use Rattle.std.proofs.Common.{◌≡◌, ◌++◌, ℕ, List, length, take, drop, set, min, ap, ◌∙◌}
use Rattle.lists.specs.Numbers.{look}
use Rattle.theory_regions.specs.Regions.{first_size}
use Rattle.tree.specs.declared.accepted.AcceptedTree.{AcceptedTree}
use Rattle.region_sizes.specs.Offered.{region_of}
use Rattle.region_sizes.specs.Laws.{the_lesser_is_within, what_is_given}
use Rattle.region_sizes.proofs.give_by.Goals as goal

-- the shared link has the lesser of the two numbers
front : (t : AcceptedTree) (list : List ℕ) (j shown other m : ℕ) → take (length t.capacity.now) list ≡ set t.capacity.now j m → m ≡ min shown other
    → shown ≡ first_size (region_of t) j → take (length t.capacity.now) list ≡ set t.capacity.now j (min (first_size (region_of t) j) other)
front t list j shown other m e f g = e ∙ ap (set t.capacity.now j) (f ∙ ap (λ s. min s other) g)

pub trim-requires : goal.trim-requires
trim-requires c =
    let t = c.args.chart.now.chains.tree in (
      rw (front t _ c.args.link _ c.args.other _ c.resized-list.ensures c.min.ensures c.requires.1) (the_lesser_is_within t.within c.args.link c.args.other c.requires.0),
      c.requires.2,
    )

pub returns : goal.returns
returns c =
    let chart = c.args.chart.now in
    let t = chart.chains.tree in
    let g = what_is_given t.within c.args.link c.args.other c.requires.0 (look chart.ends) _ _ chart.ended c.far_site-far.ensures
    (front t _ c.args.link _ c.args.other _ c.resized-list.ensures c.min.ensures c.requires.1) in
    record { told = c.trim.ensures.told ∙ g.0; left = c.trim.ensures.left ∙ ap (λ l. l ++ drop (length t.one.now) c.args.sizes.now) g.1 }
