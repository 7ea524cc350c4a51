-- `solve`: the notes of both ways are those of the definition, along the parents that are found.
use Rattle.std.proofs.Common.{◌∙◌, arith}
use Rattle.whole_loads.specs.Ways.{the_ways_are_given, a_child_has_a_place, owners_are_whole, loads_are_whole, odd_pieces_are_counted}
use Rattle.whole_loads.proofs.solve.Goals as goal

pub both_ways-notes-requires : goal.both_ways-notes-requires
both_ways-notes-requires c = the_ways_are_given c.args.order.now c.requires.0 c.requires.1 c.parents_of-up.ensures

pub link_loads-requires : goal.link_loads-requires
link_loads-requires c = (
  omega (arith, c.requires.0.firsts, c.requires.0.few),
  c.requires.3,
  a_child_has_a_place c.args.order.now c.requires.0 c.requires.1 c.parents_of-up.ensures,
  c.both_ways-notes.ensures.small,
)

pub odd_pieces-requires : goal.odd_pieces-requires
odd_pieces-requires c = (the_ways_are_given c.args.order.now c.requires.0 c.requires.1 c.parents_of-up.ensures, c.both_ways-notes.ensures.small)

pub returns : goal.returns
returns c =
    let order = c.args.order.now in
    let P = c.parents_of-up.ensures in
    let F = c.both_ways-notes.ensures in
    record {
      loads = c.link_loads.ensures ∙ loads_are_whole order c.requires.0 c.requires.1 P F c.args.lent.now;
      owners = λ x. c.owners.ensures x ∙ owners_are_whole order c.requires.0 c.requires.1 P F x;
      low = λ x. omega (arith, c.owners.ensures x, (F.small x).owned);
      odd = c.odd_pieces.ensures ∙ odd_pieces_are_counted order c.requires.0 c.requires.1 P F c.requires.2;
    }
