-- `size_lines` meets its contract: a turn writes the line of one link more.
use Rattle.std.proofs.Common.{◌≡◌, ◌<◌, arith}
use Rattle.lists.specs.Numbers.{look}
use Rattle.region_report.specs.Laws.{links_are_few, sites_are_few, ends_of_link, its-name-is-short, one_line_more, no_line_yet, lines_of_a_sheet}
use Rattle.region_report.proofs.size_lines.Goals as goal

pub loop-j-init : goal.loop-j-init
loop-j-init c = (omega arith, no_line_yet _ _ _ _ _ _)

pub offset_bounds-network-j : goal.offset_bounds-network-j
offset_bounds-network-j c = omega (arith, links_are_few c.requires.0)

pub bounds-network-j : goal.bounds-network-j
bounds-network-j c = omega (arith, links_are_few c.requires.0)

pub overflow_sub-v : goal.overflow_sub-v
overflow_sub-v c = omega (arith, sites_are_few c.requires.0, ends_of_link c.requires.0 c.loop-j.j (omega arith))

pub offset_bounds-network-j-in-loop-j : goal.offset_bounds-network-j-in-loop-j
offset_bounds-network-j-in-loop-j c = omega (arith, links_are_few c.requires.0)

pub bounds-network-j-in-loop-j : goal.bounds-network-j-in-loop-j
bounds-network-j-in-loop-j c = omega (arith, links_are_few c.requires.0)

pub overflow_sub-w : goal.overflow_sub-w
overflow_sub-w c = omega (arith, sites_are_few c.requires.0, ends_of_link c.requires.0 c.loop-j.j (omega arith))

pub offset_bounds-network-v : goal.offset_bounds-network-v
offset_bounds-network-v c = omega (arith, sites_are_few c.requires.0, ends_of_link c.requires.0 c.loop-j.j (omega arith))

pub bounds-network-v : goal.bounds-network-v
bounds-network-v c = omega (arith, sites_are_few c.requires.0, ends_of_link c.requires.0 c.loop-j.j (omega arith))

pub offset_bounds-network-v-in-loop-j : goal.offset_bounds-network-v-in-loop-j
offset_bounds-network-v-in-loop-j c = omega (arith, sites_are_few c.requires.0, ends_of_link c.requires.0 c.loop-j.j (omega arith))

pub bounds-network-v-in-loop-j : goal.bounds-network-v-in-loop-j
bounds-network-v-in-loop-j c = omega (arith, sites_are_few c.requires.0, ends_of_link c.requires.0 c.loop-j.j (omega arith))

pub offset_bounds-network-w : goal.offset_bounds-network-w
offset_bounds-network-w c = omega (arith, sites_are_few c.requires.0, ends_of_link c.requires.0 c.loop-j.j (omega arith))

pub bounds-network-w : goal.bounds-network-w
bounds-network-w c = omega (arith, sites_are_few c.requires.0, ends_of_link c.requires.0 c.loop-j.j (omega arith))

pub offset_bounds-network-w-in-loop-j : goal.offset_bounds-network-w-in-loop-j
offset_bounds-network-w-in-loop-j c = omega (arith, sites_are_few c.requires.0, ends_of_link c.requires.0 c.loop-j.j (omega arith))

pub bounds-network-w-in-loop-j : goal.bounds-network-w-in-loop-j
bounds-network-w-in-loop-j c = omega (arith, sites_are_few c.requires.0, ends_of_link c.requires.0 c.loop-j.j (omega arith))

pub offset_bounds-sizes-j : goal.offset_bounds-sizes-j
offset_bounds-sizes-j c = omega (arith, links_are_few c.requires.0)

pub bounds-sizes-j : goal.bounds-sizes-j
bounds-sizes-j c = omega (arith, links_are_few c.requires.0)

pub size_line-next-requires : goal.size_line-next-requires
size_line-next-requires c =
    let r = c.requires.0 in
    let j = c.loop-j.j in
    let h : j < c.args.network.now.links = omega arith in
    let p = ends_of_link r j h in (
      its-name-is-short r j h (look c.args.network.now.one j) p.0 c.part-first.ensures.bytes,
      its-name-is-short r j h (look c.args.network.now.two j) p.1 c.part-second.ensures.bytes,
      omega (arith, links_are_few r, c.loop-j.invariant.0),
    )

pub loop-j-preserved : goal.loop-j-preserved
loop-j-preserved c = (
  omega (arith, c.loop-j.invariant.0, c.size_line-next.ensures.1),
  one_line_more c.requires.0 c.loop-j.j (omega arith) c.args.sizes.now c.loop-j.invariant.1 c.part-first.ensures.bytes c.part-second.ensures.bytes
      c.size_line-next.ensures.0,
)

pub returns : goal.returns
returns c =
    let all : c.loop-j.j ≡ c.args.network.now.links = omega arith in (
      rw (lines_of_a_sheet c.requires.0 c.args.sizes.now) at (rw all at c.loop-j.invariant.1),
      omega (arith, links_are_few c.requires.0, c.loop-j.invariant.0),
    )
