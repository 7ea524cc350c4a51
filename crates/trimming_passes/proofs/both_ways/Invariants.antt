-- `both_ways`: after i steps the list is cut at the first i sites of the way along the order and back.
use Rattle.std.proofs.Common.{◌≡◌, length, take}
use Rattle.lists.specs.Numbers.{look}
use Rattle.trimming_passes.specs.Steps.{SumsKept, both_ways, cut_first}
use Rattle.trimming_passes.proofs.both_ways.Given as goal

abbrev pub invariant-loop-i : goal.invariant-loop-i
invariant-loop-i l = record {
  long : length l.capacity ≡ length l.fn.capacity;
  kept : SumsKept l.chains.tree.one.now l.chains.tree.two.now l.capacity l.sums;
  so_far : l.capacity ≡ cut_first l.chains.tree.one.now l.chains.tree.two.now (look l.ends) (take l.i (both_ways (take l.chains.tree.sites l.order))) l.fn.capacity;
}
