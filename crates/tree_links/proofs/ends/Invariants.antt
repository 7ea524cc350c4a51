-- `ends`: the places below v hold what the rule of an end says, those from v on 0.
use Rattle.std.proofs.Common.{◌≡◌, ℕ, ◌<◌, ◌≤◌, length}
use Rattle.model.specs.Limits.{PLACES}
use Rattle.lists.specs.Numbers.{look}
use Rattle.model.specs.Flows.{end_at}
use Rattle.tree.specs.Offer.{links}
use Rattle.tree_links.proofs.ends.Given as goal

abbrev pub invariant-loop-v : goal.invariant-loop-v
invariant-loop-v l = record {
  long : length l.list ≡ PLACES;
  so_far : (x : ℕ) → x < l.v → look l.list x ≡ end_at (links l.one l.two) l.marks x;
  behind : (x : ℕ) → l.v ≤ x → look l.list x ≡ 0;
}
