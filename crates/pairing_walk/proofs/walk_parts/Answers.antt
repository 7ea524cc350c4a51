-- `walk_parts`: no root, or the walks from all of them, over empty lists.
use Rattle.std.proofs.Common.{◌≡◌, suc, ◌+◌, ◌-◌, List, [], ℕ, length, sym, ◌∙◌, arith}
use Rattle.std.proofs.Math.ListN.{set}
use Rattle.lists.specs.Numbers.{look}
use Rattle.lists.specs.Sums.{pick_other}
use Rattle.model.specs.Pairing.{lowest_inner}
use Rattle.pairing_walk.specs.Visits.{covered, untouched}
use Rattle.pairing_walk.proofs.Framing.{between-starts, between-all}
use Rattle.pairing_walk.proofs.walk_parts.Goals as goal

-- the first root is the lowest inner site
low : {q : ℕ} (ends : List ℕ) (m : ℕ) → q ≡ lowest_inner (covered (look ends) untouched) 1 (m + 1 - 0) → q ≡ lowest_inner (covered (look ends) untouched) 1 (suc m)
low ends m e = let all : m + 1 - 0 ≡ suc m = omega arith in rw all at e

pub returns-then-lowest-eq0 : goal.returns-then-lowest-eq0
returns-then-lowest-eq0 c =
    let a = c.args in
    let all : suc (length a.chains.now.tree.one.now) - 0 ≡ suc (length a.chains.now.tree.one.now) = omega arith in
    between-all c.requires.0
    (between-starts a.ends.now a.chains.now.tree.one.now a.chains.now.tree.two.now a.capacity.now [] [] a.pairs.now)
    (rw all (sym c.if-lowest-eq0.true ∙ low a.ends.now (length a.chains.now.tree.one.now) c.next_root-lowest.ensures.0))

pub sums-sums-requires : goal.sums-sums-requires
sums-sums-requires c = c.requires.0.tree

pub visit-requires : goal.visit-requires
visit-requires c = (
  c.requires.0,
  record { summed = c.sums-sums.ensures; lists = c.list_neighbours-near.ensures },
  record {
    some = c.if-lowest-eq0.false;
    lowest = low c.args.ends.now (length c.args.chains.now.tree.one.now) c.next_root-lowest.ensures.0;
    marked = c.next_root-lowest.ensures.1 ∙ pick_other c.if-lowest-eq0.false untouched (set untouched c.next_root-lowest.result 1);
    ups_room = omega arith;
    downs_room = omega arith;
    pairs_room = c.requires.1;
  },
)
