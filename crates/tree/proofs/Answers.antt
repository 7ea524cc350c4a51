-- When links are proper.
use mathlib.Core.List.{List}
use Prim.Native.Nat.{ℕ}
use native.Mathlib.Omega.{arith}
use Rattle.model.specs.Limits.{SITES}
use Rattle.theory_trees.specs.Trees.{loopless}
use Rattle.tree_order.specs.Links.{length-links, links-one, links-two}
use Rattle.tree_order.specs.Steps.{Proper}
use Rattle.tree.specs.Accepted.{TreeOf}

-- a tree of at most SITES sites has links between different sites
pub a_tree_is_proper : {n : ℕ} {a b : List ℕ} → TreeOf SITES n a b → Proper n a b
a_tree_is_proper {n} {a} {b} t =
    let all = length-links a b (omega arith) in
    record {
      big = t.tree.big;
      few = t.few;
      firsts = t.firsts;
      seconds = t.seconds;
      links = λ j h.
          let e = t.tree.ends j (omega arith) in (
            rw (links-one a b j h (omega arith)) at e.0,
            rw (links-two a b j h (omega arith)) at e.1,
            rw (links-one a b j h (omega arith), links-two a b j h (omega arith)) at (loopless t.tree j (omega arith)),
          );
    }
