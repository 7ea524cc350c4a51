-- Pairs free to be joined: the test `freePair` tells just which entries are routes, and what is crossed is another terminal on the path. It sees no order of
-- the two sites, and where every terminal has one link it holds of any two different terminals.
use Rattle.std.specs.Prelude.{◌≡◌, ◌≢◌}
use Prim.Native.Nat.{ℕ}
use Rattle.model.specs.Flows.{Links, Site, Tree}
use Rattle.model.specs.Parts.{free_pair}
use Rattle.model.specs.declared.Pair.{Pair}
use Rattle.theory_trees.specs.Leaves.{Outer}
use Rattle.theory_trees.proofs.Leaves.{outer_route}
use Rattle.theory_trees.specs.FreePairs.{free_iff_route}

-- where every terminal has one link, any two different terminals are free to be joined
pub outer_pairs_are_free : {ls : Links} {n : ℕ} → Tree ls n → (terminal : ℕ → ℕ) → Outer ls n terminal → (a b : ℕ) → Site n a → Site n b
    → terminal a ≡ 1 → terminal b ≡ 1 → a ≢ b → free_pair ls terminal a b ≡ 1
outer_pairs_are_free {ls} {n} T terminal O a b p q s t d =
    let e : Pair = record { first = a; second = b; amount = 0 } in
    (free_iff_route ls terminal n T.ends e p q).1 (outer_route T terminal O e p q s t d)
