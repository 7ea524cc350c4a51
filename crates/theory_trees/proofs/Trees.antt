-- Networks that are trees: n sites, joined by n - 1 links. Each link separates two sides; of the links at a site just one leads to any other site.
use Rattle.std.specs.Prelude.{◌≡◌, ℕ, zero, suc, ◌≤◌, [], ◌∷◌}
use Rattle.std.proofs.Math.Path.{refl, ap}
use native.Mathlib.Omega.{arith}
use Rattle.std.proofs.Math.ListN.{length}
use Rattle.model.specs.Flows.{Links, without}

-- past the last link there is none to leave out
pub without-none : (ls : Links) (j : ℕ) → length ls ≤ j → without j ls ≡ ls
unfolding without
without-none [] j p = refl
without-none (a ∷ ls) zero p = absurd (omega arith)
without-none (a ∷ ls) (suc j) p = ap (λ r. a ∷ r) (without-none ls j (omega arith))
