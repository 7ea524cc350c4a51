-- Lists of sites: how often a site stands in one, sums over one, and sums over the links at a site.
use Rattle.std.specs.Prelude.{◌≡◌}
use Rattle.std.proofs.Common.{ap, ◌∙◌}
use mathlib.Core.List.{[], map}
use Prim.Native.Nat.{ℕ, ◌-◌}
use native.Mathlib.Omega.{arith}
use Rattle.lists.specs.Numbers.{look}
use Rattle.model.specs.Flows.{Site, sites}
use Rattle.lists.specs.Places.{look-from}

-- the value for a site stands at its number less 1
pub look-site : (f : ℕ → ℕ) (n x : ℕ) → Site n x → look (map f (sites n)) (x - 1) ≡ f x
look-site f n x p = look-from f 1 n (x - 1) (omega arith) ∙ ap f (omega arith)
