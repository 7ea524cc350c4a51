-- What loops over the sites and over the links rely on: the pairs grow at the end, and never are there more of them than links.
use Rattle.std.specs.Prelude.{◌≡◌}
use Rattle.std.proofs.Math.Path.{ap, sym}
use Rattle.std.proofs.Common.{◌∙◌, add-zero}
use mathlib.Core.List.{List, ◌++◌, flat_map, append_assoc, append-nil}
use Prim.Native.Nat.{ℕ, zero, suc, ◌+◌}
use native.Mathlib.Omega.{arith}
use Rattle.lists.specs.Numbers.{upfrom}
use Rattle.model.specs.declared.Pair.{Pair}

module _ (f : ℕ → List Pair) where
  -- one number more: its list at the end
  pub flat-next : (b m : ℕ) → flat_map f (upfrom b (suc m)) ≡ flat_map f (upfrom b m) ++ f (b + m)
  unfolding flat_map upfrom
  flat-next b zero = rw (add-zero b) (append-nil (f b))
  flat-next b (suc m) = ap (λ r. f b ++ r) (flat-next (suc b) m) ∙ sym (append_assoc (f b) (flat_map f (upfrom (suc b) m)) (f (suc b + m)))
      ∙ ap (λ x. (f b ++ flat_map f (upfrom (suc b) m)) ++ f x) (omega arith)
