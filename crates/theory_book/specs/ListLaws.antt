-- Laws of lists in strict order: what stands in lists that are made of lists, and in which order.
use Rattle.std.proofs.Common.{arith}
use Rattle.std.proofs.Math.Logic.{inl, inr}
use mathlib.Core.List.{[]}
use Prim.Native.Nat.{ℕ, zero, suc, ◌+◌, ◌≤◌, ◌<◌}
use Rattle.lists.specs.Numbers.{upfrom}
use Rattle.theory_book.specs.Listing.{In}

-- ---- what stands in them

-- ---- order

-- ---- numbers from b on

pub from_in : (b n x : ℕ) → In x (upfrom b n) → (b ≤ x) × (x < b + n)
unfolding upfrom
from_in b (suc n) x (inl e) = omega arith
from_in b (suc n) x (inr h) = let r = from_in (suc b) n x h in omega arith
from_in b zero x x3 = elim x3 [ ]

-- ---- lists of k elements of d

-- ---- lists of k elements of l in its order

-- ---- places

-- ---- a list in strict order is known by what stands in it
