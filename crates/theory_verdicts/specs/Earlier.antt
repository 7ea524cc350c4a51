-- When a pair is given on an earlier line of a plan drawn by hand: some line before asks for an amount between the same two sites, in either order.
use Rattle.std.specs.Prelude.{◌≡◌, ◌⊎◌, length}
use mathlib.Core.List.{List, []}
use Prim.Native.Nat.{ℕ, ◌<◌}
use Rattle.model.specs.Pairing.{lower_first}
use Rattle.model.specs.Booking.{same}
use Rattle.model.specs.declared.Pair.{Pair}
use Rattle.model.specs.declared.Request.{Request}
use Rattle.model.specs.declared.Request.TheVariants.{Open}
use Rattle.theory_log.specs.Logs.{line}

-- ---- by the entries

-- a line that enters the pair a, b, the lower site first
pub record Enters (a b : ℕ) (rs : List Request) : Type 0 where
  pub place : ℕ
  pub before : place < length rs
  pub pair-asked : Pair
  pub asked : line rs place ≡ Open pair-asked
  pub meant : same a b (lower_first pair-asked) ≡ 1

-- ---- either order

-- two pairs of sites are the same, in either order
abbrev pub EitherOrder : ℕ → ℕ → ℕ → ℕ → Type 0
EitherOrder a b p q = ((a ≡ p) × (b ≡ q)) ⊎ ((a ≡ q) × (b ≡ p))
