-- Whether a number is among some places of a list: of one place more, which has it or has it not.
use mathlib.Core.Path.{◌≡◌}
use mathlib.Core.Logic.{◌≢◌}
use mathlib.Core.List.{List}
use Prim.Native.Nat.{ℕ, ◌+◌, min}
use native.Mathlib.Numerals.{add-one}
use native.Mathlib.Omega.{arith}
use Rattle.lists.specs.Numbers.{is, look, sum}
use Rattle.lists.specs.Sums.{is_same, is-other}

-- 1 if one of i places from one on has the number, 0 if not
abbrev pub among : List ℕ → ℕ → ℕ → ℕ → ℕ
among f key at i = min 1 (sum i (λ k. is (look f (at + k)) key))

-- one place more, which has it or has it not
pub hit : (f : List ℕ) (key at i : ℕ) → look f (at + i) ≡ key → 1 ≡ among f key at (i + 1)
unfolding sum
hit f key at i e = rw (add-one i) (omega (arith, is_same e))

pub miss : (f : List ℕ) (key at i : ℕ) → look f (at + i) ≢ key → among f key at i ≡ among f key at (i + 1)
unfolding sum
miss f key at i d = rw (add-one i) (omega (arith, is-other d))
