-- A set of numbers below SITES, as words of 64 bits: its members, the set with one more, and the next member from a number up.
-- Document 01, "Form by location": an end set is u64 words; members counted by ones, walked by trailing zeros.
use Rattle.std.specs.Prelude.{List, [], ◌∷◌, Option, Some, None, ℕ, zero, suc, ◌/◌, ◌%◌, ◌^◌, get_or}
use Rattle.model.specs.Limits.{SITES}
use Rattle.lists.specs.Numbers.{pick, less}
use Rattle.tree_sets.specs.declared.Set.{Set}

-- bit k of x: 0 or 1
abbrev pub bit : ℕ → ℕ → ℕ
bit x k = x / 2 ^ k % 2

-- 1 if m is in the set, 0 if not
unfoldable pub member : Set → ℕ → ℕ
member s m = bit (get_or s.words (m / 64) 0) (m % 64)

-- the members f with m added; no set holds a number from SITES up
unfoldable pub adding : (ℕ → ℕ) → ℕ → ℕ → ℕ
adding f m j = pick j m (less m SITES) (f j)

-- the first of the k numbers from p up at which f is 1
unfoldable pub first_from : (ℕ → ℕ) → ℕ → ℕ → Option ℕ
first_from f p zero = None
first_from f p (suc k) = pick (f p) 1 (Some p) (first_from f (suc p) k)

-- those of the k numbers from p up at which f is 1, in ascending order
unfoldable pub members_from : (ℕ → ℕ) → ℕ → ℕ → List ℕ
members_from f p zero = []
members_from f p (suc k) = pick (f p) 1 (p ∷ members_from f (suc p) k) (members_from f (suc p) k)
