-- A walk over the members of a set, from the lowest up: those that are still to come, where some are left of one word, and the member that it stands at.
use Rattle.std.specs.Prelude.{◌≡◌, ◌≢◌, List, ℕ, ◌+◌, ◌-◌, ◌*◌, ◌/◌, ◌%◌, ◌≤◌, ◌<◌}
use Rattle.std.specs.Int.Count.{count_trailing_zeros}
use Rattle.model.specs.Limits.{SITES}
use Rattle.lists.specs.Numbers.{pick}
use Rattle.tree_sets.specs.Members.{bit, member, members_from}
use Rattle.tree_sets.specs.declared.Walk.{Walk}

-- 1 if m is in the set with these words, 0 if not
abbrev pub within : List ℕ → ℕ → ℕ
within ws = member (record { words = ws })

-- the members of these words, of which only those of `left` are left in word q
unfoldable pub kept : List ℕ → ℕ → ℕ → ℕ → ℕ
kept ws q left j = pick (j / 64) q (bit left (j % 64)) (within ws j)

-- those from word q up, in ascending order
unfoldable pub still : List ℕ → ℕ → ℕ → List ℕ
still ws q left = members_from (kept ws q left) (q * 64) (SITES - q * 64)

-- the walk at the lowest of the members that are left of a word
unfoldable pub lowest : ℕ → ℕ → Walk
lowest word left = record { place = word * 64 + count_trailing_zeros 64 left; left = left }

-- w stands at a member, and those of its word from there up are left
pub record Standing (f : ℕ → ℕ) (w : Walk) : Type 0 where
  pub inside : w.place < SITES
  pub here : f w.place ≡ 1
  pub gone : (k : ℕ) → k < w.place % 64 → bit w.left k ≡ 0
  pub kept : (k : ℕ) → w.place % 64 ≤ k → k < 64 → bit w.left k ≡ f (w.place / 64 * 64 + k)

-- w stands at the first member from p up, at SITES with nothing left where there is none
pub record Walked (f : ℕ → ℕ) (p : ℕ) (w : Walk) : Type 0 where
  pub from : p ≤ w.place
  pub miss : (j : ℕ) → p ≤ j → j < w.place → f j ≢ 1
  pub stands : w.left ≢ 0 → Standing f w
  pub ended : w.left ≡ 0 → w.place ≡ SITES
