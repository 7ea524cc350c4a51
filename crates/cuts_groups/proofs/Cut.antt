-- The cut of a label as a set: its words.
use mathlib.Core.Path.{◌≡◌}
use mathlib.Core.List.{List}
use Prim.Native.Nat.{ℕ, ◌+◌, ◌*◌, ◌/◌, ◌<◌}
use native.Mathlib.Nat.{zero-div}
use native.Mathlib.Decide.{dec_lt}
use native.Mathlib.Omega.{arith}
use lib.ListN.{length, get_or-eq_default}
use Rattle.model.specs.Limits.{SITES, WORDS}
use Rattle.lists.specs.Numbers.{look}
use Rattle.lists.specs.Sums.{cases, less_one, less_none}
use Rattle.tree_sets.specs.Members.{member}
use Rattle.cuts_groups.specs.Groups.{in_words}

-- the set of the first WORDS words that agree with those of label l
pub member_of_label : (own words : List ℕ) (l : ℕ) → length own ≡ WORDS → ((q : ℕ) → q < WORDS → look own q ≡ look words (l * WORDS + q))
    → (i : ℕ) → member (record { words = own }) i ≡ in_words words l i
unfolding member in_words
member_of_label own words l long same i = cases (dec_lt i SITES)
    (λ h. rw (less_one h, same (i / 64) (omega arith)) (omega arith))
    (λ h. rw (less_none h, get_or-eq_default own 0 {n = i / 64} (omega arith), zero-div) (omega arith))
