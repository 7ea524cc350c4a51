-- The loads of the links on a path, as a list of SITES places: what is asked of them, and the lists with an amount more or less on the path.
use Rattle.std.specs.Prelude.{◌≡◌, List, map, ℕ, ◌+◌, ◌-◌, ◌*◌, ◌^◌, ◌≤◌, ◌<◌, length}
use Rattle.model.specs.Limits.{AMOUNT, SITES, SIZE}
use Rattle.lists.specs.Numbers.{upfrom, look}
use Rattle.tree_sets.specs.Members.{member}
use Rattle.tree_sets.specs.declared.Set.{Set}

-- the links on a path have capacities, and their loads fit
pub record Measured (path : Set) (x : ℕ) (c l : List ℕ) : Type 0 where
  pub few : length c ≤ SITES
  pub links : (j : ℕ) → member path j ≡ 1 → j < length c
  pub capacities : (j : ℕ) → j < length c → look c j ≤ SIZE
  pub loads : (j : ℕ) → look l j ≤ AMOUNT
  pub small : x ≤ AMOUNT

-- a link on a path whose load with x more would pass twice its capacity
pub record Passing (path : Set) (x : ℕ) (c l : List ℕ) : Type 0 where
  pub link : ℕ
  pub on : member path link ≡ 1
  pub over : 2 * look c link < look l link + x

-- x more fits on every link
pub record Raising (path : Set) (x : ℕ) (l : List ℕ) : Type 0 where
  pub places : length l ≡ SITES
  pub room : (j : ℕ) → look l j + x < 2 ^ 64

-- every link on a path has x
pub record Lowering (path : Set) (x : ℕ) (l : List ℕ) : Type 0 where
  pub places : length l ≡ SITES
  pub enough : (j : ℕ) → member path j ≡ 1 → x ≤ look l j

-- x more, and x less, on the links of a path
unfoldable pub raised : Set → ℕ → List ℕ → List ℕ
raised path x l = map (λ j. look l j + x * member path j) (upfrom 0 SITES)

unfoldable pub lowered : Set → ℕ → List ℕ → List ℕ
lowered path x l = map (λ j. look l j - x * member path j) (upfrom 0 SITES)
