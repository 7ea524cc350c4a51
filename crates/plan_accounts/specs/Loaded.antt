-- The loads as the code holds them, against the capacities: a link whose load is above twice its capacity.
use Rattle.std.specs.Prelude.{List, ℕ, ◌*◌, ◌≤◌, ◌<◌, length}
use Rattle.lists.specs.Numbers.{look}
use Rattle.model.specs.Limits.{SITES, SIZE}

-- capacities within the limits
pub record Sized (c : List ℕ) : Type 0 where
  pub few : length c ≤ SITES
  pub limited : (j : ℕ) → j < length c → look c j ≤ SIZE

-- a load above twice its capacity
pub record Loaded (c l : List ℕ) : Type 0 where
  pub link : ℕ
  pub inside : link < length c
  pub over : 2 * look c link < look l link
