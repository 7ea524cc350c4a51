-- Rows made one from another: what the functions are given and give on the way to the table of paths.
use Rattle.std.specs.Prelude.{◌≡◌, ◌≢◌, List, ℕ, suc, ◌+◌, ◌*◌, ◌/◌, ◌%◌, ◌^◌, ◌≤◌, ◌<◌, length}
use Rattle.model.specs.Limits.{ROWS, SITES}
use Rattle.lists.specs.Numbers.{pick, is, differ, look}
use Rattle.model.specs.Flows.{Site}
use Rattle.log_paths.specs.Tables.{in_table}

-- word q of the set that has only the number j
unfoldable pub single : ℕ → ℕ → ℕ
single q j = pick (j / 64) q (2 ^ (j % 64)) 0

-- the row of `far` is that of `near` with bit j flipped; the other rows stay
pub record Extended (near far j : ℕ) (was now : List ℕ) : Type 0 where
  pub long : length now ≡ length was
  pub new : (k : ℕ) → k < SITES → in_table now k far ≡ differ (in_table was k near) (is k j)
  pub kept : (v k : ℕ) → v ≢ far → k < SITES → in_table now k v ≡ in_table was k v

-- the row of `site` has the number j more; the other rows stay
pub record Put (site j : ℕ) (was now : List ℕ) : Type 0 where
  pub long : length now ≡ length was
  pub rows : (v k : ℕ) → k < SITES → in_table now k v ≡ in_table was k v + is v site * is k j

-- the number of the link to the parent, at the place of its child; zeros elsewhere
pub record LinksUp (links : ℕ) (child up : List ℕ) : Type 0 where
  pub each : (j : ℕ) → j < links → look up (look child j) ≡ j
  pub others : (x : ℕ) → ((j : ℕ) → j < links → look child j ≢ x) → look up x ≡ 0
  pub low : (x : ℕ) → look up x ≤ links

-- an order of n different sites in which no site's parent comes before it
pub record Outward (n : ℕ) (order parent up : List ℕ) : Type 0 where
  pub some : 1 ≤ n
  pub few : n ≤ SITES
  pub long : n ≤ length order
  pub site : (p : ℕ) → p < n → Site n (look order p)
  pub once : (p q : ℕ) → p < n → q < n → look order p ≡ look order q → p ≡ q
  pub low : (x : ℕ) → (look parent x ≤ SITES) × (look up x ≤ SITES)
  pub later : (p q : ℕ) → q ≤ p → p < n → look parent (look order p) ≢ look order q

-- the row of each site from place i on, but the last, is that of its parent with one bit flipped, and the other rows are empty
pub record Spread (n : ℕ) (order parent up : List ℕ) (i : ℕ) (rows : List ℕ) : Type 0 where
  pub long : length rows ≡ ROWS
  pub from_parent : (p : ℕ) → i ≤ p → suc p < n → (k : ℕ) → k < SITES
      → let x = look order p in in_table rows k x ≡ differ (in_table rows k (look parent x)) (is k (look up x))
  pub empty : (v k : ℕ) → k < SITES → ((p : ℕ) → i ≤ p → suc p < n → look order p ≢ v) → in_table rows k v ≡ 0
