-- The table of paths of a tree: for each site the links between it and one root, as a row of bits; the path of two sites is where their rows differ.
-- Document 02, Cards 6 and 7 (a link on the path).
use Rattle.std.specs.Prelude.{◌≡◌, List, ℕ, ◌+◌, ◌*◌, ◌/◌, ◌%◌, ◌≤◌, ◌<◌}
use Rattle.model.specs.Limits.{SITES, WORDS}
use Rattle.lists.specs.Numbers.{look}
use Rattle.model.specs.Flows.{Links, Site, Tree, separates}
use Rattle.tree.specs.Offer.{links}
use Rattle.tree.specs.Accepted.{TreeOf}
use Rattle.tree_sets.specs.Members.{bit, member}
use Rattle.tree_sets.specs.declared.Set.{Set}

-- 1 if link j is in the row of site v, which has the WORDS words from word WORDS v on, 0 if not
unfoldable pub in_table : List ℕ → ℕ → ℕ → ℕ
in_table rows j v = bit (look rows (v * WORDS + j / 64)) (j % 64)

-- a table of paths of n sites, at most SITES: in the row of each site the links between it and the root, nothing in other rows
pub record Table (ls : Links) (n : ℕ) (rows : List ℕ) : Type 0 where
  pub few : n ≤ SITES
  pub root : ℕ
  pub root-site : Site n root
  pub told : (j v : ℕ) → j < SITES → Site n v → in_table rows j v ≡ separates ls j root v
  pub others : (j v : ℕ) → j < SITES → (Site n v → ⊥) → in_table rows j v ≡ 0

-- the links of a tree of n sites, at most SITES, with its table of paths
pub record Mapped (n : ℕ) (one two rows : List ℕ) : Type 0 where
  pub tree : TreeOf SITES n one two
  pub table : Table (links one two) n rows

-- the path of a and b by a table: the links that separate them, in whatever tree the table is one of
abbrev pub PathBy : List ℕ → ℕ → ℕ → Set → Type 0
PathBy rows a b path = (ls : Links) (n : ℕ) → Tree ls n → Table ls n rows → Site n a → Site n b → (j : ℕ) → member path j ≡ separates ls j a b
