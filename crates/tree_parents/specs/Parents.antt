-- The labels of sites, held by parents: every site has a parent, itself or a lower site, and a site that is its own parent is a root. Sites with the same
-- label have the same root. Document 01, "The network sheet" (joined).
use Rattle.std.specs.Prelude.{List, ◌↔◌, ◌≡◌, ℕ, ◌≤◌, ◌<◌, length}
use Rattle.lists.specs.Numbers.{look}
use Rattle.model.specs.Flows.{relabel}

-- the parent of a site is itself or a lower site
abbrev pub Lower : List ℕ → Type 0
Lower parents = (x : ℕ) → look parents x ≤ x

-- parents that hold labels: a parent has the label of its site, and roots with the same label are the same
pub record Tells (parents : List ℕ) (label : ℕ → ℕ) : Type 0 where
  pub along : (x : ℕ) → x < length parents → label (look parents x) ≡ label x
  pub apart : (x y : ℕ) → look parents x ≡ x → look parents y ≡ y → label x ≡ label y → x ≡ y

-- r is the root of x: a root that has its label, whatever labels the parents hold
pub record Root (parents : List ℕ) (x r : ℕ) : Type 0 where
  pub low : r ≤ x
  pub own : look parents r ≡ r
  pub same : (label : ℕ → ℕ) → Tells parents label → label r ≡ label x

-- shorter ways to the same roots
pub record Shorter (before after : List ℕ) : Type 0 where
  pub long : length after ≡ length before
  pub lower : Lower after
  pub roots : (x : ℕ) → (look before x ≡ x) ↔ (look after x ≡ x)
  pub tells : (label : ℕ → ℕ) → Tells before label → Tells after label

-- the labels with a link more
unfoldable pub linked : (ℕ → ℕ) → ℕ → ℕ → ℕ → ℕ
linked label one two x = relabel (label one) (label two) (label x)

-- parents with a link more: they hold the labels with that link
pub record Joins (before after : List ℕ) (one two : ℕ) : Type 0 where
  pub long : length after ≡ length before
  pub lower : Lower after
  pub tells : (label : ℕ → ℕ) → Tells before label → Tells after (linked label one two)

-- the labels that parents hold, one for each of their places
pub record Settled (parents labels : List ℕ) : Type 0 where
  pub long : length labels ≡ length parents
  pub roots : (x : ℕ) → x < length parents → Root parents x (look labels x)
