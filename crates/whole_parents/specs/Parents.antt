-- What the functions are given and give: an order of the sites of a tree, the child of each link, and the parent of each site (model/WholeLoads).
use Rattle.std.specs.Prelude.{◌≡◌, ◌⊎◌, List, ℕ, ◌≤◌, ◌<◌, length, take}
use Rattle.std.proofs.Common.{ap, ◌∙◌, arith, length-take, get_or-take}
use Rattle.model.specs.Limits.{SITES, SIZE}
use Rattle.model.specs.Edition.{largest}
use Rattle.lists.specs.Numbers.{look, count}
use Rattle.model.specs.Flows.{Links, Site, at}
use Rattle.model.specs.Trimming.{unvisited, Inward, elimination}
use Rattle.model.specs.WholeLoads.{from, upward, parent_of}
use Rattle.theory_trees.specs.Sites.{sites-site, sites-single}
use Rattle.theory_trees.proofs.Orders.{elimination_takes_only_sites, elimination_is_inward}
use Rattle.theory_trees.specs.TreeTest.{length-elimination}
use Rattle.tree.specs.Offer.{links}
use Rattle.tree.specs.Accepted.{TreeOf, TreeWithin}
use Rattle.whole_parents.specs.Orders.{count-drop}

-- the first n places of an order: sites, none of them twice
pub record Single (n : ℕ) (order : List ℕ) : Type 0 where
  pub few : n ≤ SITES
  pub long : n ≤ length order
  pub site : (i : ℕ) → i < n → Site n (look order i)
  pub once : (x : ℕ) → count (take n order) x ≤ 1

-- a tree of n sites, with its elimination order at the front of a list
pub record Ordered (n : ℕ) (order a b : List ℕ) : Type 0 where
  pub tree : TreeOf SITES n a b
  pub ordered : take n order ≡ elimination (links a b) n

-- at each site of the order its place
abbrev pub Placed : ℕ → List ℕ → List ℕ → Type 0
Placed n order l = (i : ℕ) → i < n → look l (look order i) ≡ i

-- of two sites the one with the lower place
pub record Earlier (place : List ℕ) (a b r : ℕ) : Type 0 where
  pub site : r ≤ SITES
  pub which : ((r ≡ a) × (look place a ≤ look place b)) ⊎ ((r ≡ b) × (look place b ≤ look place a))

-- link j leads from the site c of the order us to a later one: c is its child, and the other site the parent of c
pub record Leads (ls : Links) (us : List ℕ) (j c : ℕ) : Type 0 where
  pub listed : 1 ≤ count us c
  pub here : at ls c j ≡ 1
  pub later : unvisited ls (from us c) j ≡ 1

-- the child of each link, zeros behind them
pub record Children (ls : Links) (us child : List ℕ) : Type 0 where
  pub each : (j : ℕ) → j < length ls → Leads ls us j (look child j) × (look child j ≤ SITES)
  pub behind : (j : ℕ) → length ls ≤ j → look child j ≡ 0

-- the child of each link; and of each site the parent and the capacity of the link to it, within the limits
pub record ParentsOf (ls : Links) (us : List ℕ) (c : ℕ → ℕ) (child parent above : List ℕ) : Type 0 where
  pub children : Children ls us child
  pub parents : (x : ℕ) → look parent x ≡ parent_of ls us x
  pub capacities : (x : ℕ) → look above x ≡ upward ls us x c
  pub low : (x : ℕ) → look parent x ≤ SITES
  pub small : (x : ℕ) → look above x ≤ SIZE

-- ---- the elimination order of a tree

module _ {n : ℕ} {order a b : List ℕ} (w : Ordered n order a b) where
  pub the_order_is_inward : Inward (links a b) (take n order)
  the_order_is_inward = rw w.ordered (elimination_is_inward w.tree.tree).inward

  counted : (x : ℕ) → 1 ≤ count (take n order) x → Site n x
  counted = rw w.ordered (λ x p. sites-site n x (omega (arith, elimination_takes_only_sites w.tree.tree x)))

  pub the_order_takes_every_site : (x : ℕ) → Site n x → 1 ≤ count (take n order) x
  the_order_takes_every_site = rw w.ordered (elimination_is_inward w.tree.tree).all

  pub the_order_takes_no_site_twice : Single n order
  the_order_takes_no_site_twice =
      let all : length (take n order) ≡ n = ap length w.ordered ∙ length-elimination (links a b) n in
      let long : n ≤ length order = omega (arith, length-take n order) in
      record {
        few = w.tree.few;
        long = long;
        site = λ i h. rw (get_or-take n order i 0 h) at (counted (look (take n order) i) (count-drop (take n order) 0 i (omega arith) (omega arith)));
        once = rw w.ordered (λ x. omega (arith, elimination_takes_only_sites w.tree.tree x, sites-single n x));
      }

-- a tree within the limits
pub ordered-within : {n : ℕ} {order a b c : List ℕ} → TreeWithin largest n a b c → take n order ≡ elimination (links a b) n → Ordered n order a b
ordered-within w e = record { tree = record { tree = w.tree; few = w.few; firsts = w.firsts; seconds = w.seconds }; ordered = e }
