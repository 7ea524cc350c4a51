-- The joined tree of two regions that share one link: the sites of both with the two shared ones once, the links of both with the shared one once.
-- Document 02, Card 10. `Joins` says it however the tree is numbered; in `joinedTree` the first region keeps its numbers and the second's own sites and
-- links follow.
use Rattle.std.specs.Prelude.{◌≡◌, ◌≢◌, ◌⊎◌, List, ◌++◌, map, ℕ, suc, ◌+◌, ◌-◌, ◌<◌, min, max, length, take, drop}
use Rattle.std.proofs.Math.Logic.{ite}
use Rattle.std.proofs.Math.Decide.{dec_le}
use Rattle.lists.specs.Numbers.{pick, less, look}
use Rattle.model.specs.Flows.{Links, Site, sites, one, two, leaf, mark, Tree}
use Rattle.theory_regions.specs.Regions.{Region}

-- link j joins x and y
abbrev pub Between : Links → ℕ → ℕ → ℕ → Type 0
Between ls j x y = ((one ls j ≡ x) × (two ls j ≡ y)) ⊎ ((one ls j ≡ y) × (two ls j ≡ x))

-- the shared link of a region, its site on this side and the one on the other side
pub record Border : Type 0 where
  pub shared : ℕ
  pub near : ℕ
  pub far : ℕ

-- a region with its border: a tree with a capacity for each link, in which the far site has no link but the shared one
pub record Bordered (a : Region) (p : Border) : Type 0 where
  pub tree : Tree a.links a.sites
  pub sized : length a.capacities ≡ length a.links
  pub here : p.shared < length a.links
  pub between : Between a.links p.shared p.near p.far
  pub single : leaf a.links p.far ≡ 1

-- ---- however it is numbered

-- the sites and the links of a region have numbers in the tree t, each its own, and each link joins there what it joins here, with its capacity; every site
-- but the far one has its mark
pub record Lies (a : Region) (p : Border) (t : Region) (site link : ℕ → ℕ) : Type 0 where
  pub inside : (x : ℕ) → Site a.sites x → Site t.sites (site x)
  pub within : (i : ℕ) → i < length a.links → link i < length t.links
  pub carried : (i : ℕ) → i < length a.links → Between t.links (link i) (site (one a.links i)) (site (two a.links i))
  pub site_once : (x y : ℕ) → Site a.sites x → Site a.sites y → site x ≡ site y → x ≡ y
  pub link_once : (i k : ℕ) → i < length a.links → k < length a.links → link i ≡ link k → i ≡ k
  pub size : (i : ℕ) → i < length a.links → look t.capacities (link i) ≡ look a.capacities i
  pub same-mark : (x : ℕ) → Site a.sites x → x ≢ p.far → mark t.marks (site x) ≡ mark a.marks x

-- t is the joined tree of the regions a and b, by the numbers that their sites and links have in it
pub record Joins (a : Region) (p : Border) (b : Region) (q : Border) (t : Region) (site₁ link₁ site₂ link₂ : ℕ → ℕ) : Type 0 where
  pub first : Lies a p t site₁ link₁
  pub second : Lies b q t site₂ link₂
  -- what is near to the one is far from the other, and no other site is in both; every site is one of a or of b
  pub near-far : site₁ p.near ≡ site₂ q.far
  pub far-near : site₁ p.far ≡ site₂ q.near
  pub common : (x y : ℕ) → Site a.sites x → Site b.sites y → site₁ x ≡ site₂ y → ((x ≡ p.near) × (y ≡ q.far)) ⊎ ((x ≡ p.far) × (y ≡ q.near))
  pub each-site : (z : ℕ) → Site t.sites z
      → ((x : ℕ) × Site a.sites x × (site₁ x ≡ z)) ⊎ ((y : ℕ) × Site b.sites y × (site₂ y ≡ z))
  pub sites_once : t.sites + 2 ≡ a.sites + b.sites
  -- the shared link is one, and no other link is in both; every link is one of a or of b
  pub one_link : link₁ p.shared ≡ link₂ q.shared
  pub only : (i k : ℕ) → i < length a.links → k < length b.links → link₁ i ≡ link₂ k → (i ≡ p.shared) × (k ≡ q.shared)
  pub each-link : (j : ℕ) → j < length t.links
      → ((i : ℕ) × (i < length a.links) × (link₁ i ≡ j)) ⊎ ((k : ℕ) × (k < length b.links) × (link₂ k ≡ j))

-- ---- numbered through

-- the number of y among the numbers without p, and the number that is then called r
unfoldable pub down : ℕ → ℕ → ℕ
down p y = y - less p y

unfoldable pub up : ℕ → ℕ → ℕ
up p r = suc r - less r p

-- a list without its place s
unfoldable pub left_out : {A : Type 0} → ℕ → List A → List A
left_out s l = take s l ++ drop (suc s) l

-- the own sites of a region, neither near nor far, are numbered 1, 2, ..: the number of y, and the site that has number r
unfoldable pub rank : Border → ℕ → ℕ
rank q y = down (min q.near q.far) (down (max q.near q.far) y)

unfoldable pub ranked : Border → ℕ → ℕ
ranked q r = up (max q.near q.far) (up (min q.near q.far) r)

module _ (a : Region) (p : Border) (b : Region) (q : Border) where
  -- the number that a site of the second region has in the joined tree, and that a link of it has
  unfoldable pub place : ℕ → ℕ
  place y = pick y q.near p.far (pick y q.far p.near (a.sites + rank q y))

  unfoldable pub position : ℕ → ℕ
  position k = pick k q.shared p.shared (length a.links + down q.shared k)

  -- what is said of the sites of both regions (marks, names), said of site z of the joined tree: of a shared site, what is said where it is near
  unfoldable pub glued : {A : Type 0} → (ℕ → A) → (ℕ → A) → ℕ → A
  glued f g z = pick z p.far (g q.near) (ite (dec_le z a.sites) (f z) (g (ranked q (z - a.sites))))

  -- a link of the second region, by the numbers of its sites there
  abbrev pub moved : ℕ × ℕ → ℕ × ℕ
  moved l = (place l.0, place l.1)

  -- the joined tree
  unfoldable pub joined_tree : Region
  joined_tree = record {
    links = a.links ++ map moved (left_out q.shared b.links);
    sites = a.sites + b.sites - 2;
    marks = map (glued (mark a.marks) (mark b.marks)) (sites (a.sites + b.sites - 2));
    capacities = a.capacities ++ left_out q.shared b.capacities;
  }
