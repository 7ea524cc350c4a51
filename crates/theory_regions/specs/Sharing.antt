-- What two regions with named sites must have to share one link, said and decided. Document 02, Card 10 (18: names in common, shared link, far sites).
-- Names are of any type; two sites have one name where their names are equal.
use Rattle.std.specs.Prelude.{◌≡◌, ◌≢◌, ◌⊎◌, ℕ, zero, suc, ◌*◌, ◌<◌, length}
use Rattle.std.proofs.Math.Logic.{ite}
use Rattle.std.proofs.Math.Decide.{dec_lt}
use Rattle.lists.specs.Numbers.{pick, differ, sum, look}
use Rattle.model.specs.Flows.{Site, Tree, one, two, at, leaf, mark}
use Rattle.theory_regions.specs.Regions.{Region, lone}
use Rattle.theory_regions.specs.JoinedTree.{Between, Border}

-- a region that is a tree with a capacity for each link, no two sites of which have one name
pub record Named {N : Type 0} (a : Region) (name : ℕ → N) : Type 0 where
  pub tree : Tree a.links a.sites
  pub sized : length a.capacities ≡ length a.links
  pub different : (x y : ℕ) → Site a.sites x → Site a.sites y → name x ≡ name y → x ≡ y

-- ---- said

-- the regions have exactly two names in common, these joined by a link in both, of equal usable size, one having a single link and no mark in the first
-- region, the other so in the second (18 unless this holds of some borders)
pub record SharesOneLink {N : Type 0} (a b : Region) (name₁ name₂ : ℕ → N) (p q : Border) : Type 0 where
  -- two names in common, and no other
  pub near-far : name₁ p.near ≡ name₂ q.far
  pub far-near : name₁ p.far ≡ name₂ q.near
  pub no_other : (x y : ℕ) → Site a.sites x → Site b.sites y → name₁ x ≡ name₂ y → (x ≡ p.near) ⊎ (x ≡ p.far)
  -- joined by a link in both, of equal usable size
  pub first-link : p.shared < length a.links
  pub first-joins : Between a.links p.shared p.near p.far
  pub second-link : q.shared < length b.links
  pub second-joins : Between b.links q.shared q.near q.far
  pub one_size : look a.capacities p.shared ≡ look b.capacities q.shared
  -- the far one with a single link and no mark
  pub first-single : leaf a.links p.far ≡ 1
  pub first_plain : mark a.marks p.far ≢ 1
  pub second-single : leaf b.links q.far ≡ 1
  pub second_plain : mark b.marks q.far ≢ 1

-- ---- decided

-- the partner of a site of the first region is the site of the second that has its name, 0 where there is none
abbrev pub Partners : {N : Type 0} → ℕ → ℕ → (ℕ → N) → (ℕ → N) → (ℕ → ℕ) → Type 0
Partners n m name₁ name₂ partner = (x : ℕ) → Site n x
    → (Site m (partner x) × (name₁ x ≡ name₂ (partner x))) ⊎ ((partner x ≡ 0) × ((y : ℕ) → Site m y → name₁ x ≢ name₂ y))

-- the first of m places from i on where a test is 1; the place after them where there is none
unfoldable pub first_from : (ℕ → ℕ) → ℕ → ℕ → ℕ
first_from test i zero = i
first_from test i (suc m) = pick (test i) 1 i (first_from test (suc i) m)

-- whether two regions share one link: no, or the border of each
pub data Sharing : Type 0 where
  apart : Sharing
  sharing : Border → Border → Sharing

module _ (a b : Region) (partner : ℕ → ℕ) where
  -- the number of names in common
  unfoldable pub commons : ℕ
  commons = sum a.sites (λ i. differ (partner (suc i)) 0)

  -- the first link of the first region between two sites whose names are in common, and the first of the second region between their partners
  unfoldable pub shared_first : ℕ
  shared_first = first_from (λ j. differ (partner (one a.links j)) 0 * differ (partner (two a.links j)) 0) 0 (length a.links)

  unfoldable pub shared_second : ℕ → ℕ
  shared_second j = first_from (λ k. at b.links (partner (one a.links j)) k * at b.links (partner (two a.links j)) k) 0 (length b.links)

  -- links j and k shared, x near to the first region and y far
  abbrev pub met : ℕ → ℕ → ℕ → ℕ → Sharing
  met j k x y = sharing (record { shared = j; near = x; far = y }) (record { shared = k; near = partner y; far = partner x })

  -- 1 where y may be far from the first region and x, the other site, from the second: a single link and no mark
  unfoldable pub may_be_far : ℕ → ℕ → ℕ
  may_be_far x y = lone a y * lone b (partner x)

  -- the second site of link j is the far one if it may be, else the first if it may be
  unfoldable pub chosen : ℕ → ℕ → Sharing
  chosen j k =
      let x = one a.links j in
      let y = two a.links j in
      pick (may_be_far x y) 1 (met j k x y) (pick (may_be_far y x) 1 (met j k y x) apart)

  -- links j and k shared, if they are links of one usable size
  unfoldable pub shared_at : ℕ → ℕ → Sharing
  shared_at j k =
      ite (dec_lt j (length a.links))
      (ite (dec_lt k (length b.links)) (pick (look a.capacities j) (look b.capacities k) (chosen j k) apart) apart)
      apart

  -- they share one link if they have two names in common, a link in both between these, of one usable size, and a far site each
  unfoldable pub sharing_of : Sharing
  sharing_of = pick commons 2 (shared_at shared_first (shared_second shared_first)) apart
