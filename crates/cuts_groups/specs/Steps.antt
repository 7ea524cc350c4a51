-- What the functions give: the cuts of any terminals, and the steps on the way to them.
use Rattle.std.specs.Prelude.{◌≡◌, List, map, ℕ, zero, suc, replicate}
use Rattle.model.specs.Limits.{SITES}
use Rattle.lists.specs.Numbers.{pick, sum, upfrom, look}
use Rattle.model.specs.Flows.{Links}
use Rattle.model.specs.Cuts.{cut_size, cut_count, owner}
use Rattle.model.specs.Whole.{set_size, set_count}
use Rattle.cuts_groups.specs.Groups.{labelled}
use Rattle.cuts_groups.specs.Places.{places, of_terminal}

-- the cuts, at place x - 1 for site x: the terminal whose cut holds the site, and for a terminal the size and the number of sites of its cut
pub record Owned : Type 0 where
  pub owner : List ℕ
  pub size : List ℕ
  pub count : List ℕ

-- the cuts that three lists hold
abbrev pub owning : List ℕ → List ℕ → List ℕ → Owned
owning owner size count = record { owner = owner; size = size; count = count }

-- three lists of zeros, one for each site
pub record Blank (owner size count : List ℕ) : Type 0 where
  pub owners : owner ≡ replicate SITES 0
  pub sizes : size ≡ replicate SITES 0
  pub counts : count ≡ replicate SITES 0

-- the owner at place i: the one that stands there, or a where there is none and the cut holds the place
unfoldable pub claim : List ℕ → (ℕ → ℕ) → ℕ → ℕ → ℕ
claim owners cut a i = pick (look owners i) 0 (pick (cut i) 1 a 0) (look owners i)

-- cut l i is 1 if the sites with the label l hold place i
module _ (cut : ℕ → ℕ → ℕ) (labels : List ℕ) where
  -- the number of sites with the label of site a
  unfoldable pub members : ℕ → ℕ
  members a = sum SITES (cut (look labels a))

  -- the owners after the terminals among the first k sites have claimed the places of their cuts
  unfoldable pub owners_to : List ℕ → List ℕ → ℕ → List ℕ
  owners_to owners ends zero = owners
  owners_to owners ends (suc k) =
      let before = owners_to owners ends k in
      pick (look ends (suc k)) 1 (map (claim before (cut (look labels (suc k))) (suc k)) (upfrom 0 SITES)) before

-- the cuts of the terminals `ends`, by the labels of n sites and the sums at the labels
unfoldable pub cuts_by : ℕ → List ℕ → List ℕ → List ℕ → Owned
cuts_by n labels ends leaving = record {
  owner = owners_to (labelled n labels) labels (replicate SITES 0) ends n;
  size = places n (of_terminal (look ends) (λ a. look leaving (look labels a)));
  count = places n (of_terminal (look ends) (members (labelled n labels) labels));
}

-- the cuts of the terminals of a network with n sites: the owner of each site, and of each terminal the size and the count of its cut
unfoldable pub owned : Links → ℕ → (ℕ → ℕ) → (ℕ → ℕ) → (ℕ → ℕ) → Owned
owned ls n terminal c t = record {
  owner = places n (owner ls c t terminal n);
  size = places n (of_terminal terminal (cut_size ls c t));
  count = places n (of_terminal terminal (cut_count ls c t n));
}

-- the sets told by owners (02, Card 2): the owner of each site, and of each terminal the size and the count of its set
unfoldable pub sets_of : Links → ℕ → (ℕ → ℕ) → (ℕ → ℕ) → (ℕ → ℕ) → Owned
sets_of ls n terminal c owner = record {
  owner = places n owner;
  size = places n (of_terminal terminal (set_size ls c owner));
  count = places n (of_terminal terminal (set_count n owner));
}
