-- One network numbered in two ways: sites and links renumbered, and the two sites of a link perhaps exchanged.
-- Document 02, Card 14 (the same network with its lines in any order).
use Rattle.std.specs.Prelude.{◌≡◌, List, ℕ, ◌≤◌, ◌<◌, length}
use Rattle.lists.specs.Numbers.{Each}
use Rattle.model.specs.Flows.{Links, Site, Ends, one, two, Multiflow, Fits, total}
use Rattle.model.specs.declared.Pair.{Pair}
use Rattle.theory_regions.specs.JoinedTree.{Between}

-- each site and link of the network ls, of n sites and capacities d, stands in the network ms, of m sites and capacities c: `site` and `link` say where
pub record Carries (ls ms : Links) (n m : ℕ) (d c site link : ℕ → ℕ) : Type 0 where
  pub to-site : (x : ℕ) → Site n x → Site m (site x)
  pub to-link : (i : ℕ) → i < length ls → link i < length ms
  pub joins : (i : ℕ) → i < length ls → Between ms (link i) (site (one ls i)) (site (two ls i))
  pub capacity : (i : ℕ) → i < length ls → d i ≡ c (link i)

-- the two networks are one, numbered in two ways
pub record Matched (ls ms : Links) (n m : ℕ) (d c site site⁻ link link⁻ : ℕ → ℕ) : Type 0 where
  pub ends : Ends ls n
  pub ends' : Ends ms m
  pub there : Carries ls ms n m d c site link
  pub back : Carries ms ls m n c d site⁻ link⁻
  pub site-there : (x : ℕ) → Site n x → site⁻ (site x) ≡ x
  pub site-back : (y : ℕ) → Site m y → site (site⁻ y) ≡ y
  pub link-there : (i : ℕ) → i < length ls → link⁻ (link i) ≡ i
  pub link-back : (j : ℕ) → j < length ms → link (link⁻ j) ≡ j

-- w is the largest total of the plans that fit, `parts` parts to a circuit, whose amounts are of the kind K, as all or even
pub record Largest (ls : Links) (n : ℕ) (terminal c : ℕ → ℕ) (parts : ℕ) (K : ℕ → Type 0) (w : ℕ) : Type 0 where
  pub plan : List Pair
  pub routes : Multiflow ls n terminal plan
  pub fits : Fits ls parts c plan
  pub kind : Each (λ e. K e.amount) plan
  pub reached : total plan ≡ w
  pub most : (es : List Pair) → Multiflow ls n terminal es → Fits ls parts c es → Each (λ e. K e.amount) es → total es ≤ w
