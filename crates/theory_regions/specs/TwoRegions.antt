-- Card 10 of document 02 for two regions: what they are given after the exchange is the trimmed sizes of their joined tree, link by link, and the two sums
-- added are its total in halves, the largest that a plan of it has, however finely cut.
use Rattle.std.specs.Prelude.{◌≡◌, refl, ◌≢◌, List, ℕ, ◌+◌, ◌*◌, ◌≤◌, ◌<◌, length}
use native.Mathlib.Omega.{arith}
use Rattle.lists.specs.Numbers.{look}
use Rattle.model.specs.Flows.{Tree, Multiflow, Fits, mark, total}
use Rattle.model.specs.Parts.{pair_list_of_parts}
use Rattle.model.specs.declared.Pair.{Pair}
use Rattle.theory_trees.proofs.Greatest.{balanced_is_greatest}
use Rattle.theory_walk.proofs.PartsTheorem.{pair_list_of_parts_is_sound, pair_list_of_parts_has_the_greatest_total}
use Rattle.theory_regions.specs.Regions.{Region, ends_in, trimmed, first_size, Given, given}
use Rattle.theory_regions.specs.JoinedTree.{Border, Bordered}

-- two regions with one shared link: each has the other's site at it as a far site, without a mark, and its usable size is one in both
pub record Neighbours (a : Region) (p : Border) (b : Region) (q : Border) : Type 0 where
  pub first : Bordered a p
  pub second : Bordered b q
  pub first_plain : mark a.marks p.far ≢ 1
  pub second_plain : mark b.marks q.far ≢ 1
  pub one_size : look a.capacities p.shared ≡ look b.capacities q.shared

-- the plan in halves of a tree: the pair list of its trimmed sizes
abbrev pub plan_of : Region → List Pair
plan_of t = pair_list_of_parts t.links t.sites (look (trimmed t)) (ends_in t)

-- so many halves are the largest total of a tree: no plan that fits has more, k parts to a circuit, and a plan in halves reaches it
pub record Largest (t : Region) (halves : ℕ) : Type 0 where
  pub none_has_more : (fs : List Pair) → Multiflow t.links t.sites (ends_in t) fs → (k : ℕ) → Fits t.links k (look t.capacities) fs
      → 2 * total fs ≤ k * halves
  pub plan : Multiflow t.links t.sites (ends_in t) (plan_of t)
  pub plan_fits : Fits t.links 2 (look t.capacities) (plan_of t)
  pub reached : total (plan_of t) ≡ halves

pub the_plan_has_the_largest_total : (t : Region) → Tree t.links t.sites → Largest t (total (plan_of t))
the_plan_has_the_largest_total t T =
    let greatest = balanced_is_greatest T (ends_in t) t.capacities in
    let sound = pair_list_of_parts_is_sound T (ends_in t) (look (trimmed t)) greatest.balanced in
    record {
      none_has_more = pair_list_of_parts_has_the_greatest_total T (ends_in t) (look (trimmed t)) (look t.capacities) greatest;
      plan = sound.routes;
      plan_fits = λ j l. omega (arith, sound.loads j l, greatest.below j l);
      reached = refl;
    }

-- what the two regions are given, u and v, is what their joined tree t has
pub record OfTheJoinedTree (a b t : Region) (link₁ link₂ : ℕ → ℕ) (u v : Given) : Type 0 where
  pub tree : Tree t.links t.sites
  -- the trimmed sizes, link by link
  pub first : (i : ℕ) → i < length a.links → look u.sizes i ≡ look (trimmed t) (link₁ i)
  pub second : (k : ℕ) → k < length b.links → look v.sizes k ≡ look (trimmed t) (link₂ k)
  -- the two sums added
  pub sums : u.sum + v.sum ≡ total (plan_of t)
  pub largest : Largest t (u.sum + v.sum)

module _ {a b : Region} {p q : Border} (M : Neighbours a p b q) where
  -- what each is given for the other's first trimmed size
  abbrev pub first_given : Given
  first_given = given a p.shared (first_size b q.shared)

  abbrev pub second_given : Given
  second_given = given b q.shared (first_size a p.shared)
