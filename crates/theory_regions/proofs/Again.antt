-- A region trimmed again after the exchange: the shared link then has just the lesser of the two numbers. By lowering one link (Lowered).
use Rattle.std.specs.Prelude.{◌≡◌, List, ℕ, ◌≤◌, ◌<◌, min, length, set}
use Rattle.std.proofs.Common.{arith, get_or-set_same}
use Rattle.std.proofs.Math.Seq.{get_or-set_other}
use Rattle.lists.specs.Numbers.{look}
use Rattle.lists.specs.Sums.{same?}
use Rattle.model.specs.Flows.{Below}
use Rattle.model.specs.Trimming.{Balanced, Greatest}
use Rattle.theory_trees.proofs.Greatest.{balanced_is_greatest, balanced_has_each_link}
use Rattle.theory_regions.specs.Regions.{Region, ends_in, first_size, trimmed_again}
use Rattle.theory_regions.specs.JoinedTree.{Border, Bordered}
use Rattle.theory_regions.specs.Lowered.{lowered}
use Rattle.theory_regions.specs.Again.{trimmed_is_greatest}

module _ {a : Region} {p : Border} (A : Bordered a p) where
  module _ (other : ℕ) where
    abbrev lesser : ℕ
    lesser = min (first_size a p.shared) other

    abbrev again : List ℕ
    again = trimmed_again a p.shared other

    pub trimmed_again_is_greatest : Greatest a.links (ends_in a) (look (set a.capacities p.shared lesser)) (look again)
    unfolding trimmed_again
    trimmed_again_is_greatest = balanced_is_greatest A.tree (ends_in a) (set a.capacities p.shared lesser)

    -- there is a trimmed size for each link
    pub trimmed_again_has_each_link : length again ≡ length a.links
    unfolding trimmed_again
    trimmed_again_has_each_link = balanced_has_each_link A.tree (ends_in a) (set a.capacities p.shared lesser)

    -- the shared link has the lesser of the two
    pub the_shared_link_has_the_lesser : look again p.shared ≡ lesser
    unfolding first_size
    the_shared_link_has_the_lesser = lowered A.tree (ends_in a) a.capacities p.shared lesser A.sized A.here (omega arith)
        (trimmed_is_greatest A) trimmed_again_is_greatest

    -- no trimmed size passes the link's own
    pub no_size_is_passed : (i : ℕ) → i < length a.links → look again i ≤ look a.capacities i
    unfolding first_size
    no_size_is_passed i l = same? i p.shared
        (λ e. rw e (omega (arith, the_shared_link_has_the_lesser, (trimmed_is_greatest A).below p.shared A.here)))
        (λ d. omega (arith, trimmed_again_is_greatest.below i l, get_or-set_other a.capacities p.shared i lesser 0 d))

    -- and whatever is balanced, passes no size, and has no more than the lesser on the shared link, passes no trimmed size
    pub no_other_is_greater : (r : ℕ → ℕ) → Balanced a.links (ends_in a) r → Below a.links r (look a.capacities) → r p.shared ≤ lesser
        → Below a.links r (look again)
    no_other_is_greater r b f low = trimmed_again_is_greatest.greatest r b (λ i l. same? i p.shared
        (λ e. rw e (omega (arith, A.sized, A.here, get_or-set_same a.capacities p.shared lesser 0 (omega (arith, A.sized, A.here)))))
        (λ d. omega (arith, f i l, get_or-set_other a.capacities p.shared i lesser 0 d)))
