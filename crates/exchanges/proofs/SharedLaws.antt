-- Two accepted sheets as two regions: each is a tree with a capacity for each link and no name twice, and the look-ups of names find the names in common.
use Rattle.std.specs.Prelude.{List, ◌↔◌, ◌≡◌, ℕ, ◌-◌, length}
use Rattle.model.specs.declared.Edition.{Edition}
use Rattle.sheet_names.specs.Names.{name_at}
use Rattle.sheet.specs.Sheet.{Network}
use Rattle.theory_regions.specs.JoinedTree.{Border}
use Rattle.theory_regions.specs.Sharing.{Partners, apart}
use Rattle.theory_regions.specs.SharingLaws.{Tells, the_shared_link_is_no_choice}
use Rattle.theory_regions.proofs.SharingLaws.{the_decision_tells, apart_exactly_if_no_link_is_shared}
use Rattle.exchanges.specs.Shared.{region_of, site_name, partner, Share, sharing_in}
use Rattle.exchanges.specs.Causes.{BothRead}
use Rattle.exchanges.specs.SharedLaws.{a_look_up_finds_the_site_of_a_name, first_named, second_named}

pub look_ups_find_partners : (s : List ℕ) (net : Network) (t : List ℕ) (other : Network)
    → Partners (length net.names) (length other.names) (site_name s net) (site_name t other) (partner s net t other)
unfolding partner
look_ups_find_partners s net t other x p = a_look_up_finds_the_site_of_a_name t other (name_at s net.names (x - 1))

-- ---- accepted sheets
module _ {known : List Edition} {s : List ℕ} {net : Network} {t : List ℕ} {other : Network} (R : BothRead known s net t other) where
  -- the decision tells what is asked of the pair
  pub the_sharing_is_told : Tells (region_of net) (region_of other) (site_name s net) (site_name t other) (sharing_in s net t other)
  the_sharing_is_told = the_decision_tells (first_named R) (second_named R) (partner s net t other) (look_ups_find_partners s net t other)

  -- none exactly unless what is asked holds of some borders (02: 18 unless)
  pub apart_exactly_unless_they_share : (sharing_in s net t other ≡ apart) ↔ ((p q : Border) → ¬ (Share s net t other p q))
  apart_exactly_unless_they_share =
      apart_exactly_if_no_link_is_shared (first_named R) (second_named R) (partner s net t other) (look_ups_find_partners s net t other)

  -- which link is shared is no choice
  pub the_shared_link_is_one : {p q p' q' : Border} → Share s net t other p q → Share s net t other p' q' → (p.shared ≡ p'.shared) × (q.shared ≡ q'.shared)
  the_shared_link_is_one = the_shared_link_is_no_choice (first_named R) (second_named R) (partner s net t other) (look_ups_find_partners s net t other)
