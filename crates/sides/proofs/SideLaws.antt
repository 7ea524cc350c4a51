-- The names of an accepted sheet are different, so that two of them mean the link that joins their sites, where one of these may be far, and no other; and what
-- a step comes to, case by case.
use Rattle.std.specs.Prelude.{List, ◌≡◌, ℕ, ◌≤◌, ◌<◌, length}
use Rattle.std.proofs.Math.Path.{refl}
use borrow.Author.Tests.{le-leb, lt-leb, lt-ltb, le-ltb}
use Rattle.lists.specs.Numbers.{look}
use Rattle.model.specs.Refusals.{refused_as}
use Rattle.model.specs.declared.Edition.{Edition}
use Rattle.sheet.specs.Sheet.{Network, refused, accepted, read_sheet}
use Rattle.theory_regions.specs.Regions.{given}
use Rattle.theory_regions.specs.JoinedTree.{Border}
use Rattle.exchanges.specs.Shared.{region_of}
use Rattle.exchanges.specs.SharedLaws.{the_network_is_named}
use Rattle.sides.specs.Outcome.{show_over, show_read, first_shown, refusal, delivered, answer_over, answer_read, answered}
use Rattle.sides.specs.Causes.{MayShare, AcceptedSide}
use Rattle.sides.specs.SideLaws.{no_link_is_meant}
use Rattle.sides.specs.SideLaws.{its_link}

-- ---- what a step comes to
module _ {known : List Edition} {s : List ℕ} {net : Network} {name name' : List ℕ} {p : Border} (A : AcceptedSide known s net name name' p) where
  module _ (told : ℕ) (l : List ℕ) where
    pub a_larger_number_is_refused : look net.capacities p.shared < told → answered known s name name' told l ≡ refusal 18 0 l
    unfolding answered answer_read answer_over
    a_larger_number_is_refused h =
        rw (A.read, its_link A, lt-ltb _ _ A.share.link, lt-leb _ _ h) refl

    module _ (h : told ≤ look net.capacities p.shared) where
      pub a_shorter_list_is_refused : length l < length net.links → answered known s name name' told l ≡ refusal 9 0 l
      unfolding answered answer_read answer_over
      a_shorter_list_is_refused short =
          rw (A.read, its_link A, lt-ltb _ _ A.share.link, le-leb _ _ h, lt-leb _ _ short) refl

      pub its_answer_is_delivered : length net.links ≤ length l → answered known s name name' told l ≡ delivered (given (region_of net) p.shared told) l
      unfolding answered answer_read answer_over
      its_answer_is_delivered long =
          rw (A.read, its_link A, lt-ltb _ _ A.share.link, le-leb _ _ h, le-leb _ _ long) refl

module _ (known : List Edition) (s name name' : List ℕ) where
  pub a_sheet_refused_shows_nothing : (k line : ℕ) → read_sheet known s ≡ refused k line → first_shown known s name name' ≡ refused_as k line
  unfolding first_shown show_read
  a_sheet_refused_shows_nothing k line e = rw e refl

  pub a_sheet_refused_is_given_nothing : (told : ℕ) (l : List ℕ) (k line : ℕ) → read_sheet known s ≡ refused k line
      → answered known s name name' told l ≡ refusal k line l
  unfolding answered answer_read
  a_sheet_refused_is_given_nothing told l k line e = rw e refl

  module _ (net : Network) (e : read_sheet known s ≡ accepted net) (none : (p : Border) → ¬ (MayShare s net name name' p)) where
    pub without-a-link-nothing-is-shown : first_shown known s name name' ≡ refused_as 18 0
    unfolding first_shown show_read show_over
    without-a-link-nothing-is-shown = rw (e, le-ltb _ _ (no_link_is_meant s net (the_network_is_named known s net e) name name' none)) refl

    pub without-a-link-nothing-is-given : (told : ℕ) (l : List ℕ) → answered known s name name' told l ≡ refusal 18 0 l
    unfolding answered answer_read answer_over
    without-a-link-nothing-is-given told l = rw (e, le-ltb _ _ (no_link_is_meant s net (the_network_is_named known s net e) name name' none)) refl
