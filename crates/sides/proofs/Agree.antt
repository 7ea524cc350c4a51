-- Two owners who show each other one number alone have what the exchange over both sheets has: for every accepted pair the first step shows the first trimmed
-- size of the shared link, and the second gives what the exchange tells and leaves. Document 02, Card 10.
use Rattle.std.specs.Prelude.{List, ◌≡◌, ℕ, ◌≤◌, length}
use Rattle.std.proofs.Common.{inl, inr, sym, ◌∙◌, arith}
use Rattle.lists.specs.Numbers.{look}
use Rattle.model.specs.declared.Edition.{Edition}
use Rattle.sheet.specs.Sheet.{Network}
use Rattle.theory_regions.specs.Regions.{first_size}
use Rattle.theory_regions.specs.JoinedTree.{Border}
use Rattle.theory_regions.specs.Meeting.{link-sites}
use Rattle.theory_regions.specs.Again.{trimmed_is_greatest}
use Rattle.exchanges.specs.Shared.{shown}
use Rattle.exchanges.specs.Causes.{AcceptedPair}
use Rattle.exchanges.specs.SharedLaws.{the_network_is_named, a_pair_is_neighbours, first_given}
use Rattle.exchanges.specs.Outcome.{first_of, second_of, exchanged}
use Rattle.exchanges.specs.Told.{Room}
use Rattle.exchanges.proofs.Told.{both_are_answered}
use Rattle.sides.specs.Outcome.{shown_as, first_shown, delivered, answered}
use Rattle.sides.specs.Causes.{NamesOf, AcceptedSide}
use Rattle.sides.specs.SideLaws.{its_first_size_is_shown}
use Rattle.sides.proofs.SideLaws.{its_answer_is_delivered}
use Rattle.sides.specs.Agree.{as_side}

-- an accepted pair is one with its sheets exchanged
turned : {known : List Edition} {s : List ℕ} {net : Network} {t : List ℕ} {other : Network} {p q : Border} → AcceptedPair known s net t other p q
    → AcceptedPair known t other s net q p
turned {known} {s} {net} {t} {other} {p} {q} X =
    let M = X.share in
    let B = the_network_is_named known t other X.read.second in
    let there = link-sites B.tree M.second-link M.second-joins in
    record {
      read = record { first = X.read.second; second = X.read.first };
      share = record {
        near-far = sym M.far-near;
        far-near = sym M.near-far;
        no_other = λ y x sy sx e. elim (M.no_other x y sx sy (sym e)) [
          | inl f ↦ inr (B.different y q.far sy there.1 (e ∙ rw f M.near-far))
          | inr f ↦ inl (B.different y q.near sy there.0 (e ∙ rw f M.far-near))
        ];
        first-link = M.second-link;
        first-joins = M.second-joins;
        second-link = M.first-link;
        second-joins = M.first-joins;
        one_size = sym M.one_size;
        first-single = M.second-single;
        first_plain = M.second_plain;
        second-single = M.first-single;
        second_plain = M.first_plain;
      };
    }

module _ {known : List Edition} {s : List ℕ} {net : Network} {t : List ℕ} {other : Network} {p q : Border} (X : AcceptedPair known s net t other p q)
    (name name' : List ℕ) (N : NamesOf s net name name' p.near p.far) where
  -- each sheet of the pair, with the two shared names, is a side
  a_pair_has_a_side : AcceptedSide known s net name name' p
  a_pair_has_a_side = record {
    read = X.read.first;
    share = record {
      names = N;
      link = X.share.first-link;
      joins = X.share.first-joins;
      single = X.share.first-single;
      plain = X.share.first_plain;
    };
  }

  -- the first step shows its first trimmed size of the shared link
  pub the_first_size_of_the_shared_link_is_shown : first_shown known s name name' ≡ shown_as (shown net p.shared)
  the_first_size_of_the_shared_link_is_shown = its_first_size_is_shown a_pair_has_a_side

  -- the neighbour's number does not pass the link's usable size, which is the same in both
  the_number_is_no_larger : shown other q.shared ≤ look net.capacities p.shared
  unfolding first_size
  the_number_is_no_larger =
      let B = (a_pair_is_neighbours X).second in omega (arith, (trimmed_is_greatest B).below q.shared B.here, X.share.one_size)

  -- the second step with the neighbour's number gives what the region is given in the exchange
  pub the_neighbours_number_is_answered : (l : List ℕ) → length net.links ≤ length l
      → answered known s name name' (shown other q.shared) l ≡ delivered (first_given X) l
  the_neighbours_number_is_answered l long = its_answer_is_delivered a_pair_has_a_side (shown other q.shared) l the_number_is_no_larger long

module _ {known : List Edition} {s : List ℕ} {net : Network} {t : List ℕ} {other : Network} {p q : Border} (X : AcceptedPair known s net t other p q) where
  -- both may use the same two names, in any spelling and in either order
  pub the_shared_names_are_those_of_both : (name name' : List ℕ) → NamesOf s net name name' p.near p.far → NamesOf t other name name' q.near q.far
  the_shared_names_are_those_of_both name name' (inl n) = inr (sym X.share.near-far ∙ n.0, sym X.share.far-near ∙ n.1)
  the_shared_names_are_those_of_both name name' (inr n) = inl (sym X.share.far-near ∙ n.0, sym X.share.near-far ∙ n.1)

  -- of the first owner: what is answered for the number that the second shows is what the exchange tells and leaves for region 1; and so of the second
  pub two_owners_have_what_the_exchange_has : (one one' two two' : List ℕ) → NamesOf s net one one' p.near p.far
      → NamesOf t other two two' q.near q.far → (l m : List ℕ) → Room net other l m
      → (a b : ℕ) → first_shown known s one one' ≡ shown_as a → first_shown known t two two' ≡ shown_as b
      → let o = exchanged known s t l m in
      (answered known s one one' b l ≡ as_side (first_of o.outcome) o.first) × (answered known t two two' a m ≡ as_side (second_of o.outcome) o.second)
  two_owners_have_what_the_exchange_has one one' two two' N N' l m r a b e f =
      let shows : shown_as (shown net p.shared) ≡ shown_as a = sym (the_first_size_of_the_shared_link_is_shown X one one' N) ∙ e in
      let shows' : shown_as (shown other q.shared) ≡ shown_as b = sym (the_first_size_of_the_shared_link_is_shown (turned X) two two' N') ∙ f in
      let is-a : shown net p.shared ≡ a = cc in
      let is_b : shown other q.shared ≡ b = cc in
      rw (both_are_answered known s t l m X r, ← is-a, ← is_b) (
        the_neighbours_number_is_answered X one one' N l r.first,
        the_neighbours_number_is_answered (turned X) two two' N' m r.second,
      )
