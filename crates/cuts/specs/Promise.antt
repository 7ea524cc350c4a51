-- What the cuts of `terminal_cuts` promise, where they are made: each place holds what is defined of its site,
-- and for balanced capacities that are the greatest no site is in two cuts and the sizes sum to what leaves the terminals.
use Rattle.std.specs.Prelude.{◌≡◌, ◌↔◌, List, ℕ, ◌-◌, ◌*◌, Ok}
use Rattle.std.proofs.Math.Path.{sym}
use Rattle.std.proofs.Common.{ap, ◌∙◌, arith}
use Rattle.model.specs.Limits.{SITES}
use Rattle.lists.specs.Numbers.{is, sum, count, look}
use Rattle.model.specs.Edition.{largest}
use Rattle.model.specs.Flows.{Links, Site, sites, ends, at_terminals}
use Rattle.model.specs.Trimming.{Greatest}
use Rattle.model.specs.Cuts.{group, in_cut, cut_size, cut_count, owner}
use Rattle.lists.specs.Sums.{is_same, is-other, is_one, is_iff, same?}
use Rattle.lists.specs.Places.{over-eq}
use Rattle.theory_trees.proofs.TerminalCuts.{cut_sizes_sum_to_the_terminals}
use Rattle.theory_trees.proofs.Owners.{owner_iff_in_cut, a_terminal_owns_itself}
use Rattle.tree.specs.Offer.{links}
use Rattle.tree.specs.Accepted.{MarkedTree}
use Rattle.cuts.specs.declared.Cuts.{Cuts}
use Rattle.cuts.specs.Outcome.{places, of_terminal, owned, cuts, offered_cuts, outcome}
use Rattle.cuts.specs.Answers.{cuts_are_for_accepted_offers}
use Rattle.cuts_groups.specs.Places.{of_inner, of_terminal_lem, look-places, places-sum, places_count}

module _ (n : ℕ) (a b marks c t : List ℕ) where
  -- ---- what the places hold

  module _ (r : Cuts) (done : outcome n a b marks c t ≡ Ok r) where
    abbrev ls : Links
    ls = links a b

    -- the terminals are the ends
    abbrev terminal : ℕ → ℕ
    terminal = look (ends ls n marks)

    offered_tree : MarkedTree largest n a b marks c
    offered_tree = (cuts_are_for_accepted_offers n a b marks c t r done).0

    whole : r ≡ offered_cuts n a b marks c t
    whole = (cuts_are_for_accepted_offers n a b marks c t r done).2

    at-site : (f : ℕ → ℕ) (x : ℕ) → Site n x → look (places n f) (x - 1) ≡ f x
    at-site f x p = look-places f n (x - 1) (omega arith) ∙ ap f (omega arith)

    at-terminal : (f : ℕ → ℕ) (x : ℕ) → Site n x → terminal x ≡ 1 → look (places n (of_terminal terminal f)) (x - 1) ≡ f x
    at-terminal f x p m = at-site (of_terminal terminal f) x p ∙ of_terminal_lem terminal f x m

    pub owner_of_a_site : (x : ℕ) → Site n x → look r.owner (x - 1) ≡ owner ls (look c) (look t) terminal n x
    unfolding cuts owned
    owner_of_a_site x p = rw whole (at-site (owner ls (look c) (look t) terminal n) x p)

    pub size_of_a_cut : (w : ℕ) → Site n w → terminal w ≡ 1 → look r.size (w - 1) ≡ cut_size ls (look c) (look t) w
    unfolding cuts owned
    size_of_a_cut w p m = rw whole (at-terminal (cut_size ls (look c) (look t)) w p m)

    pub count_of_a_cut : (w : ℕ) → Site n w → terminal w ≡ 1 → look r.count (w - 1) ≡ cut_count ls (look c) (look t) n w
    unfolding cuts owned
    count_of_a_cut w p m = rw whole (at-terminal (cut_count ls (look c) (look t) n) w p m)

    -- ---- for the greatest balanced capacities

    module _ (g : Greatest ls terminal (look c) (look t)) where
      -- a place has one owner, so no site is in two cuts
      pub a_terminal_owns_just_its_cut : (w x : ℕ) → Site n w → terminal w ≡ 1 → Site n x
          → (look r.owner (x - 1) ≡ w) ↔ (in_cut ls (look c) (look t) w x ≡ 1)
      a_terminal_owns_just_its_cut w x p m q = rw (owner_of_a_site x q) (owner_iff_in_cut offered_tree.within.tree terminal g w p m x)

      pub a_terminal_owns_its_own_place : (w : ℕ) → Site n w → terminal w ≡ 1 → look r.owner (w - 1) ≡ w
      a_terminal_owns_its_own_place w p m = owner_of_a_site w p ∙ a_terminal_owns_itself offered_tree.within.tree terminal g w p m

      pub a_count_is_how_often_its_terminal_is_owner : (w : ℕ) → Site n w → terminal w ≡ 1
          → look r.count (w - 1) ≡ count r.owner w
      unfolding cuts cut_count in_cut owned
      a_count_is_how_often_its_terminal_is_owner w p m =
          let own = owner ls (look c) (look t) terminal n in
          let labels = group ls (look c) (look t) in
          let iff = owner_iff_in_cut offered_tree.within.tree terminal g w p m in
          count_of_a_cut w p m
          ∙ over-eq (sites n) (λ x. is (labels x) (labels w)) (λ x. is (own x) w)
          (λ x q. is_iff (labels x) (labels w) (own x) w (λ e. (iff x).1 (is_same e)) (λ e. is_one ((iff x).0 e)))
          ∙ sym (rw whole (places_count own n w p.0))

      pub sizes_sum_to_the_terminals : sum SITES (look r.size) ≡ at_terminals ls n terminal (look t)
      unfolding cuts owned
      sizes_sum_to_the_terminals = rw whole (
          places-sum (of_terminal terminal (cut_size ls (look c) (look t))) n offered_tree.within.few
          ∙ over-eq (sites n) (of_terminal terminal (cut_size ls (look c) (look t))) (λ w. is (terminal w) 1 * cut_size ls (look c) (look t) w)
          (λ w p. same? (terminal w) 1
          (λ e. rw (of_terminal_lem terminal (cut_size ls (look c) (look t)) w e, is_same e) (omega arith))
          (λ d. rw (of_inner terminal (cut_size ls (look c) (look t)) w d, is-other d) (omega arith)))
          ∙ cut_sizes_sum_to_the_terminals offered_tree.within.tree terminal g)
