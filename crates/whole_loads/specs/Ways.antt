-- The ways along the elimination order of a tree, from the parents that are found, are those of the definition: so are loads, owners and odd pieces.
use Rattle.std.specs.Prelude.{◌≡◌, List, ◌++◌, ℕ, ◌≤◌, ◌<◌, take, drop}
use Rattle.std.proofs.Math.Path.{refl, sym, ap, fun_ext}
use Rattle.std.proofs.Common.{◌∙◌, arith}
use Rattle.std.proofs.Math.ListN.{length}
use Rattle.model.specs.Limits.{SITES}
use Rattle.model.specs.Edition.{largest}
use Rattle.lists.specs.Numbers.{look, over}
use Rattle.model.specs.Flows.{Links}
use Rattle.model.specs.Trimming.{elimination}
use Rattle.model.specs.Whole.{odd_pieces}
use Rattle.model.specs.WholeLoads.{parent_of, above, upward, intervals, loading, link_load, whole_load, whole_owner, whole_loads}
use Rattle.theory_trees.specs.Trees.{loopless}
use Rattle.theory_whole.specs.Counting.{odd_at}
use Rattle.theory_whole.proofs.Circuits.{odd_pieces_are_counted_at_sites}
use Rattle.tree.specs.Accepted.{TreeWithin}
use Rattle.tree.specs.Offer.{links}
use Rattle.tree.specs.Links.{length-links}
use Rattle.tree.specs.Places.{filled, same_values}
use Rattle.whole_notes.specs.declared.Note.{Note}
use Rattle.whole_notes.specs.Notes.{note, intervals_of, loading_of}
use Rattle.whole_loops.specs.Ways.{Given, Found}
use Rattle.whole_parents.specs.Parents.{ParentsOf, ordered-within, the_order_is_inward, the_order_takes_no_site_twice}
use Rattle.whole_parents.specs.Leads.{link-load}
use Rattle.whole_loads.specs.Solved.{EndsAmong}

module _ {n : ℕ} (order : List ℕ) {a b c : List ℕ} (w : TreeWithin largest n a b c) (ordered : take n order ≡ elimination (links a b) n)
    {child parent up : List ℕ} (P : ParentsOf (links a b) (take n order) (look c) child parent up) where
  abbrev ls : Links
  ls = links a b

  all : length ls ≡ length a
  all = length-links a b (omega (arith, w.firsts, w.seconds))

  pub the_ways_are_given : Given n order parent up
  the_ways_are_given =
      let s = the_order_takes_no_site_twice (ordered-within {order = order} w ordered) in
      record {
        few = s.few;
        long = s.long;
        placed = λ i h. omega (arith, s.site i h, s.few);
        parents = P.low;
        capacities = P.small;
      }

  pub a_child_has_a_place : (j : ℕ) → j < length a → look child j ≤ SITES
  a_child_has_a_place j h = (P.children.each j (omega (arith, all))).1

  -- the notes of both ways
  module _ {ends : List ℕ} {notes : List Note} (F : Found n order parent up ends notes) where
    parents-are : look parent ≡ parent_of ls (elimination ls n)
    parents-are = fun_ext (λ x. P.parents x ∙ ap (λ us. parent_of ls us x) ordered)

    capacities-are : look up ≡ above ls n (look ends) (look c)
    unfolding above
    capacities-are = fun_ext (λ x. P.capacities x ∙ ap (λ us. upward ls us x (look c)) ordered)

    intervals-are : intervals_of notes ≡ intervals ls n (look ends) (look c)
    unfolding intervals
    intervals-are = F.inward ∙ rw (parents-are, capacities-are, ordered) refl

    loading-is : loading_of notes ≡ loading ls n (look ends) (look c)
    unfolding loading
    loading-is = F.outward ∙ rw (intervals-are, parents-are, capacities-are, ordered) refl

    pub owners_are_whole : (x : ℕ) → (note notes x).owner ≡ whole_owner ls n (look ends) (look c) x
    unfolding whole_owner
    owners_are_whole x = ap (λ o. o.owner x) loading-is

    -- the load of a link is that of its child
    load-is-whole : (j : ℕ) → j < length a → (note notes (look child j)).load ≡ whole_load ls n (look ends) (look c) j
    unfolding whole_load
    load-is-whole j h =
        let l : j < length ls = omega (arith, all) in
        sym (link-load ls (loopless w.tree) (take n order) (the_order_is_inward (ordered-within {order = order} w ordered)) j (look child j) l
        (P.children.each j l).0 (λ x. (note notes x).load))
        ∙ ap (λ us. link_load ls us (λ x. (note notes x).load) j) ordered
        ∙ ap (λ o. link_load ls (elimination ls n) o.load j) loading-is

    pub loads_are_whole : (lent : List ℕ) → filled (λ j. (note notes (look child j)).load) (length a) lent
        ≡ whole_loads ls n (look ends) (look c) ++ drop (length ls) lent
    unfolding filled whole_loads
    loads_are_whole lent = rw (all, same_values (λ j. (note notes (look child j)).load) (whole_load ls n (look ends) (look c)) (length a) load-is-whole) refl

    pub odd_pieces_are_counted : EndsAmong ls n (look ends)
        → over (take n order) (odd_at (look parent) (look up) (λ x. (note notes x).most) (λ x. (note notes x).owner))
        ≡ odd_pieces ls n (look c) (whole_owner ls n (look ends) (look c))
    odd_pieces_are_counted leaves =
        rw (ordered, parents-are, capacities-are, ap (λ s. s.most) intervals-are, fun_ext owners_are_whole)
        (odd_pieces_are_counted_at_sites w.tree (look ends) leaves (look c))
