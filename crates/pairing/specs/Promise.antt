-- The promise of pairing, all that a user of its answer relies on: the first places hold the pair list of a tree whose capacities are balanced,
-- loads of exactly twice the capacities. By the theorems of the walk, over the definitions that `pair_up` is equated with.
use Rattle.std.specs.Prelude.{◌≡◌, ◌≢◌, Ok, Err, List, ◌++◌, ℕ, ◌*◌, ◌≤◌, ◌<◌, length, take, drop}
use Rattle.std.proofs.Math.Path.{refl}
use Rattle.std.proofs.Common.{sym, ap, ◌∙◌, take_at, drop_at}
use Rattle.lists.specs.Numbers.{look, Each}
use Rattle.model.specs.Edition.{largest}
use Rattle.model.specs.Flows.{Site, sum_at, Tree, Multiflow, Fits, total}
use Rattle.model.specs.Trimming.{Balanced, Greatest}
use Rattle.model.specs.Parts.{free_pair}
use Rattle.model.specs.declared.Pair.{Pair}
use Rattle.tree.specs.Offer.{links}
use Rattle.tree.specs.Accepted.{MarkedTree}
use Rattle.theory_walk.specs.Sound.{Sound, Ascending}
use Rattle.theory_walk.specs.Evens.{Even, EvenPair}
use Rattle.theory_walk.proofs.PartsTheorem.{pair_list_of_parts_is_sound, pair_list_of_parts_ascends, pair_list_of_parts_lower_first}
use Rattle.theory_walk.specs.PartsTheorem.{pair_list_of_parts_is_even}
use Rattle.theory_walk.proofs.PartsTheorem.{pair_list_of_parts_is_free, pair_list_of_parts_has_the_greatest_total}
use Rattle.pairing.specs.declared.Unpaired.TheVariants.{Heavy}
use Rattle.pairing.specs.Outcome.{terminals, list_of, answer, after, paired}
use Rattle.pairing.specs.Weighing.Heavy.{balanced_has_no_heavy_link, a_heavy_link_is_somewhere}
use Rattle.lists.specs.Sums.{contradiction}
use Rattle.pairing.specs.Answers.{heavy_is_told_just_of_a_heavy_link, pairs_are_told_just_of_balanced_sizes}

-- the first `count` places of a list hold the pairs of a tree with the balanced capacities c: each is free to be joined; where c are the greatest below b, no
-- plan over free pairs that fits b has a greater total; and where they sum to an even number at every inner site, the amounts are whole circuits
pub record Promise (n : ℕ) (one two marks c : List ℕ) (count : ℕ) (list : List Pair) : Type 0 where
  pub tree : Tree (links one two) n
  pub balanced : Balanced (links one two) (terminals n one two marks) (look c)
  pub pairs : take count list ≡ list_of n one two marks c
  pub sound : Sound (links one two) n (terminals n one two marks) (look c) (take count list)
  pub ascends : Ascending (take count list)
  pub lower-first : Each (λ e. e.first < e.second) (take count list)
  pub free : Each (λ e. free_pair (links one two) (terminals n one two marks) e.first e.second ≡ 1) (take count list)
  pub greatest : (b : ℕ → ℕ) → Greatest (links one two) (terminals n one two marks) b (look c) → (fs : List Pair)
      → Multiflow (links one two) n (terminals n one two marks) fs → (parts : ℕ) → Fits (links one two) parts b fs
      → 2 * total fs ≤ parts * total (take count list)
  pub whole : ((v : ℕ) → Site n v → terminals n one two marks v ≢ 1 → Even (sum_at (links one two) v (look c))) → Each EvenPair (take count list)

-- balanced capacities of a tree within the limits are paired, wherever there is a place for each link
pub balanced_capacities_are_paired : {n : ℕ} {one two marks c : List ℕ} → MarkedTree largest n one two marks c
    → Balanced (links one two) (terminals n one two marks) (look c) → (places : ℕ) → length one ≤ places
    → answer n one two marks c places ≡ Ok (length (list_of n one two marks c))
balanced_capacities_are_paired {n} {one} {two} {marks} {c} t B places enough =
    (pairs_are_told_just_of_balanced_sizes n one two marks c places (length (list_of n one two marks c))).1 (t, enough, B, refl)

-- ---- what an answer tells

-- a heavy link is told of no balanced capacities
pub heavy-is-not-balanced : (n : ℕ) (one two marks c : List ℕ) (places : ℕ) → answer n one two marks c places ≡ Err Heavy
    → Balanced (links one two) (terminals n one two marks) (look c) → ⊥
heavy-is-not-balanced n one two marks c places e B =
    let heavy = ((heavy_is_told_just_of_a_heavy_link n one two marks c places).0 e).2 in
    let there = a_heavy_link_is_somewhere (links one two) (terminals n one two marks) (look c) n heavy in
    let none = balanced_has_no_heavy_link (links one two) (terminals n one two marks) (look c) n B in
    contradiction cc

module _ (n : ℕ) (one two marks c : List ℕ) (lent : List Pair) (count : ℕ) (e : answer n one two marks c (length lent) ≡ Ok count) where
  told : MarkedTree largest n one two marks c × (length one ≤ length lent) × Balanced (links one two) (terminals n one two marks) (look c)
      × (count ≡ length (list_of n one two marks c))
  told = (pairs_are_told_just_of_balanced_sizes n one two marks c (length lent) count).0 e

  offered_tree : MarkedTree largest n one two marks c
  offered_tree = told.0

  balanced : Balanced (links one two) (terminals n one two marks) (look c)
  balanced = told.2

  -- the lent list begins with the pair list, and goes on as it was
  list_after : paired n one two marks c lent ≡ list_of n one two marks c ++ drop count lent
  unfolding paired after
  list_after = rw e refl

  first-places : take count (paired n one two marks c lent) ≡ list_of n one two marks c
  first-places = ap (take count) list_after ∙ take_at (list_of n one two marks c) (drop count lent) count (sym told.3)

  pub pairing_keeps_its_promise : Promise n one two marks c count (paired n one two marks c lent)
  pairing_keeps_its_promise = record {
    tree = offered_tree.within.tree;
    balanced = balanced;
    pairs = first-places;
    sound = rw first-places (pair_list_of_parts_is_sound offered_tree.within.tree (terminals n one two marks) (look c) balanced);
    ascends = rw first-places (pair_list_of_parts_ascends offered_tree.within.tree (terminals n one two marks) (look c) balanced);
    lower-first = rw first-places (pair_list_of_parts_lower_first offered_tree.within.tree (terminals n one two marks) (look c) balanced);
    free = rw first-places (pair_list_of_parts_is_free offered_tree.within.tree (terminals n one two marks) (look c) balanced);
    greatest = λ b. rw first-places (pair_list_of_parts_has_the_greatest_total offered_tree.within.tree (terminals n one two marks) (look c) b);
    whole = rw first-places (pair_list_of_parts_is_even offered_tree.within.tree (terminals n one two marks) (look c));
  }

  pub later_places_stay : drop count (paired n one two marks c lent) ≡ drop count lent
  later_places_stay = ap (drop count) list_after ∙ drop_at (list_of n one two marks c) (drop count lent) count (sym told.3)
