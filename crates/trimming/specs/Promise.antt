-- The promise of trimming, all that a user of its answer relies on: a whole number for each link of a tree, the greatest that leave no
-- inner site with a heavy link. By the theory of balanced capacities, over the definitions that `trim` is equated with.
use Rattle.std.specs.Prelude.{◌≡◌, ℕ, length, take, drop, Ok, Err}
use Rattle.std.proofs.Math.Path.{refl}
use Rattle.std.proofs.Common.{ap, ◌∙◌, arith, take_at, drop_at}
use mathlib.Core.List.{List, ◌++◌}
use Rattle.std.proofs.Math.Seq.{take-length}
use Rattle.lists.specs.Numbers.{look}
use Rattle.model.specs.Edition.{largest}
use Rattle.model.specs.Flows.{Tree, ends}
use Rattle.model.specs.Trimming.{Greatest}
use Rattle.theory_trees.proofs.Greatest.{balanced_is_greatest, balanced_has_each_link, balanced-again}
use Rattle.tree.specs.Offer.{links, offer}
use Rattle.tree.specs.Links.{length-links}
use Rattle.tree.specs.Accepted.{MarkedTree, a_tree_within_the_limits_is_accepted}
use Rattle.trimming.specs.Outcome.{Trimming, answer, capacities, after, trimmed, written}
use Rattle.trimming.specs.Answers.{success_is_told_just_of_a_tree_with_enough_places}

-- t are the balanced capacities of a tree with the marks and the capacities c
pub record Promise (n : ℕ) (one two marks c t : List ℕ) : Type 0 where
  pub tree : Tree (links one two) n
  pub each : length t ≡ length one
  pub greatest : Greatest (links one two) (look (ends (links one two) n marks)) (look c) (look t)

module _ {n : ℕ} {one two marks c : List ℕ} (w : MarkedTree largest n one two marks c) where
  pub capacities_keep_the_promise : Promise n one two marks c (capacities n one two marks c)
  unfolding capacities
  capacities_keep_the_promise = record {
    tree = w.within.tree;
    each = balanced_has_each_link w.within.tree (look (ends (links one two) n marks)) c ∙ length-links one two (omega arith);
    greatest = balanced_is_greatest w.within.tree (look (ends (links one two) n marks)) c;
  }

  -- capacities that keep the promise are within the limits too
  pub promised_within : (t : List ℕ) → Promise n one two marks c t → MarkedTree largest n one two marks t
  promised_within t p = record {
    within = record {
      tree = w.within.tree;
      few = w.within.few;
      firsts = w.within.firsts;
      seconds = w.within.seconds;
      capacities = omega (arith, p.each);
      limited = λ j h. omega (
        arith,
        p.each,
        p.greatest.below j (omega (arith, p.each, length-links one two (omega arith))),
        w.within.limited j (omega (arith, p.each)),
      );
    };
    marked = w.marked;
  }

  again-within : MarkedTree largest n one two marks (capacities n one two marks c)
  again-within = promised_within (capacities n one two marks c) capacities_keep_the_promise

module _ (n : ℕ) (one two marks c lent : List ℕ) (e : answer n one two marks c lent ≡ Ok tt) where
  offered_tree : MarkedTree largest n one two marks c
  offered_tree = ((success_is_told_just_of_a_tree_with_enough_places n one two marks c lent).0 e).0

  -- the lent list begins with the balanced capacities, and goes on as it was
  list_after : trimmed n one two marks c lent ≡ capacities n one two marks c ++ drop (length one) lent
  unfolding trimmed after
  list_after = rw (e, (capacities_keep_the_promise offered_tree).each) refl

  first-places : take (length one) (trimmed n one two marks c lent) ≡ capacities n one two marks c
  first-places = ap (take (length one)) list_after
      ∙ take_at (capacities n one two marks c) (drop (length one) lent) (length one) (capacities_keep_the_promise offered_tree).each

  pub trimming_keeps_its_promise : Promise n one two marks c (take (length one) (trimmed n one two marks c lent))
  trimming_keeps_its_promise = rw first-places (capacities_keep_the_promise offered_tree)

  pub later_places_stay : drop (length one) (trimmed n one two marks c lent) ≡ drop (length one) lent
  later_places_stay = ap (drop (length one)) list_after
      ∙ drop_at (capacities n one two marks c) (drop (length one) lent) (length one) (capacities_keep_the_promise offered_tree).each

  -- handed its own answer as capacities, trimming gives that answer back
  pub its_answer_is_accepted : offer largest n one two marks (take (length one) (trimmed n one two marks c lent)) ≡ Ok tt
  its_answer_is_accepted = rw first-places
      (a_tree_within_the_limits_is_accepted largest n one two marks (capacities n one two marks c) (again-within offered_tree))

  pub its_answer_is_given_back : let t = take (length one) (trimmed n one two marks c lent) in capacities n one two marks t ≡ t
  unfolding capacities
  its_answer_is_given_back = rw first-places (balanced-again offered_tree.within.tree (look (ends (links one two) n marks)) c)

-- ---- what is written, whatever is told

after-written : (a : Trimming) (t lent : List ℕ) (m : ℕ) → (a ≡ Ok tt → length t ≡ m) → after a t lent ≡ take (written a m) t ++ drop (written a m) lent
unfolding after written
after-written (Err why) t lent m e = refl
after-written (Ok tt) t lent m e = rw (← (e refl), take-length) refl

module _ (n : ℕ) (one two marks c lent : List ℕ) where
  -- the balanced capacities stand in as many places as are told to be written; the others stay as they were, all of them where there is no success
  pub what_is_told_is_written : let m = written (answer n one two marks c lent) (length one) in
      trimmed n one two marks c lent ≡ take m (capacities n one two marks c) ++ drop m lent
  unfolding trimmed
  what_is_told_is_written = after-written (answer n one two marks c lent) (capacities n one two marks c) lent (length one)
      (λ e. (capacities_keep_the_promise (offered_tree n one two marks c lent e)).each)

  pub what_is_lent_stays : (answer n one two marks c lent ≡ Ok tt → ⊥) → trimmed n one two marks c lent ≡ lent
  unfolding trimmed after
  what_is_lent_stays d = stays (answer n one two marks c lent) (capacities n one two marks c) d
    where
      stays : (a : Trimming) (t : List ℕ) → (a ≡ Ok tt → ⊥) → after a t lent ≡ lent
      stays (Err why) t d = refl
      stays (Ok tt) t d = absurd (d refl)
