-- Trimming says that it balanced just where the links join all sites; what it leaves are the trimmed sizes of the entry.
use Rattle.std.specs.Prelude.{◌≡◌, ◌≢◌, List, ℕ, ◌+◌, ◌*◌, ◌≤◌, length, take, replicate, Ok, Some, None}
use Rattle.std.proofs.Math.Path.{sym, ap}
use Rattle.std.proofs.Common.{◌∙◌, arith}
use Rattle.std.proofs.lemmas.List.{length-replicate}
use Rattle.lists.specs.Numbers.{is, look, sum}
use Rattle.lists.specs.Parts.{over-upfrom}
use Rattle.lists.specs.Sums.{pick_same, pick_other}
use Rattle.model.specs.Edition.{largest}
use Rattle.model.specs.Flows.{Links, sites, sum_at, ends, at_terminals}
use Rattle.model.specs.Trimming.{balanced}
use Rattle.theory_trees.proofs.Greatest.{greatest_is_balanced}
use Rattle.tree.specs.Accepted.{MarkedTree}
use Rattle.tree.specs.Links.{length-links}
use Rattle.tree.specs.Offer.{links}
use Rattle.trimming.specs.Outcome.{Trimming, answer, trimmed}
use Rattle.trimming.specs.Answers.{success_is_told_just_of_a_tree_with_enough_places}
use Rattle.trimming.specs.Promise.{Promise, promised_within, trimming_keeps_its_promise}
use Rattle.theory_book.specs.Book.{joins_all, halves}
use Rattle.theory_book.proofs.Trees.{a_choice_that_joins_all_is_a_tree, a-tree-joins-all}
use Rattle.book_totals.specs.Total.{Few, total_of}

-- site by site
pub at_ends_by_sites : (ls : Links) (n : ℕ) (t u c : ℕ → ℕ) → t ≡ u
    → sum n (λ i. is (t (1 + i)) 1 * sum_at ls (1 + i) c) ≡ at_terminals ls n u c
unfolding at_terminals
at_ends_by_sites ls n t u c e = rw e (sym (over-upfrom (λ w. is (u w) 1 * sum_at ls w c) 1 n))

-- no site is marked
module _ {n : ℕ} {one two c : List ℕ} (f : Few n one two c) {marks : List ℕ} (plain : marks ≡ replicate n 0) where
  all-links : length (links one two) ≡ length one
  all-links = length-links one two (omega (arith, f.firsts, f.seconds))

  -- links that join all sites are a tree within the limits
  offered : joins_all (links one two) (sites n) ≡ 1 → MarkedTree largest n one two marks c
  offered w = record {
    within = record {
      tree = a_choice_that_joins_all_is_a_tree n f.least (links one two) (omega (arith, all-links, f.firsts)) f.between w;
      few = omega (arith, f.most);
      firsts = f.firsts;
      seconds = f.seconds;
      capacities = f.sized;
      limited = λ j h. omega (arith, f.small j h);
    };
    marked = sym (ap length plain ∙ length-replicate n 0);
  }

  module _ (lent : List ℕ) where
    -- where something else is said, the links do not join all sites
    pub no_total_is_told : length one ≤ length lent → (a : Trimming) → answer n one two marks c lent ≡ a → a ≢ Ok tt → None ≡ total_of n (links one two) c
    unfolding total_of
    no_total_is_told room a e d =
        sym (pick_other (λ w. d (sym e ∙ (success_is_told_just_of_a_tree_with_enough_places n one two marks c lent).1 (offered w, room))) _ _)

    module _ (e : answer n one two marks c lent ≡ Ok tt) where
      abbrev left : List ℕ
      left = take (length one) (trimmed n one two marks c lent)

      promise : Promise n one two marks c left
      promise = trimming_keeps_its_promise n one two marks c lent e

      tree : MarkedTree largest n one two marks c
      tree = ((success_is_told_just_of_a_tree_with_enough_places n one two marks c lent).0 e).0

      -- what is left is a tree to be summed
      pub what_is_left_is_a_tree : MarkedTree largest n one two marks left
      what_is_left_is_a_tree = promised_within tree left promise

      -- and its sum over the ends' links is the total
      pub the_total_is_told : (r : ℕ) → r ≡ at_terminals (links one two) n (look (ends (links one two) n marks)) (look left)
          → Some r ≡ total_of n (links one two) c
      unfolding total_of halves
      the_total_is_told r s =
          let ls = links one two in
          let same : left ≡ balanced ls n (look (ends ls n marks)) c =
          greatest_is_balanced tree.within.tree (look (ends ls n marks)) c left (promise.each ∙ sym all-links) promise.greatest in
          ap Some (s ∙ ap (λ t. at_terminals ls n (look (ends ls n marks)) (look t)) same
          ∙ ap (λ k. at_terminals ls n (look (ends ls n k)) (look (balanced ls n (look (ends ls n k)) c))) plain)
          ∙ sym (pick_same (a-tree-joins-all n f.least ls tree.within.tree) _ _)
