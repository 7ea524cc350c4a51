-- The total of an entry is the largest of its tree, and that of the plan of which the report is made: through trimming and the pair list, by the
-- theorems that demand 2 rests on.
use Rattle.std.specs.Prelude.{ℕ, ◌≤◌}
use Rattle.std.proofs.Common.{arith}
use Rattle.lists.specs.Numbers.{look}
use Rattle.model.specs.Flows.{Tree}
use Rattle.model.specs.Trimming.{Greatest}
use Rattle.theory_trees.proofs.Greatest.{balanced_is_greatest}
use Rattle.theory_walk.specs.Sound.{Sound}
use Rattle.theory_walk.proofs.PartsTheorem.{pair_list_of_parts_is_sound, pair_list_of_parts_has_the_greatest_total}
use Rattle.theory_book.specs.Listing.{In}
use Rattle.theory_book.specs.Book.{Entry, book, ends_in, trimmed_in, halves}
use Rattle.theory_book.proofs.Entries.{every_entry_is_a_tree_with_its_sizes}
use Rattle.theory_book.specs.Totals.{LargestTotal, pairs_in}

pub the_total_is_the_largest : (e : Entry) → Tree e.links e.sites → LargestTotal e
unfolding halves
the_total_is_the_largest e T =
    let terminal = ends_in e in
    let g : Greatest e.links terminal (look e.sizes) (look (trimmed_in e)) = balanced_is_greatest T terminal e.sizes in
    let s : Sound e.links e.sites terminal (look (trimmed_in e)) (pairs_in e) = pair_list_of_parts_is_sound T terminal (look (trimmed_in e)) g.balanced in
    record {
      largest = λ fs m parts f. rw (← s.sums)
          (pair_list_of_parts_has_the_greatest_total T terminal (look (trimmed_in e)) (look e.sizes) g fs m parts f);
      plan = s.routes;
      fits = λ j l. omega (arith, s.loads j l, g.below j l);
      reached = s.sums;
    }

-- so it is for each entry of a book
pub each_total_is_the_largest : (least numbers most : ℕ) → 2 ≤ least → (e : Entry) → In e (book least numbers most) → LargestTotal e
each_total_is_the_largest least numbers most big e h =
    the_total_is_the_largest e (every_entry_is_a_tree_with_its_sizes least numbers most big e h).drawn.tree
