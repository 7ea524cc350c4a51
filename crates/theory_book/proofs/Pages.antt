-- All pages together are the book, and a page is one entry for each number of a list of sizes: by counting choices of links and lists of sizes.
use Rattle.std.specs.Prelude.{◌≡◌, refl}
use Rattle.std.proofs.Math.Path.{sym, ap}
use Rattle.std.proofs.Common.{◌∙◌}
use mathlib.Core.List.{List, [], ◌∷◌, map, flat_map}
use Prim.Native.Nat.{ℕ, ◌-◌, ◌^◌}
use Rattle.std.proofs.Math.ListN.{length}
use Rattle.lists.specs.Numbers.{pick, upfrom}
use Rattle.lists.specs.Sums.{same?, pick_same, pick_other}
use Rattle.model.specs.Flows.{Links, sites}
use Rattle.theory_book.specs.FlatLaws.{flat-flat, flat-same}
use Rattle.theory_book.specs.Book.{Entry, possible, joins_all, trees_of, size_lists, part_of, book}
use Rattle.theory_book.specs.Numbered.{chosen, choices_of, if_tree, page_of}
use Rattle.theory_book.specs.Counting.{of_size}
use Rattle.theory_book.proofs.Counting.{combos-count}
use Rattle.theory_book.specs.Pages.{lone}

empty : {A B : Type 0} (f : A → List B) → flat_map f [] ≡ []
unfolding flat_map
empty f = refl

module _ (most n : ℕ) where
  keep : Links → List Links
  keep ls = pick (joins_all ls (sites n)) 1 (ls ∷ []) []

  sized_by : Links → List Entry
  sized_by ls = map (λ c. record { sites = n; links = ls; sizes = c }) (size_lists most n)

  kept : (m : ℕ) → flat_map keep (of_size (n - 1) (possible n) m) ≡ if_tree n (chosen (possible n) m)
  unfolding of_size if_tree keep
  kept m = same? (length (chosen (possible n) m)) (n - 1)
      (λ e. rw (pick_same e, pick_same e) (lone keep (chosen (possible n) m)))
      (λ d. rw (pick_other d, pick_other d) (empty keep))

  -- the pages of n sites are the part of the book for n sites
  pub the_pages_are_the_part : flat_map (page_of most n) (upfrom 0 (choices_of n)) ≡ part_of most n
  unfolding page_of part_of trees_of choices_of keep sized_by
  the_pages_are_the_part =
      let choices = upfrom 0 (2 ^ length (possible n)) in
      sym (ap (λ l. flat_map sized_by (flat_map keep l)) (combos-count (possible n) (n - 1))
      ∙ ap (flat_map sized_by) (flat-flat keep (of_size (n - 1) (possible n)) choices
      ∙ flat-same (λ m. flat_map keep (of_size (n - 1) (possible n) m)) (λ m. if_tree n (chosen (possible n) m)) choices (λ m i. kept m))
      ∙ flat-flat sized_by (λ m. if_tree n (chosen (possible n) m)) choices)

-- so all pages together are the book
pub the_pages_are_the_book : (least numbers most : ℕ)
    → flat_map (λ n. flat_map (page_of most n) (upfrom 0 (choices_of n))) (upfrom least numbers) ≡ book least numbers most
unfolding book
the_pages_are_the_book least numbers most = flat-same (λ n. flat_map (page_of most n) (upfrom 0 (choices_of n))) (part_of most) (upfrom least numbers)
    (λ n i. the_pages_are_the_part most n)
