-- All pages together are the book, and a page is one entry for each number of a list of sizes: by counting choices of links and lists of sizes.
use Rattle.std.specs.Prelude.{◌≡◌, ◌≢◌}
use Rattle.std.proofs.Math.Path.{ap}
use Rattle.std.proofs.Common.{◌∙◌, arith}
use mathlib.Core.List.{List, [], ◌∷◌, map, flat_map, append-nil}
use Prim.Native.Nat.{ℕ, suc, ◌-◌, ◌^◌}
use Rattle.std.proofs.Math.ListN.{length}
use Rattle.lists.specs.Numbers.{upfrom}
use Rattle.lists.specs.Sums.{pick_same, pick_other}
use Rattle.model.specs.Flows.{Links, sites}
use Rattle.theory_book.specs.Listing.{words}
use Rattle.theory_book.specs.FlatLaws.{flat-map}
use Rattle.theory_book.specs.Book.{Entry, possible, joins_all, size_lists}
use Rattle.theory_book.specs.Numbered.{word, chosen, if_tree, page_of}
use Rattle.theory_book.specs.Counting.{words_count}

pub lone : {A B : Type 0} (f : A → List B) (a : A) → flat_map f (a ∷ []) ≡ f a
unfolding flat_map
lone f a = append-nil (f a)

-- ---- the pages of n sites

-- ---- a page, by what is written for each entry

module _ {B : Type 0} (f : Entry → List B) (most n m : ℕ) where
  abbrev links-at : Links
  links-at = chosen (possible n) m

  -- a choice of another number of links has no entry
  pub a_page_of_another_number_of_links_is_empty : length links-at ≢ n - 1 → flat_map f (page_of most n m) ≡ []
  unfolding page_of if_tree flat_map
  a_page_of_another_number_of_links_is_empty d = rw (pick_other d)

  module _ (few : length links-at ≡ n - 1) where
    -- nor has one that is no tree
    pub a-page-without-a-tree-is-empty : joins_all links-at (sites n) ≢ 1 → flat_map f (page_of most n m) ≡ []
    unfolding page_of if_tree flat_map
    a-page-without-a-tree-is-empty d = rw (pick_same few, pick_other d)

    -- a tree has one for each number of a list of sizes
    pub a_page_of_a_tree_is_counted : joins_all links-at (sites n) ≡ 1 → flat_map f (page_of most n m)
        ≡ flat_map (λ s. f (record { sites = n; links = links-at; sizes = word (suc most) (n - 1) s })) (upfrom 0 (suc most ^ (n - 1)))
    unfolding page_of if_tree size_lists
    a_page_of_a_tree_is_counted e =
        let entry : List ℕ → Entry = λ c. record { sites = n; links = links-at; sizes = c } in
        rw (pick_same few, pick_same e)
        (ap (flat_map f) (lone (λ ls. map (λ c. record { sites = n; links = ls; sizes = c }) (words (upfrom 0 (suc most)) (n - 1))) links-at)
        ∙ flat-map f entry (words (upfrom 0 (suc most)) (n - 1))
        ∙ ap (flat_map (λ c. f (entry c))) (words_count (suc most) (n - 1) (omega arith))
        ∙ flat-map (λ c. f (entry c)) (word (suc most) (n - 1)) (upfrom 0 (suc most ^ (n - 1))))
