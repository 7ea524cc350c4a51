-- How many trees and entries there are: 1, 3, 16 and 125 trees of 2 to 5 sites by computation, and with their sizes 3, 27, 432 and 10,125 (02, Card 13).
use Rattle.std.specs.Prelude.{◌≡◌, refl, ℕ, suc, ◌*◌, ◌-◌, ◌^◌, length}
use Rattle.std.proofs.Common.{ap, ◌∙◌}
use mathlib.Core.List.{[], ◌∷◌, map, flat_map}
use Rattle.std.proofs.Math.Decide.{ℕ_discrete}
use Rattle.std.proofs.lemmas.List.{length-map}
use Rattle.lists.specs.Numbers.{pick, is, upfrom}
use Rattle.lists.specs.Places.{length-upfrom}
use Rattle.model.specs.Flows.{relabel, label, joined}
use Rattle.theory_book.specs.Listing.{combos, words}
use Rattle.theory_book.proofs.ListLaws.{length-flat, length-words}
use Rattle.theory_book.specs.Book.{possible, joins_all, trees_of, size_lists, part_of}

-- each tree of n sites comes with (most + 1) ^ (n - 1) lists of sizes
pub a_part_has_every_tree_with_every_list_of_sizes : (most n : ℕ) → length (part_of most n) ≡ length (trees_of n) * suc most ^ (n - 1)
unfolding part_of size_lists
a_part_has_every_tree_with_every_list_of_sizes most n =
    length-flat (λ ls. map (λ c. record { sites = n; links = ls; sizes = c }) (words (upfrom 0 (suc most)) (n - 1))) (suc most ^ (n - 1)) (trees_of n)
    (λ ls i. length-map (words (upfrom 0 (suc most)) (n - 1)) (λ c. record { sites = n; links = ls; sizes = c })
    ∙ length-words (upfrom 0 (suc most)) (n - 1) ∙ ap (λ d. d ^ (n - 1)) (length-upfrom 0 (suc most)))

tree_counts : map (λ n. length (trees_of n)) (2 ∷ 3 ∷ 4 ∷ 5 ∷ []) ≡ 1 ∷ 3 ∷ 16 ∷ 125 ∷ []
unfolding trees_of possible joins_all joined label relabel flat_map combos upfrom pick is ℕ_discrete
tree_counts = refl

-- the card's numbers
pub the_parts_have_the_card's_lengths : map (λ n. length (part_of 2 n)) (2 ∷ 3 ∷ 4 ∷ 5 ∷ []) ≡ 3 ∷ 27 ∷ 432 ∷ 10125 ∷ []
unfolding trees_of possible joins_all joined label relabel flat_map combos upfrom pick is ℕ_discrete
the_parts_have_the_card's_lengths = rw (
  a_part_has_every_tree_with_every_list_of_sizes 2 2,
  a_part_has_every_tree_with_every_list_of_sizes 2 3,
  a_part_has_every_tree_with_every_list_of_sizes 2 4,
  a_part_has_every_tree_with_every_list_of_sizes 2 5,
)
