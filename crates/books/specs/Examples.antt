-- The card's line, and the first part of the book, computed from the definitions. Document 02, Card 13.
use Rattle.std.specs.Prelude.{◌≡◌, refl}
use mathlib.Core.List.{[], ◌∷◌, flat_map}
use Rattle.std.proofs.Math.Decide.{ℕ_discrete, dec_le}
use Rattle.lists.specs.Numbers.{pick, is, sum, over, count, upfrom}
use Rattle.model.specs.Flows.{at, sum_at, leaf, end_at, ends, relabel, label, joined, at_terminals}
use Rattle.model.specs.Text.{bytes}
use Rattle.model.specs.Trimming.{cut_at, cut_site, cut_sites, unvisited, first, remove, taken, elimination, balanced_along, balanced}
use Rattle.text_writers.specs.Fields.{digits, decimal, line}
use Rattle.theory_book.specs.Listing.{combos, words}
use Rattle.theory_book.specs.Book.{possible, joins_all, trees_of, size_lists, part_of, halves}
use Rattle.book_lines.specs.Line.{link_text, commas, line_with, line_of, text}

-- the path 2-1-3 with sizes 1 and 2
the_card's_line : line_of (record { sites = 3; links = (1, 2) ∷ (1, 3) ∷ []; sizes = 1 ∷ 2 ∷ [] }) ≡ bytes "1-2,1-3\t1,2\t2\n"
unfolding line_of line_with link_text commas halves decimal digits line ℕ_discrete dec_le pick is sum over count upfrom at sum_at leaf end_at ends at_terminals
    cut_at cut_site cut_sites unvisited first remove taken elimination balanced_along balanced
the_card's_line = refl

-- two sites
the_first_lines : text (part_of 2 2) ≡ bytes "1-2\t0\t0\n1-2\t1\t2\n1-2\t2\t4\n"
unfolding text part_of size_lists words trees_of possible joins_all joined label relabel flat_map combos line_of line_with link_text commas halves decimal digits line
    ℕ_discrete dec_le pick is sum over count upfrom at sum_at leaf end_at ends at_terminals
    cut_at cut_site cut_sites unvisited first remove taken elimination balanced_along balanced
the_first_lines = refl
