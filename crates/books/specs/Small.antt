-- A page has at most 4,096 bytes: at most 81 lines of at most 29 bytes. By the lengths of its numbers: sites have one digit, sizes one, a total two.
use Rattle.std.specs.Prelude.{◌≡◌, refl}
use Rattle.std.proofs.Math.Path.{ap}
use Rattle.std.proofs.Common.{inl, inr, le-ltb}
use mathlib.Core.List.{List, [], ◌∷◌, ◌++◌, map, flat_map}
use Prim.Native.Nat.{ℕ, zero, suc, ◌+◌, ◌-◌, ◌*◌, ◌^◌, ◌≤◌, ◌<◌}
use native.Mathlib.Omega.{arith}
use Rattle.std.proofs.Math.Decide.{dec_le}
use Rattle.std.proofs.Math.Nat.{mul-le-mul_right, pow-le-pow_right}
use Rattle.std.proofs.Math.ListN.{length, length-append}
use Rattle.lists.specs.Numbers.{is, sum, upfrom, look}
use Rattle.lists.specs.Sums.{same?, cases, is_le, sum-le}
use Rattle.lists.specs.Places.{over-le}
use Rattle.model.specs.Flows.{Links, Tree, sites, sum_at, at_terminals}
use Rattle.theory_trees.proofs.Greatest.{balanced_is_greatest}
use Rattle.theory_trees.proofs.Leaves.{sums_at_sites_count_links_twice}
use Rattle.text_writers.specs.Fields.{decimal, line}
use Rattle.text_writers.specs.Decimal.{decimal-within}
use Rattle.theory_book.specs.Listing.{In}
use Rattle.theory_book.proofs.ListLaws.{get_d_in}
use Rattle.theory_book.specs.Book.{Entry, possible, joins_all, ends_in, trimmed_in, halves}
use Rattle.theory_book.specs.Trees.{Between}
use Rattle.theory_book.proofs.Trees.{possible_in, a_choice_that_joins_all_is_a_tree}
use Rattle.theory_book.specs.Numbered.{word, chosen, page_of}
use Rattle.theory_book.proofs.Counting.{chosen_in}
use Rattle.theory_book.specs.Pages.{a_page_of_another_number_of_links_is_empty, a-page-without-a-tree-is-empty, a_page_of_a_tree_is_counted}
use Rattle.book_lines.specs.Line.{link_text, commas, line_with, line_of, text}
use Rattle.book_lines.specs.Laws.{word-length, word_small}
use Rattle.books.specs.Outcome.{choices, page}
use Rattle.books.specs.Steps.{a_page_has_2_to_5_sites, a_page_is_its_text}

-- ---- texts parted by commas

commas_short : {A : Type 0} (f : A → List ℕ) (k : ℕ) (l : List A) → ((a : A) → In a l → length (f a) ≤ k) → length (commas (map f l)) ≤ suc k * length l
unfolding commas
commas_short f k [] h = omega arith
commas_short f k (a ∷ []) h = omega (arith, h a (inl refl))
commas_short f k (a ∷ b ∷ l) h = omega (
  arith,
  length-append (f a) (44 ∷ commas (map f (b ∷ l))),
  h a (inl refl),
  commas_short f k (b ∷ l) (λ c i. h c (inr i)),
)

flat_short : (f : ℕ → List ℕ) (k b m : ℕ) → ((i : ℕ) → length (f i) ≤ k) → length (flat_map f (upfrom b m)) ≤ k * m
unfolding flat_map upfrom
flat_short f k b zero h = omega arith
flat_short f k b (suc m) h = omega (arith, length-append (f b) (flat_map f (upfrom (suc b) m)), h b, flat_short f k (suc b) m h)

-- ---- the total

module _ (e : Entry) (T : Tree e.links e.sites) (m : ℕ) (small : (j : ℕ) → look e.sizes j ≤ m) where
  sums_small : (k : ℕ) → sum k (λ j. m) ≡ k * m
  unfolding sum
  sums_small zero = omega arith
  sums_small (suc k) = omega (arith, sums_small k)

  -- every link counts twice at most
  a_total_is_small : halves e ≤ 2 * (length e.links * m)
  unfolding halves at_terminals
  a_total_is_small =
      let ls = e.links in
      let t = look (trimmed_in e) in
      let g = balanced_is_greatest T (ends_in e) e.sizes in
      omega (
        arith,
        over-le (sites e.sites) (λ w. is (ends_in e w) 1 * sum_at ls w t) (λ w. sum_at ls w t)
            (λ w p. omega (arith, mul-le-mul_right (sum_at ls w t) (is_le (ends_in e w) 1))),
        sums_at_sites_count_links_twice T t,
        sum-le (length ls) t (λ j. m) (λ j l. omega (arith, g.below j l, small j)),
        sums_small (length ls),
      )

-- ---- a line

module _ (n m : ℕ) (least : 2 ≤ n) (most : n ≤ 5) (few : length (chosen (possible n) m) ≡ n - 1) (joins : joins_all (chosen (possible n) m) (sites n) ≡ 1) where
  abbrev ls : Links
  ls = chosen (possible n) m

  between : Between n ls
  between l i = possible_in n l (chosen_in (possible n) m l i)

  tree : Tree ls n
  tree = a_choice_that_joins_all_is_a_tree n least ls (omega (arith, few)) between joins

  link_short : (l : ℕ × ℕ) → In l ls → length (link_text l) ≤ 3
  unfolding link_text
  link_short l i =
      let b = between l i in
      omega (
        arith,
        length-append (decimal l.0) (45 ∷ decimal l.1),
        decimal-within 0 l.0 (omega (arith, b)),
        decimal-within 0 l.1 (omega (arith, b)),
      )

  size_short : (s c : ℕ) → In c (word 3 (n - 1) s) → length (decimal c) ≤ 1
  size_short s c i =
      let place = get_d_in (word 3 (n - 1) s) 0 c i in
      decimal-within 0 c (omega (arith, place.2, word_small (n - 1) s place.0))

  line_short : (s : ℕ) → length (line_of (record { sites = n; links = ls; sizes = word 3 (n - 1) s })) ≤ 29
  unfolding line_of line_with line
  line_short s =
      let e : Entry = record { sites = n; links = ls; sizes = word 3 (n - 1) s } in
      let a = commas (map link_text ls) in
      let c = commas (map decimal (word 3 (n - 1) s)) in
      let d = decimal (halves e) in
      let total = a_total_is_small e tree 2 (word_small (n - 1) s) in
      omega (
        arith,
        few,
        length-append a (9 ∷ (c ++ (9 ∷ (d ++ (10 ∷ []))))),
        length-append c (9 ∷ (d ++ (10 ∷ []))),
        length-append d (10 ∷ []),
        commas_short link_text 3 ls link_short,
        commas_short decimal 1 (word 3 (n - 1) s) (size_short s),
        word-length (n - 1) s,
        decimal-within 1 (halves e) (omega (arith, total, few)),
      )

  page_short : length (text (page_of 2 n m)) ≤ 4096
  unfolding text
  page_short =
      let lists = pow-le-pow_right {n = 3} (omega arith) {i = n - 1} {j = 4} (omega arith) in
      omega (
        arith,
        ap length (a_page_of_a_tree_is_counted line_of 2 n m few joins),
        flat_short (λ s. line_of (record { sites = n; links = ls; sizes = word 3 (n - 1) s })) 29 0 (3 ^ (n - 1)) line_short,
        lists,
      )

-- ---- a page

a_found_page_is_small : (n m : ℕ) → 2 ≤ n → n ≤ 5 → length (text (page_of 2 n m)) ≤ 4096
unfolding text
a_found_page_is_small n m l h = same? (length (chosen (possible n) m)) (n - 1)
    (λ few. same? (joins_all (chosen (possible n) m) (sites n)) 1
    (λ joins. page_short n m l h few joins)
    (λ d. omega (arith, ap length (a-page-without-a-tree-is-empty line_of 2 n m few d))))
    (λ d. omega (arith, ap length (a_page_of_another_number_of_links_is_empty line_of 2 n m d)))

-- so a buffer of 4,096 bytes is enough for every page
pub a_page_has_at_most_4096_bytes : (n m : ℕ) → length (page n m) ≤ 4096
unfolding page
a_page_has_at_most_4096_bytes n m = cases (dec_le (choices n) m)
    (λ h. rw (le-ltb m (choices n) h) (omega arith))
    (λ h. let found : m < choices n = omega arith in
    let k = a_page_has_2_to_5_sites n m found in
    rw (a_page_is_its_text n m found) (a_found_page_is_small n m k.0 k.1))
