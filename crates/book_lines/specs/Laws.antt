-- Rounds of the loops that write the exercise book: texts parted by commas, and the lines of a page.
use Rattle.std.specs.Prelude.{◌≡◌, refl, ◌≢◌, ℕ, zero, suc, ◌+◌, ◌-◌, ◌^◌, ◌≤◌, ◌<◌, length, get_or, take, None, Some}
use Rattle.std.proofs.Math.Path.{sym, ap}
use Rattle.std.proofs.Common.{ap₂, ◌∙◌, arith, length-append, length-take, length-take-le}
use mathlib.Core.List.{List, [], ◌∷◌, ◌++◌, map, flat_map, append_assoc}
use Rattle.std.proofs.Math.Nat.{pow-le-pow_right}
use Rattle.lists.specs.Numbers.{pick, upfrom, look}
use Rattle.lists.specs.Sums.{same?, pick_same, pick_other, contradiction}
use Rattle.model.specs.Flows.{Links, sites}
use Rattle.tree.specs.Links.{length-links, links-one, links-two}
use Rattle.tree.specs.Offer.{links}
use Rattle.text_writers.specs.Fields.{decimal, line}
use Rattle.text_writers.specs.Decimal.{decimal-length}
use Rattle.text_writers.specs.Wrote.{Room}
use Rattle.theory_book.specs.Book.{possible, joins_all, halves}
use Rattle.theory_book.proofs.Trees.{possible_in}
use Rattle.theory_book.specs.FlatLaws.{flat_round, flat-same, flat-none}
use Rattle.theory_book.specs.Numbered.{word, chosen, page_of}
use Rattle.theory_book.proofs.Counting.{chosen_in}
use Rattle.theory_book.specs.Pages.{a_page_of_another_number_of_links_is_empty, a-page-without-a-tree-is-empty, a_page_of_a_tree_is_counted}
use Rattle.book_totals.specs.Total.{Few, total_of}
use Rattle.book_lines.specs.Line.{link_text, commas, line_with, line_of, text}
use Rattle.book_lines.specs.Written.{Joins, line_if, lines_up_to}

-- texts by place, a comma behind each: all but the last
abbrev pub parted : (ℕ → List ℕ) → ℕ → List ℕ
parted f j = flat_map (λ i. f i ++ (44 ∷ [])) (upfrom 0 j)

pub parted-none : (f : ℕ → List ℕ) → parted f 0 ≡ []
unfolding flat_map upfrom
parted-none f = refl

pub parted_round : (f : ℕ → List ℕ) (j : ℕ) → parted f j ++ (f j ++ (44 ∷ [])) ≡ parted f (j + 1)
parted_round f j = sym (flat_round (λ i. f i ++ (44 ∷ [])) 0 j ∙ ap (λ i. parted f j ++ (f i ++ (44 ∷ []))) (omega arith))

-- and the last, with the byte that ends them
commas-from : (f : ℕ → List ℕ) (b k stop : ℕ)
    → flat_map (λ i. f i ++ (44 ∷ [])) (upfrom b k) ++ (f (b + k) ++ (stop ∷ [])) ≡ commas (map f (upfrom b (suc k))) ++ (stop ∷ [])
unfolding commas flat_map upfrom
commas-from f b zero stop = ap (λ i. f i ++ (stop ∷ [])) (omega arith)
commas-from f b (suc k) stop =
    let next : b + suc k ≡ suc b + k = omega arith in
    ap (λ i. flat_map (λ i. f i ++ (44 ∷ [])) (upfrom b (suc k)) ++ (f i ++ (stop ∷ []))) next
    ∙ append_assoc (f b ++ (44 ∷ [])) (flat_map (λ i. f i ++ (44 ∷ [])) (upfrom (suc b) k)) (f (suc b + k) ++ (stop ∷ []))
    ∙ ap (λ r. (f b ++ (44 ∷ [])) ++ r) (commas-from f (suc b) k stop)
    ∙ append_assoc (f b) (44 ∷ []) (commas (map f (upfrom (suc b) (suc k))) ++ (stop ∷ []))
    ∙ sym (append_assoc (f b) (44 ∷ commas (map f (upfrom (suc b) (suc k)))) (stop ∷ []))

pub commas-done : (f : ℕ → List ℕ) (k stop : ℕ) → parted f k ++ (f k ++ (stop ∷ [])) ≡ commas (map f (upfrom 0 (suc k))) ++ (stop ∷ [])
commas-done f k stop = ap (λ i. parted f k ++ (f i ++ (stop ∷ []))) (omega arith) ∙ commas-from f 0 k stop

-- ---- lists by place

places-from : {A B : Type 0} (g : ℕ → B) (f : A → B) (l : List A) (d : A) (b : ℕ) → ((i : ℕ) → i < length l → g (b + i) ≡ f (get_or l i d))
    → map g (upfrom b (length l)) ≡ map f l
unfolding upfrom
places-from g f [] d b h = refl
places-from g f (a ∷ l) d b h =
    ap₂ ◌∷◌ (ap g (omega arith) ∙ h 0 (omega arith)) (places-from g f l d (suc b) (λ i k. ap g (omega arith) ∙ h (suc i) (omega arith)))

pub sizes_by_place : (c : List ℕ) (k : ℕ) → suc k ≡ length c → map (λ i. decimal (look c i)) (upfrom 0 (suc k)) ≡ map decimal c
sizes_by_place c k e = rw e (places-from (λ i. decimal (look c i)) decimal c 0 0 (λ i h. ap (λ j. decimal (look c j)) (omega arith)))

pub links_by_place : (one two : List ℕ) (k : ℕ) → suc k ≡ length one → length two ≡ length one
    → map (λ i. link_text (look one i, look two i)) (upfrom 0 (suc k)) ≡ map link_text (links one two)
links_by_place one two k e s =
    let all = length-links one two (omega arith) in
    let many : suc k ≡ length (links one two) = omega arith in
    rw many (places-from (λ i. link_text (look one i, look two i)) link_text (links one two) (0, 0) 0
    (λ i h. ap (λ j. link_text (look one j, look two j)) (omega arith)
    ∙ ap₂ (λ x y. link_text (x, y)) (sym (links-one one two i (omega arith) (omega arith))) (sym (links-two one two i (omega arith) (omega arith)))))

-- ---- lengths and ends

pub number_short : (k stop : ℕ) → k < 2 ^ 64 → length (decimal k ++ (stop ∷ [])) ≤ 21
number_short k stop h = omega (arith, length-append (decimal k) (stop ∷ []), decimal-length k h)

-- room for a number, early in a report's bytes
pub number_room : (k stop at : ℕ) → k < 2 ^ 64 → at ≤ 65000 → Room at (decimal k ++ (stop ∷ []))
number_room k stop at h l = omega (arith, number_short k stop h)

pub link_ended : (a b stop : ℕ) → (decimal a ++ (45 ∷ [])) ++ (decimal b ++ (stop ∷ [])) ≡ link_text (a, b) ++ (stop ∷ [])
unfolding link_text
link_ended a b stop = append_assoc (decimal a) (45 ∷ []) (decimal b ++ (stop ∷ [])) ∙ sym (append_assoc (decimal a) (45 ∷ decimal b) (stop ∷ []))

pub line_ended : (ls : Links) (c : List ℕ) (total : ℕ)
    → ((commas (map link_text ls) ++ (9 ∷ [])) ++ (commas (map decimal c) ++ (9 ∷ []))) ++ (decimal total ++ (10 ∷ [])) ≡ line_with ls c total
unfolding line_with line
line_ended ls c total =
    let a = commas (map link_text ls) in
    let b = commas (map decimal c) in
    let d = decimal total ++ (10 ∷ []) in
    append_assoc (a ++ (9 ∷ [])) (b ++ (9 ∷ [])) d ∙ append_assoc a (9 ∷ []) ((b ++ (9 ∷ [])) ++ d) ∙ ap (λ r. a ++ (9 ∷ r)) (append_assoc b (9 ∷ []) d)

-- ---- the lines of a page

module _ (n : ℕ) (ls : Links) (c : List ℕ) where
  pub no_tree_has_no_line : total_of n ls c ≡ None → line_if n ls c ≡ []
  unfolding line_if total_of
  no_tree_has_no_line e = same? (joins_all ls (sites n)) 1
      (λ w. let z = rw (pick_same w) at e in contradiction cc)
      (λ d. pick_other d _ [])

  pub a_tree_has_its_line : (h : ℕ) → total_of n ls c ≡ Some h → line_if n ls c ≡ line_with ls c h
  unfolding line_if line_of total_of
  a_tree_has_its_line h e = same? (joins_all ls (sites n)) 1
      (λ w. let z = rw (pick_same w) at e in
      let same : halves (record { sites = n; links = ls; sizes = c }) ≡ h = cc in
      pick_same w _ [] ∙ ap (line_with ls c) same)
      (λ d. let z = rw (pick_other d) at e in contradiction cc)

pub lines_none : (n : ℕ) (ls : Links) → lines_up_to 0 n ls ≡ []
unfolding lines_up_to flat_map upfrom
lines_none n ls = refl

pub lines_round : (n : ℕ) (ls : Links) (s : ℕ) → lines_up_to s n ls ++ line_if n ls (word 3 (n - 1) s) ≡ lines_up_to (s + 1) n ls
unfolding lines_up_to
lines_round n ls s = sym (flat_round (λ i. line_if n ls (word 3 (n - 1) i)) 0 s
    ∙ ap (λ i. flat_map (λ i. line_if n ls (word 3 (n - 1) i)) (upfrom 0 s) ++ line_if n ls (word 3 (n - 1) i)) (omega arith))

-- sizes by number
pub word-length : (k s : ℕ) → length (word 3 k s) ≡ k
unfolding word
word-length zero s = refl
word-length (suc k) s = ap suc (word-length k s)

pub word_small : (k s j : ℕ) → look (word 3 k s) j ≤ 2
unfolding word
word_small zero s j = omega arith
word_small (suc k) s zero = omega arith
word_small (suc k) s (suc j) = word_small k s j

pub few_by_number : {n : ℕ} {one two : List ℕ} → Joins n one two → (k s : ℕ) (c : List ℕ) → k ≡ length one → c ≡ word 3 k s → Few n one two c
few_by_number J k s c e w = record {
  least = J.least;
  most = J.most;
  firsts = J.firsts;
  seconds = J.seconds;
  sized = omega (arith, ap length w, word-length k s, J.firsts);
  small = λ j h. rw w (word_small k s j);
  between = J.between;
}

-- at most 81 lists of sizes
pub few_lists : (k : ℕ) → k ≤ 4 → 3 ^ k ≤ 81
few_lists k h = pow-le-pow_right {n = 3} (omega arith) {i = k} {j = 4} h

module _ (n m : ℕ) where
  abbrev choice : Links
  choice = chosen (possible n) m

  pub another_number_of_links_is_no_page : length choice ≢ n - 1 → text (page_of 2 n m) ≡ []
  unfolding text
  another_number_of_links_is_no_page d = a_page_of_another_number_of_links_is_empty line_of 2 n m d

  pub the_lines_are_the_page : length choice ≡ n - 1 → lines_up_to (3 ^ (n - 1)) n choice ≡ text (page_of 2 n m)
  unfolding lines_up_to line_if text
  the_lines_are_the_page few = same? (joins_all choice (sites n)) 1
      (λ w. flat-same (λ s. pick (joins_all choice (sites n)) 1 (line_of (record { sites = n; links = choice; sizes = word 3 (n - 1) s })) [])
      (λ s. line_of (record { sites = n; links = choice; sizes = word 3 (n - 1) s })) (upfrom 0 (3 ^ (n - 1))) (λ s i. pick_same w _ [])
      ∙ sym (a_page_of_a_tree_is_counted line_of 2 n m few w))
      (λ d. flat-none (λ s. pick (joins_all choice (sites n)) 1 (line_of (record { sites = n; links = choice; sizes = word 3 (n - 1) s })) [])
      (upfrom 0 (3 ^ (n - 1))) (λ s i. pick_other d _ [])
      ∙ sym (a-page-without-a-tree-is-empty line_of 2 n m few d))

  -- a choice as it is held: the first places of two lists
  module _ (x y : List ℕ) (k : ℕ) (p : k ≤ length x) (q : k ≤ length y) (e : links (take k x) (take k y) ≡ choice) where
    pub held-choice : length choice ≡ k
    held-choice = sym (ap length e) ∙ length-links (take k x) (take k y) (omega (arith, length-take k x, length-take k y)) ∙ length-take-le k x p

    pub a-choice-joins : 2 ≤ n → n ≤ 5 → k ≡ n - 1 → Joins n (take k x) (take k y)
    a-choice-joins l h same = record {
      least = l;
      most = h;
      firsts = omega (arith, length-take-le k x p);
      seconds = omega (arith, length-take-le k y q);
      between = λ a i. possible_in n a (chosen_in (possible n) m a (rw e at i));
    }
