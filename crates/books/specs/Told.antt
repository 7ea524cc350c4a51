-- What writing a page tells, for every number of sites, choice and buffer: each outcome for its cause and for no other. All pages together are the book.
-- By the cases of the definition. Document 02, Card 13.
use Rattle.std.specs.Prelude.{◌≡◌, refl, ℕ, ◌+◌, ◌≤◌, ◌<◌, length, drop, Ok}
use Rattle.std.proofs.Common.{sym, ap, ◌∙◌, arith, length-append, length-drop}
use mathlib.Core.List.{List, ◌++◌, flat_map}
use Rattle.std.proofs.Math.Decide.{dec_le}
use Rattle.lists.specs.Numbers.{upfrom}
use Rattle.lists.specs.Sums.{cases, contradiction}
use Rattle.theory_book.specs.Book.{exercise_book}
use Rattle.theory_book.specs.FlatLaws.{flat-flat, flat-same}
use Rattle.theory_book.specs.ListLaws.{from_in}
use Rattle.theory_book.specs.Numbered.{choices_of, page_of}
use Rattle.theory_book.proofs.Pages.{the_pages_are_the_book}
use Rattle.book_lines.specs.Line.{line_of, text}
use Rattle.model.specs.Refusals.{refused_as}
use Rattle.books.specs.Outcome.{Outcome, Paged, number, line_told, length_told, choices, page, page_into}
use Rattle.books.specs.Steps.{counted, too_short, long-enough, a_page_is_its_text}

-- ---- all pages

-- the pages of each number of sites, one after another, are the lines of all entries of the book, in its order
pub all_pages_are_the_book : flat_map (λ n. flat_map (page n) (upfrom 0 (choices n))) (upfrom 2 4) ≡ text exercise_book
unfolding text
all_pages_are_the_book =
    flat-same (λ n. flat_map (page n) (upfrom 0 (choices n))) (λ n. flat_map line_of (flat_map (page_of 2 n) (upfrom 0 (choices_of n)))) (upfrom 2 4)
    (λ n i. let k = from_in 2 4 n i in pages-of n k.0 (omega arith))
    ∙ sym (flat-flat line_of (λ n. flat_map (page_of 2 n) (upfrom 0 (choices_of n))) (upfrom 2 4))
    ∙ ap (flat_map line_of) (the_pages_are_the_book 2 4 2)
  where
    a-page : (n m : ℕ) → m < choices n → page n m ≡ flat_map line_of (page_of 2 n m)
    a-page n m h = a_page_is_its_text n m h

    pages-of : (n : ℕ) → 2 ≤ n → n ≤ 5 → flat_map (page n) (upfrom 0 (choices n)) ≡ flat_map line_of (flat_map (page_of 2 n) (upfrom 0 (choices_of n)))
    pages-of n l h =
        flat-same (page n) (λ m. flat_map line_of (page_of 2 n m)) (upfrom 0 (choices n)) (λ m i. a-page n m (omega (arith, from_in 0 (choices n) m i)))
        ∙ ap (λ k. flat_map (λ m. flat_map line_of (page_of 2 n m)) (upfrom 0 k)) (counted n l h)
        ∙ sym (flat-flat line_of (page_of 2 n) (upfrom 0 (choices_of n)))

-- ---- what is told

-- refused with 9 at line 0: the length is 0 and the buffer keeps its bytes
pub record IsRefused (b : List ℕ) (p : Paged) : Type 0 where
  pub number-told : number p.outcome ≡ 9
  pub line-told : line_told p.outcome ≡ 0
  pub length-told : length_told p.outcome ≡ 0
  pub buffer_kept : p.buffer ≡ b

-- written: number 0, line 0 and the page's length; the buffer holds the page, and after it its bytes from before
pub record IsWritten (t b : List ℕ) (p : Paged) : Type 0 where
  pub number-told : number p.outcome ≡ 0
  pub line-told : line_told p.outcome ≡ 0
  pub length-told : length_told p.outcome ≡ length t
  pub buffer_filled : p.buffer ≡ t ++ drop (length t) b

-- what a page into the buffer b comes to: the buffer is too short for it, or it is written
pub data PageTold (n m : ℕ) (b : List ℕ) : Type 0 where
  short_buffer : length b < length (page n m) → IsRefused b (page_into n m b) → PageTold n m b
  written-page : length (page n m) ≤ length b → IsWritten (page n m) b (page_into n m b) → PageTold n m b

pub a_page_is_told_or_9 : (n m : ℕ) (b : List ℕ) → PageTold n m b
unfolding page_into
a_page_is_told_or_9 n m b = cases (dec_le (length (page n m)) (length b))
    (λ h. written-page h (rw (long-enough (page n m) b h) (record { number-told = refl; line-told = refl; length-told = refl; buffer_filled = refl })))
    (λ h. short_buffer (omega arith)
    (rw (too_short (page n m) b (omega arith)) (record { number-told = refl; line-told = refl; length-told = refl; buffer_kept = refl })))

-- a page that is told stands within the buffer
pub a-page-told-is-within : (n m k : ℕ) (b : List ℕ) → (page_into n m b).outcome ≡ Ok k → k ≤ length b
unfolding page_into
a-page-told-is-within n m k b e = cases (dec_le (length (page n m)) (length b))
    (λ h. let same : ◌≡◌ {A = Outcome} (Ok (length (page n m))) (Ok k) = sym (ap (λ p. p.outcome) (long-enough (page n m) b h)) ∙ e in
    let number : length (page n m) ≡ k = cc in omega arith)
    (λ h. let other : ◌≡◌ {A = Outcome} (refused_as 9 0) (Ok k) = sym (ap (λ p. p.outcome) (too_short (page n m) b (omega arith))) ∙ e in contradiction cc)

pub the_buffer_stays : (n m : ℕ) (b : List ℕ) → length (page_into n m b).buffer ≡ length b
unfolding page_into
the_buffer_stays n m b = cases (dec_le (length (page n m)) (length b))
    (λ h. ap (λ p. length p.buffer) (long-enough (page n m) b h) ∙ simp (length-append, length-drop) (omega arith))
    (λ h. ap (λ p. length p.buffer) (too_short (page n m) b (omega arith)))
