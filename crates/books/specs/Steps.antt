-- What the code of a page relies on: the numbers of pages, computed, and a page stored from the front of a buffer.
use Rattle.std.specs.Prelude.{◌≡◌, refl, ◌≢◌, ℕ, ◌+◌, ◌≤◌, ◌<◌, Ok}
use Rattle.std.proofs.Math.Path.{ap}
use Rattle.std.proofs.Common.{◌∙◌, le-leb, lt-ltb, le-ltb}
use mathlib.Core.List.{List, [], ◌++◌, flat_map}
use native.Mathlib.Omega.{arith}
use Rattle.std.proofs.Math.Decide.{dec_le}
use Rattle.std.proofs.lemmas.Bool.{lt-leb}
use Rattle.std.proofs.lemmas.List.Edits.{sets}
use Rattle.std.proofs.Math.Seq.{sets-eq}
use Rattle.std.proofs.Math.ListN.{length, drop}
use Rattle.lists.specs.Numbers.{upfrom}
use Rattle.lists.specs.Sums.{cases}
use Rattle.theory_book.specs.Book.{possible}
use Rattle.theory_book.specs.Numbered.{choices_of, page_of}
use Rattle.book_lines.specs.Line.{text}
use Rattle.model.specs.Refusals.{refused_as}
use Rattle.books.specs.Outcome.{choices, page, deliver, page_into}

-- ---- the numbers of pages

pub pages_of_2 : choices 2 ≡ 2
unfolding choices choices_of possible flat_map upfrom
pages_of_2 = refl

pub pages_of_3 : choices 3 ≡ 8
unfolding choices choices_of possible flat_map upfrom
pages_of_3 = refl

pub pages_of_4 : choices 4 ≡ 64
unfolding choices choices_of possible flat_map upfrom
pages_of_4 = refl

pub pages_of_5 : choices 5 ≡ 1024
unfolding choices choices_of possible flat_map upfrom
pages_of_5 = refl

-- so many sites as the book has
pub counted : (n : ℕ) → 2 ≤ n → n ≤ 5 → choices n ≡ choices_of n
unfolding choices
counted n l h = rw (le-leb 2 n l, le-leb n 5 h)

few_sites : (n : ℕ) → n < 2 → choices n ≡ 0
unfolding choices
few_sites n h = rw (lt-leb 2 n h)

many_sites : (n : ℕ) → 5 < n → choices n ≡ 0
unfolding choices
many_sites n h = rw (le-leb 2 n (omega arith), lt-leb n 5 h)

pub no_pages : (n : ℕ) → n ≢ 2 → n ≢ 3 → n ≢ 4 → n ≢ 5 → choices n ≡ 0
no_pages n a b c d = cases (dec_le 2 n) (λ h. many_sites n (omega arith)) (λ h. few_sites n (omega arith))

pub a_page_has_2_to_5_sites : (n m : ℕ) → m < choices n → (2 ≤ n) × (n ≤ 5)
a_page_has_2_to_5_sites n m h = (
  cases (dec_le 2 n) (λ l. l) (λ l. absurd (omega (arith, few_sites n (omega arith)))),
  cases (dec_le n 5) (λ l. l) (λ l. absurd (omega (arith, many_sites n (omega arith)))),
)

-- ---- a text into a buffer

pub too_short : (t b : List ℕ) → length b < length t → deliver t b ≡ record { outcome = refused_as 9 0; buffer = b }
unfolding deliver
too_short t b h = rw (lt-leb (length t) (length b) h)

pub long-enough : (t b : List ℕ) → length t ≤ length b → deliver t b ≡ record { outcome = Ok (length t); buffer = t ++ drop (length t) b }
unfolding deliver
long-enough t b h = rw (le-leb (length t) (length b) h)

-- where there is no such page nothing is written
pub no_page_is_empty : (n m : ℕ) (b : List ℕ) → choices n ≤ m → page_into n m b ≡ record { outcome = Ok 0; buffer = b }
unfolding page_into page
no_page_is_empty n m b h = rw (le-ltb m (choices n) h) (long-enough [] b (omega arith))

module _ (n m : ℕ) (h : m < choices n) where
  pub a_page_is_its_text : page n m ≡ text (page_of 2 n m)
  unfolding page
  a_page_is_its_text = rw (lt-ltb m (choices n) h)

  pub a_page_too_long : (b : List ℕ) → length b < length (text (page_of 2 n m)) → page_into n m b ≡ record { outcome = refused_as 9 0; buffer = b }
  unfolding page_into
  a_page_too_long b l = rw a_page_is_its_text (too_short (text (page_of 2 n m)) b l)

  -- stored from the front of a buffer that has room for it
  pub a-page-stored : (b after : List ℕ) (k : ℕ) → length (text (page_of 2 n m)) ≤ length b → k ≡ length (text (page_of 2 n m))
      → after ≡ sets b 0 (text (page_of 2 n m)) → page_into n m b ≡ record { outcome = Ok k; buffer = after }
  unfolding page_into
  a-page-stored b after k l s e =
      let t = text (page_of 2 n m) in
      let z : 0 + length t ≡ length t = omega arith in
      let front : after ≡ t ++ drop (length t) b = e ∙ sets-eq t b 0 (omega arith) ∙ ap (λ i. t ++ drop i b) z in
      rw (a_page_is_its_text, s, front) (long-enough t b l)
