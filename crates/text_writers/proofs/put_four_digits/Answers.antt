-- `put_four_digits` meets its contract: the bytes of the word are the digits, from the first to the last.
use Rattle.std.proofs.Common.{◌≡◌, refl, sym, ap, ◌∙◌, List, ℕ, suc, ◌+◌, ◌-◌, ◌*◌, ◌/◌, ◌%◌, ◌<◌, set, arith}
use Rattle.std.proofs.lemmas.List.Edits.{sets}
use Rattle.text_writers.specs.Fields.{padded}
use Rattle.text_writers.proofs.put_four_digits.Goals as goal

-- four bytes, and the digits that they are
four_bytes : (l : List ℕ) (at n a b c d : ℕ) → a ≡ 48 + n / 10 / 10 / 10 % 10 → b ≡ 48 + n / 10 / 10 % 10 → c ≡ 48 + n / 10 % 10 → d ≡ 48 + n % 10
    → set (set (set (set l at a) (at + 1) b) (at + 2) c) (at + 3) d ≡ sets l at (padded 4 n)
unfolding padded
four_bytes l at n a b c d p q r s =
    let one : at + 1 ≡ suc at = omega arith in
    let two : at + 2 ≡ suc (suc at) = omega arith in
    let three : at + 3 ≡ suc (suc (suc at)) = omega arith in
    rw (one, two, three, p, q, r, s)

-- the word of two numbers of two digits
abbrev word : ℕ → ℕ → ℕ
word high low = (high + low * 65536) * 256 + 808464432 - (high / 10 + low / 10 * 65536) * 2559

word_sum : (h l : ℕ) → word h l ≡ 48 + h / 10 + 256 * (48 + h % 10) + 65536 * (48 + l / 10) + 16777216 * (48 + l % 10)
word_sum h l = omega arith

-- the bytes of a word
bytes : (w a b c d : ℕ) → w ≡ a + 256 * b + 65536 * c + 16777216 * d → a < 256 → b < 256 → c < 256
    → (w % 256 ≡ a) × (w / 256 % 256 ≡ b) × (w / 65536 % 256 ≡ c) × (w / 16777216 ≡ d)
bytes w a b c d e p q r =
    let one : w / 256 ≡ b + 256 * c + 65536 * d = omega arith in
    let two : w / 65536 ≡ c + 256 * d = omega arith in
    (omega arith, omega (arith, one), omega (arith, two), omega arith)

-- they are the digits, from the first to the last
word-digits : (l : List ℕ) (at n w : ℕ) → n < 10000 → w ≡ word (n / 100) (n % 100)
    → set (set (set (set l at (w % 256)) (at + 1) (w / 256 % 256)) (at + 2) (w / 65536 % 256)) (at + 3) (w / 16777216) ≡ sets l at (padded 4 n)
word-digits l at n w h e =
    let is = bytes w (48 + n / 100 / 10) (48 + n / 100 % 10) (48 + n % 100 / 10) (48 + n % 100 % 10) (e ∙ word_sum (n / 100) (n % 100)) (omega arith)
    (omega arith) (omega arith) in
    let hundreds : n / 10 / 10 ≡ n / 100 = omega arith in
    let thousands : n / 10 / 10 / 10 % 10 ≡ n / 100 / 10 = omega (arith, hundreds) in
    let tens : n / 10 % 10 ≡ n % 100 / 10 = omega arith in
    let ones : n % 10 ≡ n % 100 % 10 = omega arith in
    four_bytes l at n (w % 256) (w / 256 % 256) (w / 65536 % 256) (w / 16777216) (is.0 ∙ ap (λ x. 48 + x) (sym thousands))
    (is.1 ∙ ap (λ x. 48 + x % 10) (sym hundreds)) (is.2 ∙ ap (λ x. 48 + x) (sym tens)) (is.3 ∙ ap (λ x. 48 + x) (sym ones))

pub returns : goal.returns
returns c = word-digits c.args.buf.now c.args.at c.args.n (word (c.args.n / 100) (c.args.n % 100)) c.requires.0 refl
