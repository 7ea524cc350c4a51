-- Eight bytes read as one number: what the code that hashes names knows of them.
use Rattle.std.specs.Prelude.{List, ◌≡◌, ℕ, ◌+◌, ◌*◌, ◌^◌, ◌<◌, get_or, drop}
use Rattle.std.proofs.Common.{ap, ◌∙◌, arith, w64}
use Rattle.std.proofs.Math.Seq.{get_or-drop}
use Rattle.std.specs.Int.{from_le_bytes}
use Rattle.std.specs.Int.Bits.{bit_and}
use Rattle.std.proofs.lemmas.Nat.{and_block}
use Rattle.text_fields.specs.Fields.{caseless, half_word, word}
use Rattle.text_fields.specs.Capitals.{half-without}

-- four bytes make a number below 2 ^ 32
half-below : (s : List ℕ) (at : ℕ) → ((k : ℕ) → get_or s k 0 < 256) → half_word s at < 4294967296
unfolding half_word
half-below s at p = omega (arith, p at, p (at + 1), p (at + 2), p (at + 3))

-- eight bytes without their bits of 32, all at once
pub word-without : (s : List ℕ) (at : ℕ) → ((k : ℕ) → get_or s k 0 < 256) → bit_and (word s at) 16131858542891098079 ≡ word (caseless s) at
unfolding word
word-without s at p =
    let low = half_word s at in
    let high = half_word s (at + 4) in
    let halves : low + 4294967296 * high ≡ high * 2 ^ 32 + low = omega arith in
    let both = and_block 32 high 3755991007 low 3755991007 (half-below s at p) (omega arith) in
    ap (λ x. bit_and x 16131858542891098079) halves ∙ both ∙ rw (half-without s at p, half-without s (at + 4) p) (omega arith)

-- eight bytes in a row, lowest first, are the word at their place
pub eight_bytes : (s : List ℕ) (at : ℕ) → from_le_bytes w64 (drop at s) ≡ word s at
unfolding half_word word
eight_bytes s at =
    let five : at + 4 + 1 ≡ at + 5 = omega arith in
    let six : at + 4 + 2 ≡ at + 6 = omega arith in
    let seven : at + 4 + 3 ≡ at + 7 = omega arith in
    let none : at + 0 ≡ at = omega arith in
    simp (get_or-drop, five, six, seven, none) (omega arith)
