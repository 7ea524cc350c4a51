-- Names in either case (document 02, Card 4): strings read in capitals byte by byte, and what is hashed of them. Of names that are the same the caseless
-- bytes are the same, since a-z and A-Z differ in the bit of 32 alone.
use Rattle.std.specs.Prelude.{Bool, true, false, cond, ◌&&◌, List, [], ◌∷◌, ◌≢◌, ◌≡◌, refl, ℕ, ◌+◌, ◌-◌, ◌*◌, ◌^◌, ◌<◌, leb, length, get_or}
use Rattle.std.proofs.Common.{sym, ap, ◌∙◌, arith, ext_get_or, leb-true}
use Rattle.std.specs.Int.Bits.{bit_and}
use Rattle.std.proofs.lemmas.Nat.{and_block}
use Rattle.std.proofs.lemmas.List.{length-map}
use Rattle.std.proofs.Math.ListN.{get_or-map}
use Rattle.text_fields.specs.Fields.{capital, capitals, SameName, same_name, caseless, half_word}
use Rattle.text_fields.specs.FieldLaws.{both, not_same, equal_are_same}

-- ---- capitals

pub length-capitals : (f : List ℕ) → length (capitals f) ≡ length f
unfolding capitals
length-capitals f = length-map f capital

pub capital-at : (f : List ℕ) (i : ℕ) → get_or (capitals f) i 0 ≡ capital (get_or f i 0)
unfolding capitals
capital-at f i = get_or-map capital f i 0

-- names that are the same have one length
pub same_length : (f g : List ℕ) → SameName f g → length f ≡ length g
same_length f g e = sym (length-capitals f) ∙ ap length e ∙ length-capitals g

-- names are the same where each byte is, and not where one is not
pub alike_everywhere : (a b : List ℕ) → length a ≡ length b → ((k : ℕ) → k < length a → capital (get_or a k 0) ≡ capital (get_or b k 0)) → same_name a b ≡ true
alike_everywhere a b e each =
    let long : length (capitals a) ≡ length (capitals b) = length-capitals a ∙ e ∙ sym (length-capitals b) in
    let alike : capitals a ≡ capitals b = ext_get_or 0 (capitals a) (capitals b) long
    (λ k h. capital-at a k ∙ each k (omega (arith, length-capitals a)) ∙ sym (capital-at b k)) in
    rw (← alike) (equal_are_same (capitals a))

pub apart_somewhere : (a b : List ℕ) (k : ℕ) → capital (get_or a k 0) ≢ capital (get_or b k 0) → same_name a b ≡ false
apart_somewhere a b k d = not_same (capitals a) (capitals b) (λ e. d (sym (capital-at a k) ∙ ap (λ l. get_or l k 0) e ∙ capital-at b k))

-- ---- caseless bytes

pub length-caseless : (f : List ℕ) → length (caseless f) ≡ length f
unfolding caseless
length-caseless f = length-map f (λ b. bit_and b 223)

pub caseless-at : (f : List ℕ) (i : ℕ) → get_or (caseless f) i 0 ≡ bit_and (get_or f i 0) 223
unfolding caseless
caseless-at f i = get_or-map (λ b. bit_and b 223) f i 0

-- a letter and its capital: they are 96 and 64 and the same number below 32 more
caseless-capital : (b : ℕ) → bit_and (capital b) 223 ≡ bit_and b 223
caseless-capital b = by (leb 97 b && leb b 122) refl
  where
    by : (t : Bool) → (leb 97 b && leb b 122) ≡ t → bit_and (cond t (b - 32) b) 223 ≡ bit_and b 223
    by false e = refl
    by true e =
        let h = both (leb 97 b) (leb b 122) e in
        let low = leb-true 97 b h.0 in
        let high = leb-true b 122 h.1 in
        let small : b - 32 ≡ 2 * 2 ^ 5 + (b - 96) = omega arith in
        let large : b ≡ 3 * 2 ^ 5 + (b - 96) = omega arith in
        ap (λ x. bit_and x 223) small ∙ and_block 5 2 6 (b - 96) 31 (omega arith) (omega arith)
        ∙ sym (ap (λ x. bit_and x 223) large ∙ and_block 5 3 6 (b - 96) 31 (omega arith) (omega arith))

caseless-capitals : (f : List ℕ) → caseless (capitals f) ≡ caseless f
unfolding capitals caseless
caseless-capitals [] = refl
caseless-capitals (b ∷ f) = λ i. caseless-capital b i ∷ caseless-capitals f i

-- names that are the same have the same caseless bytes
pub same_names_are_caseless_alike : (f g : List ℕ) → SameName f g → caseless f ≡ caseless g
same_names_are_caseless_alike f g e = sym (caseless-capitals f) ∙ ap caseless e ∙ caseless-capitals g

-- four bytes without their bits of 32, all at once
bytes-without : (a b c d : ℕ) → a < 256 → b < 256 → c < 256
    → bit_and (a + 256 * b + 65536 * c + 16777216 * d) 3755991007
    ≡ bit_and a 223 + 256 * bit_and b 223 + 65536 * bit_and c 223 + 16777216 * bit_and d 223
bytes-without a b c d p q r =
    let nested : a + 256 * b + 65536 * c + 16777216 * d ≡ ((d * 2 ^ 8 + c) * 2 ^ 8 + b) * 2 ^ 8 + a = omega arith in
    ap (λ x. bit_and x 3755991007) nested
    ∙ and_block 8 ((d * 2 ^ 8 + c) * 2 ^ 8 + b) 14671839 a 223 (omega arith) (omega arith)
    ∙ ap (λ x. x * 2 ^ 8 + bit_and a 223) (and_block 8 (d * 2 ^ 8 + c) 57311 b 223 (omega arith) (omega arith)
    ∙ ap (λ x. x * 2 ^ 8 + bit_and b 223) (and_block 8 d 223 c 223 (omega arith) (omega arith)))
    ∙ omega arith

pub half-without : (s : List ℕ) (at : ℕ) → ((k : ℕ) → get_or s k 0 < 256) → bit_and (half_word s at) 3755991007 ≡ half_word (caseless s) at
unfolding half_word
half-without s at p =
    rw (caseless-at s at, caseless-at s (at + 1), caseless-at s (at + 2), caseless-at s (at + 3))
    (bytes-without _ _ _ _ (p at) (p (at + 1)) (p (at + 2)))
