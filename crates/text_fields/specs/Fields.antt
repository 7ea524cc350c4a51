-- The fields of a line, and which of them are names and numbers.
-- Document 01, "The network sheet", and 02, Card 4 (names in either case), Card 9 (bare numbers). Bytes are numbers: 9 tab, 48 .. 57 digits, 65 .. 90 A-Z,
-- 97 .. 122 a-z.
use Rattle.std.specs.Prelude.{Bool, true, false, cond, ◌&&◌, ◌||◌, List, [], ◌∷◌, map, ◌≡◌, ℕ, suc, ◌+◌, ◌-◌, ◌*◌, eqb, leb, ltb, length, get_or}
use Rattle.std.specs.Int.Bits.{bit_and}

-- two byte strings are the same
unfoldable pub same : List ℕ → List ℕ → Bool
same [] [] = true
same [] (y ∷ ys) = false
same (x ∷ xs) [] = false
same (x ∷ xs) (y ∷ ys) = eqb x y && same xs ys

-- a byte, a-z read as A-Z; every other byte is read as it is (02, Card 4)
abbrev pub capital : ℕ → ℕ
capital b = cond (leb 97 b && leb b 122) (b - 32) b

-- a string so read
unfoldable pub capitals : List ℕ → List ℕ
capitals f = map capital f

-- two names are the same: they agree when a-z is read as A-Z (02, Card 4)
abbrev pub SameName : List ℕ → List ℕ → Type 0
SameName f g = capitals f ≡ capitals g

-- whether they are
abbrev pub same_name : List ℕ → List ℕ → Bool
same_name f g = same (capitals f) (capitals g)

-- the bytes of a string without the bit of 32, by which a-z differ from A-Z: what names are hashed by
unfoldable pub caseless : List ℕ → List ℕ
caseless f = map (λ b. bit_and b 223) f

-- four bytes from place i on as one number, the first of them lowest
unfoldable pub half_word : List ℕ → ℕ → ℕ
half_word s i = get_or s i 0 + 256 * get_or s (i + 1) 0 + 65536 * get_or s (i + 2) 0 + 16777216 * get_or s (i + 3) 0

-- so for eight bytes
unfoldable pub word : List ℕ → ℕ → ℕ
word s i = half_word s i + 4294967296 * half_word s (i + 4)

-- the last eight bytes of a string, and 0 for a string of fewer
unfoldable pub last_word : List ℕ → ℕ
last_word s = cond (ltb (length s) 8) 0 (word s (length s - 8))

-- a byte in front of the first field
unfoldable pub push : ℕ → List (List ℕ) → List (List ℕ)
push b [] = (b ∷ []) ∷ []
push b (f ∷ fs) = (b ∷ f) ∷ fs

-- the fields of a line, parted by one tab
unfoldable pub fields : List ℕ → List (List ℕ)
fields [] = [] ∷ []
fields (b ∷ bs) = cond (eqb b 9) ([] ∷ fields bs) (push b (fields bs))

-- field k of a line
abbrev pub field : List (List ℕ) → ℕ → List ℕ
field fs k = get_or fs k []

-- the number of bytes before the first tab, or of all bytes where there is none
unfoldable pub field_length : List ℕ → ℕ
field_length [] = 0
field_length (b ∷ bs) = cond (eqb b 9) 0 (suc (field_length bs))

-- every element of a list passes a test
unfoldable pub all : {A : Type 0} → (A → Bool) → List A → Bool
all p [] = true
all p (x ∷ xs) = p x && all p xs

-- 0-9
abbrev pub is_digit : ℕ → Bool
is_digit b = leb 48 b && leb b 57

-- digits alone: as a name, a bare number (02, Card 9)
abbrev pub digits_alone : List ℕ → Bool
digits_alone f = all is_digit f

-- A-Z, a-z, 0-9
abbrev pub is_letter_or_digit : ℕ → Bool
is_letter_or_digit b = (leb 65 b && leb b 90) || (leb 97 b && leb b 122) || is_digit b

-- a name: 1 to 12 bytes from A-Z, a-z, 0-9
unfoldable pub is_name : List ℕ → Bool
is_name f = leb 1 (length f) && leb (length f) 12 && all is_letter_or_digit f

-- a number in decimal without a leading zero; 0 itself is allowed
unfoldable pub is_number : List ℕ → Bool
is_number [] = false
is_number (b ∷ bs) = is_digit b && all is_digit bs && (ltb 48 b || eqb (length bs) 0)

-- the value of a string of digits, after those that make v
unfoldable pub value_from : ℕ → List ℕ → ℕ
value_from v [] = v
value_from v (b ∷ bs) = value_from (v * 10 + (b - 48)) bs

abbrev pub value : List ℕ → ℕ
value f = value_from 0 f
