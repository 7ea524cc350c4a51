-- A size by its digits one by one: the value so far never falls.
use Rattle.std.specs.Prelude.{List, [], ◌∷◌, ◌≡◌, ℕ, ◌+◌, ◌-◌, ◌*◌, ◌≤◌, ◌<◌, length, get_or, drop, Some, None}
use Rattle.std.proofs.Common.{◌∙◌, add-one, arith, drop-cons, le-leb}
use Rattle.std.proofs.lemmas.Bool.{lt-leb}
use Rattle.text_fields.specs.Fields.{value_from, value}
use Rattle.text_grammar.specs.Grammar.{size_of}

-- the value of the digits from place i on, after those that make v, by the digit at i
value_step : (s : List ℕ) (v i : ℕ) → i < length s → value_from v (drop i s) ≡ value_from (v * 10 + (get_or s i 0 - 48)) (drop (i + 1) s)
unfolding value_from
value_step s v i h = rw (drop-cons s i 0 h, add-one)

-- more digits never make a smaller value
value_grows : (s : List ℕ) (v : ℕ) → v ≤ value_from v s
unfolding value_from
value_grows [] v = omega arith
value_grows (b ∷ s) v = omega (arith, value_grows s (v * 10 + (b - 48)))

-- with the digit at place i the value so far is at most the whole, and the digits left make the whole of it
pub value_turn : (s : List ℕ) (v i d : ℕ) → i < length s → d ≡ get_or s i 0 - 48 → value s ≡ value_from v (drop i s)
    → (v * 10 + d ≤ value s) × (value s ≡ value_from (v * 10 + d) (drop (i + 1) s))
value_turn s v i d h e w =
    let whole : value s ≡ value_from (v * 10 + d) (drop (i + 1) s) = w ∙ rw e (value_step s v i h) in
    (omega (arith, whole, value_grows (drop (i + 1) s) (v * 10 + d)), whole)

pub size-within : (most : ℕ) (s : List ℕ) → value s ≤ most → size_of most s ≡ Some (value s)
unfolding size_of
size-within most s h = rw (le-leb (value s) most h)

pub size_above : (most : ℕ) (s : List ℕ) → most < value s → size_of most s ≡ None
unfolding size_of
size_above most s h = rw (lt-leb (value s) most h)
