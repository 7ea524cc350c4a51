-- The open pairs in two arrays, their sites as one number and their amounts: place i holds the entry i, zeros stand behind them.
use Rattle.std.specs.Prelude.{◌≡◌, ◌≢◌, List, map, Option, MatchOption, ℕ, ◌+◌, ◌*◌, ◌/◌, ◌%◌, ◌≤◌, ◌<◌, length}
use Rattle.model.specs.Limits.{AMOUNT, OPEN, PLACES, SITES}
use Rattle.lists.specs.Numbers.{upfrom, look}
use Rattle.model.specs.Booking.{pair}
use Rattle.model.specs.declared.Pair.{Pair}
use Rattle.log_pairs.specs.declared.OpenPairs.{OpenPairs}

-- what a place without an entry holds
abbrev pub none : Pair
none = pair 0 0 0

-- the pair a, b as one number, for sites up to SITES
abbrev pub packed : ℕ → ℕ → ℕ
packed a b = a * PLACES + b

-- what place i holds
abbrev pub row : List ℕ → List ℕ → ℕ → Pair
row f m i = pair (look f i / PLACES) (look f i % PLACES) (look m i)

-- the entries of the first `count` places
unfoldable pub entries : List ℕ → List ℕ → ℕ → List Pair
entries f m count = map (row f m) (upfrom 0 count)

-- the open pairs
abbrev pub pairs_of : OpenPairs → List Pair
pairs_of o = entries o.pairs o.amounts o.count

-- the arrays hold the open pairs es, and nothing behind them
pub record Held (es : List Pair) (o : OpenPairs) : Type 0 where
  pub pairs : length o.pairs ≡ OPEN
  pub amounts : length o.amounts ≡ OPEN
  pub few : o.count ≤ OPEN
  pub same : pairs_of o ≡ es
  pub behind : (i : ℕ) → o.count ≤ i → row o.pairs o.amounts i ≡ none

-- how many places are looked at together
abbrev pub BLOCK : ℕ
BLOCK = 16

-- k is the first of `count` places from one on that has a number; `count` where none has
pub record FirstFrom (f : List ℕ) (key from count k : ℕ) : Type 0 where
  pub within : k ≤ count
  pub there : k < count → look f k ≡ key
  pub before : (i : ℕ) → from ≤ i → i < k → look f i ≢ key

-- the first of `count` places from one on that has a number, if one has
abbrev pub FoundFrom : List ℕ → ℕ → ℕ → ℕ → Option ℕ → Type 0
FoundFrom f key from count r = MatchOption r (FirstFrom f key from count count) (λ k. (k < count) × FirstFrom f key from count k)

-- k is the first of `count` places that has the pair a, b; `count` where none has
pub record FirstPlace (f : List ℕ) (a b count k : ℕ) : Type 0 where
  pub within : k ≤ count
  pub there : k < count → (look f k / PLACES ≡ a) × (look f k % PLACES ≡ b)
  pub before : (i : ℕ) → i < k → look f i / PLACES ≡ a → look f i % PLACES ≡ b → ⊥

-- the first of `count` places that has the pair a, b, if one has
abbrev pub Found : List ℕ → ℕ → ℕ → ℕ → Option ℕ → Type 0
Found f a b count r = MatchOption r (FirstPlace f a b count count) (λ k. (k < count) × FirstPlace f a b count k)

-- x more can be held for the pair a, b at place k
pub record Growing (o : OpenPairs) (a b x k : ℕ) : Type 0 where
  pub held : Held (pairs_of o) o
  pub place : FirstPlace o.pairs a b o.count k
  pub room : k < OPEN
  pub first : a ≤ SITES
  pub second : b ≤ SITES
  pub small : x ≤ AMOUNT
  pub fits : look o.amounts k ≤ AMOUNT

-- x more can be held for the pair a, b, at the place that was found or as a new one
abbrev pub MayGrow : OpenPairs → ℕ → ℕ → ℕ → Option ℕ → Type 0
MayGrow o a b x r = MatchOption r (Growing o a b x o.count) (λ k. (k < o.count) × Growing o a b x k)

-- the pair a, b at place k has x
pub record Shrinking (o : OpenPairs) (a b x k : ℕ) : Type 0 where
  pub held : Held (pairs_of o) o
  pub place : FirstPlace o.pairs a b o.count k
  pub there : k < o.count
  pub enough : x ≤ look o.amounts k
