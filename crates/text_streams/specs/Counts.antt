-- What is said of a number of bytes that stand at the start of a buffer.
use Rattle.std.specs.Prelude.{◌≡◌, ℕ, ◌≤◌, List, length, take}

-- `&xs[..n]` is in bounds and has n bytes
abbrev pub IsPrefixLen : ℕ → List ℕ → Type 0
IsPrefixLen n xs = (n ≤ length xs) × (n ≡ length (take n xs))

-- n bytes of a buffer are all of xs, or as many of its first as the buffer has room for
abbrev pub HoldsFront : ℕ → List ℕ → List ℕ → Type 0
HoldsFront n buffer xs = take n buffer ≡ take (length buffer) xs
