-- What the two steps of one region by itself come to, each as one number, for callers in other languages.
-- Document 02, Card 10.
use Rattle.std.specs.Prelude.{ℕ, ◌+◌, ◌*◌, ◌/◌, ◌%◌, Ok, Err}
use Rattle.sides.specs.Outcome.{First, Outcome}
use Rattle.packing.specs.Packed.{packed_refusal}

-- the first step: the refusal, or the size that is shown
unfoldable pub packed_first : First → ℕ
packed_first (Ok size) = size % 1048576
packed_first (Err r) = packed_refusal r

-- the second step: the refusal, or the number of trimmed sizes times 2 ^ 30, and their sum
unfoldable pub packed_side : Outcome → ℕ
packed_side (Ok a) = a.count % 1024 * 1073741824 + a.sum % 1073741824
packed_side (Err r) = packed_refusal r

-- ---- taken apart, where there is an answer, as the C header does (c/waderarmoire.h)

-- the number of trimmed sizes: value >> 30
unfoldable pub unpacked_count : ℕ → ℕ
unpacked_count value = value / 1073741824

-- their sum: value & 0x3fffffff
unfoldable pub unpacked_sum : ℕ → ℕ
unpacked_sum value = value % 1073741824
