-- An outcome as one number, for callers in other languages.
use Rattle.std.specs.Prelude.{cond, List, ℕ, ◌+◌, ◌-◌, ◌*◌, ◌/◌, ◌%◌, leb, set, Ok, Err}
use Rattle.model.specs.declared.Refusal.{Refusal}
use Rattle.model.specs.declared.TextRefusal.{TextRefusal}
use Rattle.planner.specs.Outcome.{Outcome}
use Rattle.logs.specs.Outcome as logs
use Rattle.exchanges.specs.Outcome as exchanges
use Rattle.verdicts.specs.Outcome as verdicts

-- a refusal: its number times 2 ^ 40, and its line times 2 ^ 20. No remainder loses anything, and each can be read off: `Unpacked`.
abbrev pub packed_refusal : Refusal → ℕ
packed_refusal r = r.number % 4096 * 1099511627776 + r.line % 1048576 * 1048576

-- a refusal of one of two texts: the text times 2 ^ 52 besides
abbrev pub packed_text_refusal : TextRefusal → ℕ
packed_text_refusal r = r.text % 4096 * 4503599627370496 + r.number % 4096 * 1099511627776 + r.line % 1048576 * 1048576

-- the refusal, or the report's length; so of the order of work (02, Card 3), the count of the sites in the place of the length
unfoldable pub packed : Outcome → ℕ
packed (Ok n) = n % 1048576
packed (Err r) = packed_refusal r

-- what a replay comes to (02, Card 6): the refusal, or the count of lines answered
unfoldable pub packed_replay : logs.Outcome → ℕ
packed_replay (Ok n) = n % 1048576
packed_replay (Err r) = packed_text_refusal r

-- what an exchange comes to (02, Card 10): the counts of both regions, the first times 2 ^ 20; or the refusal, the sheet in the place of the text
unfoldable pub packed_regions : exchanges.Outcome → ℕ
packed_regions (Ok both) = both.first.count % 1048576 * 1048576 + both.second.count % 1048576
packed_regions (Err r) = packed_text_refusal r

-- the caller's two places for the sums after it: the sum of the first region and that of the second; on a refusal as they were
unfoldable pub sums_after : exchanges.Outcome → List ℕ → List ℕ
sums_after (Ok both) l = set (set l 0 both.first.sum) 1 both.second.sum
sums_after (Err r) l = l

-- what judging a plan comes to (02, Card 12): a refusal as of a replay; else twice the total, and 1 more for yes
unfoldable pub packed_verdict : verdicts.Outcome → ℕ
packed_verdict (Ok v) = v.total % 4294967296 * 2 + cond v.largest 1 0
packed_verdict (Err r) = packed_text_refusal r

-- where a name stands (01: a site's name, looked up by number): the offset of its first byte times 2 ^ 20, and how many bytes it has; 0 of an empty one
unfoldable pub packed_name : ℕ × ℕ → ℕ
packed_name r = cond (leb r.1 r.0) 0 (r.0 % 1048576 * 1048576 + (r.1 - r.0) % 1048576)

-- ---- taken apart, as the C header does (c/waderarmoire.h)

-- the text: value >> 52
unfoldable pub unpacked_text : ℕ → ℕ
unpacked_text value = value / 4503599627370496

-- the number: (value >> 40) & 0xfff
unfoldable pub unpacked_number : ℕ → ℕ
unpacked_number value = value / 1099511627776 % 4096

-- the line: (value >> 20) & 0xfffff
unfoldable pub unpacked_line : ℕ → ℕ
unpacked_line value = value / 1048576 % 1048576

-- the length: value & 0xfffff
unfoldable pub unpacked_length : ℕ → ℕ
unpacked_length value = value % 1048576

-- of a name, its offset: value >> 20
unfoldable pub unpacked_offset : ℕ → ℕ
unpacked_offset value = value / 1048576

-- of a verdict, the total: value >> 1; and whether it is yes: value & 1
unfoldable pub unpacked_total : ℕ → ℕ
unpacked_total value = value / 2

unfoldable pub unpacked_yes : ℕ → ℕ
unpacked_yes value = value % 2
