-- What a writer leaves: the bytes stand from a place of the buffer on, as far as it goes, and the place after them is returned.
use Rattle.std.specs.Prelude.{◌≡◌, List, ℕ, ◌+◌, ◌≤◌, ◌<◌, length}
use Rattle.std.proofs.lemmas.List.Edits.{sets}
use Rattle.model.specs.Limits.{REPORT}

pub record Wrote (before : List ℕ) (at : ℕ) (written after : List ℕ) (r : ℕ) : Type 0 where
  pub next : r ≡ at + length written
  pub stored : after ≡ sets before at written

-- what a writer requires: its text, from a place on, ends within the bytes of a report
abbrev pub Room : ℕ → List ℕ → Type 0
Room at text = at + length text ≤ REPORT

-- k bytes from the front of a part and k from its back are all of it, and there is room for it and a byte behind it
pub record Halves (before : List ℕ) (at : ℕ) (part : List ℕ) (k : ℕ) : Type 0 where
  pub low : k ≤ length part
  pub high : length part ≤ k + k
  pub room : at + length part < length before
