-- When a plan drawn by hand loads a link above twice its capacity, and when it fits: by the sum over the links that are so loaded.
use Rattle.std.specs.Prelude.{List, ℕ, ◌*◌, ◌<◌, length}
use Rattle.model.specs.Flows.{Links, load}
use Rattle.model.specs.declared.Pair.{Pair}

-- a link whose load is above twice its capacity (02: some load above twice its usable size)
pub record Overloaded (ls : Links) (c : ℕ → ℕ) (es : List Pair) : Type 0 where
  pub link : ℕ
  pub inside : link < length ls
  pub over : 2 * c link < load ls es link
