-- The outcome of the order of work, for every sheet and every lent list: number, line, count, and the list after.
-- Document 02, Card 3.
use Rattle.std.specs.Prelude.{cond, List, ◌++◌, ℕ, leb, length, drop, Ok}
use Rattle.model.specs.Trimming.{elimination}
use Rattle.model.specs.Refusals.{refused_as}
use Rattle.model.specs.declared.Edition.{Edition}
use Rattle.sheet.specs.Sheet.{Read, refused, accepted, read_sheet}
use Rattle.planner.specs.Outcome.{length_of}
-- the outcome, as that of planning, and its number and line
pub use Rattle.planner.specs.Outcome.{Outcome}
pub use Rattle.model.specs.Refusals.{number, line_of}

-- the count of sites taken
abbrev pub count_of : Outcome → ℕ
count_of = length_of

-- the outcome, and the lent list after
pub record Ordered : Type 0 where
  pub outcome : Outcome
  pub list : List ℕ

-- an order into a lent list: 9 where the list has fewer places than there are sites; the places after the answer keep their values
unfoldable pub store : List ℕ → List ℕ → Ordered
store order l =
    cond (leb (length order) (length l))
    (record { outcome = Ok (length order); list = order ++ drop (length order) l })
    (record { outcome = refused_as 9 0; list = l })

-- the order of work over a sheet that is read
unfoldable pub order_read : List ℕ → Read → Ordered
order_read l (refused n k) = record { outcome = refused_as n k; list = l }
order_read l (accepted net) = store (elimination net.links (length net.names)) l

-- the order of work over the sheet s, into the lent list l
unfoldable pub order_of : List Edition → List ℕ → List ℕ → Ordered
order_of known s l = order_read l (read_sheet known s)
