-- An order stored in a lent list: what the loop over its places leaves.
use Rattle.std.specs.Prelude.{◌≡◌, refl, List, ◌++◌, ℕ, ◌≤◌, ◌<◌, length, drop, Ok, Err}
use Rattle.std.proofs.Common.{ap, ◌∙◌, map-id, le-leb}
use Rattle.std.proofs.lemmas.Bool.{lt-leb}
use Rattle.lists.specs.Numbers.{look}
use Rattle.tree.specs.Places.{filled, map_table}
use Rattle.model.specs.Edition.{editions}
use Rattle.model.specs.Refusals.{refused_as}
use Rattle.model.specs.declared.Refusal.{Refusal}
use Rattle.model.specs.Trimming.{elimination}
use Rattle.sheet.specs.Sheet.{Network, accepted, read_sheet}
use Rattle.sheet.specs.Reading.{reading}
use Rattle.planner.specs.Taken.{refused_is_read}
use Rattle.orders.specs.Outcome.{store, order_read, order_of}

-- all places of an order filled into a list
filled_order : (order l : List ℕ) → filled (look order) (length order) l ≡ order ++ drop (length order) l
unfolding filled
filled_order order l = ap (λ r. r ++ drop (length order) l) (map_table (λ x. x) order (length order) refl ∙ map-id order)

pub list_too_short : (order l : List ℕ) → length l < length order → store order l ≡ record { outcome = refused_as 9 0; list = l }
unfolding store
list_too_short order l h = rw (lt-leb (length order) (length l) h)

pub list_long_enough : (order l : List ℕ) → length order ≤ length l
    → store order l ≡ record { outcome = Ok (length order); list = filled (look order) (length order) l }
unfolding store
list_long_enough order l h = rw (le-leb (length order) (length l) h, filled_order order l)

-- a refused sheet is refused with the same number and line, and the list stays
pub refused_is_told : (s l : List ℕ) (f : Refusal) → Err f ≡ reading (read_sheet editions s) → order_of editions s l ≡ record { outcome = Err f; list = l }
unfolding order_of order_read
refused_is_told s l f e = rw (refused_is_read s f e) refl

-- an accepted sheet's order is stored
pub accepted_is_stored : (s l : List ℕ) (net : Network) → read_sheet editions s ≡ accepted net
    → order_of editions s l ≡ store (elimination net.links (length net.names)) l
unfolding order_of order_read
accepted_is_stored s l net e = rw e
