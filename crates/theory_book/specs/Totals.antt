-- The total of an entry is the largest of its tree, and that of the plan of which the report is made: through trimming and the pair list, by the
-- theorems that demand 2 rests on.
use Rattle.std.specs.Prelude.{◌≡◌, List, ℕ, ◌*◌, ◌≤◌}
use Rattle.lists.specs.Numbers.{look}
use Rattle.model.specs.Flows.{Multiflow, Fits, total}
use Rattle.model.specs.Parts.{pair_list_of_parts}
use Rattle.model.specs.declared.Pair.{Pair}
use Rattle.theory_book.specs.Book.{Entry, ends_in, trimmed_in, halves}

-- the pairs of an entry's plan (01: pairing)
abbrev pub pairs_in : Entry → List Pair
pairs_in e = pair_list_of_parts e.links e.sites (look (trimmed_in e)) (ends_in e)

-- the total of an entry is the largest
pub record LargestTotal (e : Entry) : Type 0 where
  -- no plan that fits the sizes, in parts of a circuit of any size, has a larger one: in circuits, total fs / parts is at most halves / 2
  pub largest : (fs : List Pair) → Multiflow e.links e.sites (ends_in e) fs → (parts : ℕ) → Fits e.links parts (look e.sizes) fs
      → 2 * total fs ≤ parts * halves e
  -- the pair list is a plan in halves that fits the sizes and reaches it
  pub plan : Multiflow e.links e.sites (ends_in e) (pairs_in e)
  pub fits : Fits e.links 2 (look e.sizes) (pairs_in e)
  pub reached : total (pairs_in e) ≡ halves e
