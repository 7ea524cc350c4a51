-- The answer of `eliminate`: what is said of an offered tree, and the elimination order of its sites.
-- Document 01, "Pairing" (what is said before anything else); the order is that of the definition of balanced capacities.
use Rattle.std.specs.Prelude.{List, ℕ, replicate, Ok, Err}
use Rattle.model.specs.Limits.{SITES}
use Rattle.model.specs.Edition.{largest}
use Rattle.model.specs.Trimming.{elimination}
use Rattle.tree_order.specs.Toward.{elimination_toward, order_in}
use Rattle.tree.specs.Offer.{Offered, links, offer}
use Rattle.tree.specs.declared.Elimination.{Elimination}

-- an answer without an order: 0 in all SITES places
abbrev pub unordered : Offered → Elimination
unordered o = record { offer = o; sites = replicate SITES 0 }

-- the answer by what is said of the offer, with this order if it is accepted
unfoldable pub decide : Offered → List ℕ → Elimination
decide (Err why) order = unordered (Err why)
decide (Ok tt) order = record { offer = Ok tt; sites = order }

-- the answer to an offer of n sites, the first and second sites of the links, the marks and the capacities; the order looks at no marks
unfoldable pub eliminated : ℕ → List ℕ → List ℕ → List ℕ → List ℕ → Elimination
eliminated n one two marks c = decide (offer largest n one two marks c) (order_in n (elimination (links one two) n))

-- the same with the order that takes the root last
unfoldable pub eliminated_toward : ℕ → List ℕ → List ℕ → List ℕ → List ℕ → ℕ → Elimination
eliminated_toward n one two marks c root = decide (offer largest n one two marks c) (order_in n (elimination_toward (links one two) n root))
