-- The outcome of pairing: what is said of an offered tree, the lent list after it, and document 01's number.
-- Document 01, "Pairing" (what is said, in its order; the pair list).
use Rattle.std.specs.Prelude.{Bool, true, false, List, ◌++◌, ℕ, leb, length, drop, Ok, Err, Result}
use Rattle.lists.specs.Numbers.{look}
use Rattle.model.specs.Edition.{largest}
use Rattle.model.specs.Flows.{ends}
use Rattle.model.specs.Parts.{pair_list_of_parts}
use Rattle.model.specs.declared.Pair.{Pair}
use Rattle.tree.specs.Offer.{Offered, links, offer}
use Rattle.tree.specs.declared.Unfit.{Unfit}
use Rattle.tree.specs.declared.Unfit.TheVariants as unfit
use Rattle.pairing.specs.Weighing.Heavy.{heavy_somewhere}
use Rattle.pairing.specs.declared.Unpaired.{Unpaired}
use Rattle.pairing.specs.declared.Unpaired.TheVariants.{NoTree, TooLarge, Short, Heavy}

-- ---- what is said

-- the refusal of an offer that is not accepted
abbrev pub unpaired : Unfit → Unpaired
unpaired unfit.NoTree = NoTree
unpaired unfit.TooLarge = TooLarge

-- of the offer first, then whether the lent list has a place for each link, then of a heavy link; else how many pairs there are
unfoldable pub decide : Offered → Bool → Bool → ℕ → Result ℕ Unpaired
decide (Err why) enough heavy count = Err (unpaired why)
decide (Ok tt) false heavy count = Err Short
decide (Ok tt) true true count = Err Heavy
decide (Ok tt) true false count = Ok count

-- the terminals of an offered tree: its ends
abbrev pub terminals : ℕ → List ℕ → List ℕ → List ℕ → ℕ → ℕ
terminals n one two marks = look (ends (links one two) n marks)

-- its pair list, over all parts
abbrev pub list_of : ℕ → List ℕ → List ℕ → List ℕ → List ℕ → List Pair
list_of n one two marks c = pair_list_of_parts (links one two) n (look c) (terminals n one two marks)

-- what is said of an offer with so many lent places
unfoldable pub answer : ℕ → List ℕ → List ℕ → List ℕ → List ℕ → ℕ → Result ℕ Unpaired
answer n one two marks c places =
    decide (offer largest n one two marks c) (leb (length one) places) (heavy_somewhere (links one two) n (terminals n one two marks) (look c))
    (length (list_of n one two marks c))

-- ---- the lent list after

-- the pairs and then its own places past their count, or its own places where something else is said
unfoldable pub after : Result ℕ Unpaired → List Pair → List Pair → List Pair
after (Ok count) ps lent = ps ++ drop count lent
after (Err e) ps lent = lent

unfoldable pub paired : ℕ → List ℕ → List ℕ → List ℕ → List ℕ → List Pair → List Pair
paired n one two marks c lent = after (answer n one two marks c (length lent)) (list_of n one two marks c) lent

-- ---- document 01's numbers

-- 9 for a lent list with fewer places than links. It has none for an offer that is no tree or too large, nor for a heavy link, where numbers are 0,
-- and success is 0; the line is always 0
unfoldable pub number : Result ℕ Unpaired → ℕ
number (Ok count) = 0
number (Err NoTree) = 0
number (Err TooLarge) = 0
number (Err Short) = 9
number (Err Heavy) = 0

unfoldable pub line : Result ℕ Unpaired → ℕ
line a = 0

-- how many pairs there are, 0 where something else is said
unfoldable pub pair_count : Result ℕ Unpaired → ℕ
pair_count (Ok count) = count
pair_count (Err e) = 0
