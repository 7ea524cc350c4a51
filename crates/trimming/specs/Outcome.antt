-- The outcome of `trim`: what is said, the lent list after it, and document 01's number.
-- Document 01, "Pairing" (what is said of an offered tree), "The network sheet" (a lent list too short) and "Plans, trimmed sizes, end sets".
use Rattle.std.specs.Prelude.{Bool, true, false, List, ◌++◌, ℕ, leb, length, drop, Result, Ok, Err}
use Rattle.model.specs.Edition.{largest}
use Rattle.lists.specs.Numbers.{look}
use Rattle.model.specs.Flows.{ends}
use Rattle.model.specs.Trimming.{balanced}
use Rattle.tree.specs.Offer.{Offered, links, offer}
use Rattle.tree.specs.declared.Unfit.{Unfit}
use Rattle.tree.specs.declared.Unfit.TheVariants as unfit
use Rattle.trimming.specs.declared.Refused.{Refused}
use Rattle.trimming.specs.declared.Refused.TheVariants.{NoTree, TooLarge, Short}

-- what is said: that the capacities are balanced, or why they are not
abbrev pub Trimming : Type 0
Trimming = Result (Unit {0}) Refused

-- the refusal of an offer that is not accepted
abbrev pub refused : Unfit → Refused
refused unfit.NoTree = NoTree
refused unfit.TooLarge = TooLarge

-- what is said: of the offer first, then whether the lent list has a place for each link
unfoldable pub decide : Offered → Bool → Trimming
decide (Err why) enough = Err (refused why)
decide (Ok tt) false = Err Short
decide (Ok tt) true = Ok tt

-- what is said of an offer of n sites, the first and second sites of the links, the marks and the capacities, and of the lent list
unfoldable pub answer : ℕ → List ℕ → List ℕ → List ℕ → List ℕ → List ℕ → Trimming
answer n one two marks c lent = decide (offer largest n one two marks c) (leb (length one) (length lent))

-- the balanced capacities of the offered tree (01: trimmed sizes); the terminals are its ends
unfoldable pub capacities : ℕ → List ℕ → List ℕ → List ℕ → List ℕ → List ℕ
capacities n one two marks c = balanced (links one two) n (look (ends (links one two) n marks)) c

-- the lent list after: t and then its own places past that, or its own places where something else is said
unfoldable pub after : Trimming → List ℕ → List ℕ → List ℕ
after (Err why) t lent = lent
after (Ok tt) t lent = t ++ drop (length t) lent

-- the lent list after the answer to an offer
unfoldable pub trimmed : ℕ → List ℕ → List ℕ → List ℕ → List ℕ → List ℕ → List ℕ
trimmed n one two marks c lent = after (answer n one two marks c lent) (capacities n one two marks c) lent

-- ---- document 01's numbers

-- 9 for a lent list with fewer places than links. It has none for an offer that is no tree or too large, where numbers are 0, and success is 0
unfoldable pub number : Trimming → ℕ
number (Err NoTree) = 0
number (Err TooLarge) = 0
number (Err Short) = 9
number (Ok tt) = 0

-- no line is at fault
unfoldable pub line : Trimming → ℕ
line a = 0

-- how many places are written: one for each link, 0 where something else is said
unfoldable pub written : Trimming → ℕ → ℕ
written (Err why) links = 0
written (Ok tt) links = links
