-- The outcome of `terminal_cuts`: what is said of the offer, and the owner of each site and the size and count of each cut.
-- Document 01, "Plans, trimmed sizes, end sets" (end set, owner, size, count) and "Pairing" (what is said before anything else).
use Rattle.std.specs.Prelude.{Bool, true, false, List, ℕ, eqb, length, Result, Ok, Err}
use Rattle.model.specs.Limits.{SIZE}
use Rattle.lists.specs.Numbers.{look}
use Rattle.model.specs.Edition.{largest}
use Rattle.model.specs.Flows.{Links, ends}
use Rattle.tree.specs.Offer.{Offered, links, within, offer}
use Rattle.tree.specs.declared.Unfit.{Unfit}
use Rattle.tree.specs.declared.Unfit.TheVariants as unfit
-- the owner of each site, and of each terminal the size and the count of its cut, each in a place for each site
unfoldable pub use Rattle.cuts_groups.specs.Places.{places, of_terminal}
unfoldable pub use Rattle.cuts_groups.specs.Steps.{owned}
use Rattle.cuts.specs.declared.Refused.{Refused}
use Rattle.cuts.specs.declared.Refused.TheVariants.{NoTree, TooLarge, Unequal}
use Rattle.cuts.specs.declared.Cuts.{Cuts}

-- what is said: the cuts, or why there are none
abbrev pub Answer : Type 0
Answer = Result Cuts Refused

-- the refusal of an offer that is not accepted
abbrev pub refused : Unfit → Refused
refused unfit.NoTree = NoTree
refused unfit.TooLarge = TooLarge

-- the cuts of the terminals of a network with n sites
unfoldable pub cuts : Links → ℕ → (ℕ → ℕ) → (ℕ → ℕ) → (ℕ → ℕ) → Cuts
cuts ls n terminal c t = let r = owned ls n terminal c t in record { owner = r.owner; size = r.size; count = r.count }

-- the cuts of an offer; its terminals are its ends
abbrev pub offered_cuts : ℕ → List ℕ → List ℕ → List ℕ → List ℕ → List ℕ → Cuts
offered_cuts n one two marks c t = cuts (links one two) n (look (ends (links one two) n marks)) (look c) (look t)

-- the outcome by what is said of the offer, then by whether there is a balanced capacity for each link, then by whether these are within the limit
unfoldable pub decide : Offered → Bool → Bool → Cuts → Answer
decide (Err why) each limited r = Err (refused why)
decide (Ok tt) false limited r = Err Unequal
decide (Ok tt) true false r = Err TooLarge
decide (Ok tt) true true r = Ok r

-- the outcome of n sites, the first and second sites of the links, the marks, the given and the balanced capacities
unfoldable pub outcome : ℕ → List ℕ → List ℕ → List ℕ → List ℕ → List ℕ → Answer
outcome n one two marks c t = decide (offer largest n one two marks c) (eqb (length t) (length one)) (within 0 SIZE t) (offered_cuts n one two marks c t)

-- ---- document 01's numbers

-- 01 has none for an offer that is no tree or too large, nor for balanced capacities that are not one for each link, where numbers are 0; success is 0
unfoldable pub number : Answer → ℕ
number (Err NoTree) = 0
number (Err TooLarge) = 0
number (Err Unequal) = 0
number (Ok r) = 0

-- no line is at fault
unfoldable pub line : Answer → ℕ
line a = 0
