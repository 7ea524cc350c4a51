-- A tree that is offered as lists: the number of sites, the two sites of each link, the marks of the sites, and the capacities.
-- Document 01, "Pairing": what every public function that is offered a tree with sizes says before anything else; 02, Card 7 (marks).
use Rattle.std.specs.Prelude.{Bool, true, cond, ◌&&◌, List, [], ◌∷◌, ℕ, suc, eqb, leb, length, Result, Ok, Err}
use Rattle.model.specs.Flows.{Links, sites, label}
use Rattle.model.specs.declared.Edition.{Edition}
unfoldable pub use Rattle.tree_order.specs.Links.{links}
use Rattle.tree.specs.declared.Unfit.{Unfit}
use Rattle.tree.specs.declared.Unfit.TheVariants.{NoTree, TooLarge}

-- what is said of an offer: that it is accepted, or why it is not
abbrev pub Offered : Type 0
Offered = Result (Unit {0}) Unfit

-- every number of a list lies between low and high
unfoldable pub within : ℕ → ℕ → List ℕ → Bool
within low high [] = true
within low high (x ∷ xs) = leb low x && leb x high && within low high xs

-- the sites of a list have the label r
unfoldable pub labelled : Links → ℕ → List ℕ → Bool
labelled ls r [] = true
labelled ls r (x ∷ xs) = eqb (label ls x) r && labelled ls r xs

-- a tree of two or more sites, at most `most`: links between sites, one less than sites, that join them all
unfoldable pub is_tree : ℕ → ℕ → List ℕ → List ℕ → Bool
is_tree most n one two =
    leb 2 n && leb n most && eqb n (suc (length one)) && eqb n (suc (length two)) && within 1 n one && within 1 n two
    && labelled (links one two) (label (links one two) 1) (sites n)

-- a tree with a mark for each site: a list of marks of another length than the sites is no tree offered (02, Card 7)
unfoldable pub is_marked_tree : ℕ → ℕ → List ℕ → List ℕ → List ℕ → Bool
is_marked_tree most n one two marks = is_tree most n one two && eqb (length marks) n

-- what is said by whether a tree is offered, how many its links are, and the capacities:
-- no tree, or a list of capacities of another length than the links; then a capacity above the limit
unfoldable pub offer_of : Edition → Bool → ℕ → List ℕ → Offered
offer_of ed tree k c =
    cond (tree && eqb (length c) k)
    (cond (within 0 ed.size c) (Ok tt) (Err TooLarge))
    (Err NoTree)

-- what is said of an offer
unfoldable pub offer : Edition → ℕ → List ℕ → List ℕ → List ℕ → List ℕ → Offered
offer ed n one two marks c = offer_of ed (is_marked_tree ed.sites n one two marks) (length one) c

-- ---- document 01's numbers

-- 01 has no number for an offer that is no tree or too large, where numbers are 0 and lent places keep their values; an accepted one is no refusal
unfoldable pub number : Offered → ℕ
number (Ok tt) = 0
number (Err NoTree) = 0
number (Err TooLarge) = 0

-- no line is at fault
unfoldable pub line : Offered → ℕ
line o = 0
