-- Two small regions, computed (document 02, Card 10): what each shows, what each is given, and their joined tree.
use Rattle.std.specs.Prelude.{List, [], ◌∷◌, ℕ}
use Rattle.std.proofs.Math.Decide.{ℕ_discrete, dec_lt}
use Rattle.lists.specs.Numbers.{pick, is, differ, sum, look}
use Rattle.model.specs.Flows.{at, sum_at, leaf}
use Rattle.theory_regions.specs.Regions.{Region, lone, Given, given}
use Rattle.theory_regions.specs.JoinedTree.{Border}
use Rattle.theory_regions.specs.Sharing.{first_from, Sharing, commons, shared_first, shared_second, may_be_far, chosen, shared_at, sharing_of}

-- site 1 joined to the far site 4, to 2 and to 3; the link to 4 is shared
abbrev pub hub : Region
hub = record { links = (1, 4) ∷ (1, 2) ∷ (1, 3) ∷ []; sites = 4; marks = 0 ∷ 0 ∷ 0 ∷ 0 ∷ []; capacities = 10 ∷ 5 ∷ 1 ∷ [] }

abbrev pub hub_border : Border
hub_border = record { shared = 0; near = 1; far = 4 }

-- site 2 joined to 1, to the far site 3 and to 4; the link to 3 is shared
abbrev pub fork : List ℕ → Region
fork marks = record { links = (1, 2) ∷ (3, 2) ∷ (2, 4) ∷ []; sites = 4; marks = marks; capacities = 1 ∷ 10 ∷ 1 ∷ [] }

abbrev pub fork_border : Border
fork_border = record { shared = 1; near = 2; far = 3 }

-- the marks of the fork: none; one at its near site; one at its far site
abbrev pub plain : List ℕ
plain = 0 ∷ 0 ∷ 0 ∷ 0 ∷ []

abbrev pub marked : List ℕ
marked = 0 ∷ 1 ∷ 0 ∷ 0 ∷ []

abbrev pub far_marked : List ℕ
far_marked = 0 ∷ 0 ∷ 1 ∷ 0 ∷ []

abbrev pub answers : List ℕ → ℕ → ℕ → List Given
answers marks x y = given hub 0 y ∷ given (fork marks) 1 x ∷ []

-- ---- 18

-- what is decided where the fork's sites with the names of the hub's sites 1, 2, 3, 4 are given, 0 where there is none
unfoldable pub decided_for : Region → List ℕ → Sharing
unfolding sharing_of commons shared_at shared_first shared_second first_from may_be_far chosen lone leaf sum_at at sum is differ pick ℕ_discrete dec_lt
decided_for b partners = sharing_of hub b (λ x. look (0 ∷ partners) x)

abbrev pub decided : List ℕ → List ℕ → Sharing
decided marks partners = decided_for (fork marks) partners
