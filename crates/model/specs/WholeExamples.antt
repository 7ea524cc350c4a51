-- Small networks computed: their loads and sets in whole circuits, and by their definitions what the loads bring to the terminals, the set sizes and the
-- odd pieces. Document 02, Card 2.
use Rattle.std.specs.Prelude.{◌≡◌, refl, List, [], ◌∷◌, map, ℕ}
use Rattle.std.proofs.Math.Decide.{ℕ_discrete, dec_le, dec_lt}
use Rattle.lists.specs.Numbers.{pick, is, differ, sum, over, count, upfrom, look}
use Rattle.model.specs.Flows.{Links, sites, at, sum_at, leaf, end_at, ends, relabel, label, at_terminals}
use Rattle.model.specs.Trimming.{unvisited, first, remove, taken, elimination}
use Rattle.model.specs.Cuts.{kept}
use Rattle.model.specs.Whole.{set_size, connects, piece, in_piece, leaving_piece, set_count, set_sizes, odd_pieces}
use Rattle.model.specs.WholeLoads.{from, upward, beyond, parent_of, put, lowest, highest, on_way, owner_at, new_top, least_at, take, take_all, top_load, coming}
use Rattle.model.specs.WholeLoads.{give, give_all, link_load, above, intervals, loading, whole_load, whole_owner, whole_loads}

-- two sites; sites 2, 3, 4 round site 1; sites 2, 3, 4, 5 round site 1
abbrev link : Links
link = (1, 2) ∷ []

abbrev star : Links
star = (1, 2) ∷ (1, 3) ∷ (1, 4) ∷ []

abbrev cross : Links
cross = (1, 2) ∷ (1, 3) ∷ (1, 4) ∷ (1, 5) ∷ []

-- site 1 has the end 2 and the joints 3 and 4, each of these two ends
abbrev tree : Links
tree = (1, 2) ∷ (1, 3) ∷ (1, 4) ∷ (3, 5) ∷ (3, 6) ∷ (4, 7) ∷ (4, 8) ∷ []

-- two stars, whose joints 1 and 2 are linked
abbrev twins : Links
twins = (1, 2) ∷ (1, 3) ∷ (1, 4) ∷ (1, 5) ∷ (2, 6) ∷ (2, 7) ∷ (2, 8) ∷ []

-- the loads of the links, and of each site the end whose set holds it, or 0
found : Links → ℕ → List ℕ → List ℕ × List ℕ
found ls n c = (whole_loads ls n (look (ends ls n [])) (look c), map (whole_owner ls n (look (ends ls n [])) (look c)) (sites n))

-- star 1, 1, 1; cross 1, 1, 1, 1, whose piece is even; a star of zeros; two sites of size 3; the tree of 2 and 1s; twins of 1s, 0 between the joints
found_examples :
    found star 4 (1 ∷ 1 ∷ 1 ∷ []) ∷ found cross 5 (1 ∷ 1 ∷ 1 ∷ 1 ∷ []) ∷ found star 4 (0 ∷ 0 ∷ 0 ∷ []) ∷ found link 2 (3 ∷ [])
    ∷ found tree 8 (2 ∷ 1 ∷ 1 ∷ 1 ∷ 1 ∷ 1 ∷ 1 ∷ []) ∷ found twins 8 (0 ∷ 1 ∷ 1 ∷ 1 ∷ 1 ∷ 1 ∷ 1 ∷ []) ∷ []
    ≡ (1 ∷ 1 ∷ 0 ∷ [], 0 ∷ 2 ∷ 3 ∷ 4 ∷ []) ∷ (1 ∷ 1 ∷ 1 ∷ 1 ∷ [], 0 ∷ 2 ∷ 3 ∷ 4 ∷ 5 ∷ []) ∷ (0 ∷ 0 ∷ 0 ∷ [], 4 ∷ 2 ∷ 3 ∷ 4 ∷ []) ∷ (3 ∷ [], 1 ∷ 2 ∷ [])
    ∷ (1 ∷ 0 ∷ 1 ∷ 1 ∷ 1 ∷ 1 ∷ 0 ∷ [], 2 ∷ 2 ∷ 0 ∷ 0 ∷ 5 ∷ 6 ∷ 7 ∷ 8 ∷ []) ∷ (0 ∷ 0 ∷ 1 ∷ 1 ∷ 1 ∷ 1 ∷ 0 ∷ [], 0 ∷ 0 ∷ 3 ∷ 4 ∷ 5 ∷ 6 ∷ 7 ∷ 8 ∷ []) ∷ []
unfolding found ℕ_discrete dec_le dec_lt pick is sum over count upfrom at sum_at leaf end_at ends unvisited first remove taken elimination from upward beyond
    parent_of put lowest highest on_way owner_at new_top least_at take take_all top_load coming give give_all link_load above intervals loading whole_load whole_owner
    whole_loads
found_examples = refl

-- the intervals of the twins' joint 1: its ends bring 1 or 3, its link of size 0 lets nothing through
interval_example :
    let s = intervals twins 8 (look (ends twins 8 [])) (look (0 ∷ 1 ∷ 1 ∷ 1 ∷ 1 ∷ 1 ∷ 1 ∷ [])) in
    s.least 1 ∷ s.most 1 ∷ s.low 1 ∷ s.high 1 ∷ s.top 1 ∷ s.goal 1 ∷ [] ≡ 1 ∷ 3 ∷ 0 ∷ 0 ∷ 3 ∷ 3 ∷ []
unfolding ℕ_discrete dec_le dec_lt pick is sum over count upfrom at sum_at leaf end_at ends unvisited first remove taken elimination from upward beyond
    parent_of put lowest highest new_top least_at take take_all above intervals
interval_example = refl

-- what the loads bring to the ends, the set sizes summed, and the odd pieces
sums : Links → ℕ → List ℕ → List ℕ × List ℕ → ℕ × ℕ × ℕ
sums ls n c r =
    let owner = look (0 ∷ r.1) in
    (at_terminals ls n (look (ends ls n [])) (look r.0), set_sizes ls n (look (ends ls n [])) (look c) owner, odd_pieces ls n (look c) owner)

-- of the same: set sizes less odd pieces are 3 - 1, 4 - 0, 0 - 0, 6 - 0, 6 - 2 and 6 - 2
sums_examples :
    sums star 4 (1 ∷ 1 ∷ 1 ∷ []) (1 ∷ 1 ∷ 0 ∷ [], 0 ∷ 2 ∷ 3 ∷ 4 ∷ [])
    ∷ sums cross 5 (1 ∷ 1 ∷ 1 ∷ 1 ∷ []) (1 ∷ 1 ∷ 1 ∷ 1 ∷ [], 0 ∷ 2 ∷ 3 ∷ 4 ∷ 5 ∷ [])
    ∷ sums star 4 (0 ∷ 0 ∷ 0 ∷ []) (0 ∷ 0 ∷ 0 ∷ [], 4 ∷ 2 ∷ 3 ∷ 4 ∷ [])
    ∷ sums link 2 (3 ∷ []) (3 ∷ [], 1 ∷ 2 ∷ [])
    ∷ sums tree 8 (2 ∷ 1 ∷ 1 ∷ 1 ∷ 1 ∷ 1 ∷ 1 ∷ []) (1 ∷ 0 ∷ 1 ∷ 1 ∷ 1 ∷ 1 ∷ 0 ∷ [], 2 ∷ 2 ∷ 0 ∷ 0 ∷ 5 ∷ 6 ∷ 7 ∷ 8 ∷ [])
    ∷ sums twins 8 (0 ∷ 1 ∷ 1 ∷ 1 ∷ 1 ∷ 1 ∷ 1 ∷ []) (0 ∷ 0 ∷ 1 ∷ 1 ∷ 1 ∷ 1 ∷ 0 ∷ [], 0 ∷ 0 ∷ 3 ∷ 4 ∷ 5 ∷ 6 ∷ 7 ∷ 8 ∷ []) ∷ []
    ≡ (2, 3, 1) ∷ (4, 4, 0) ∷ (0, 0, 0) ∷ (6, 6, 0) ∷ (4, 6, 2) ∷ (4, 6, 2) ∷ []
unfolding sums ℕ_discrete pick is differ sum over upfrom at sum_at leaf end_at ends relabel label at_terminals kept set_size connects piece in_piece leaving_piece
    set_sizes odd_pieces
sums_examples = refl

-- the sets of the ends 2 and 5 of the tree have 2 sites and 1
count_example : set_count 8 (look (0 ∷ 2 ∷ 2 ∷ 0 ∷ 0 ∷ 5 ∷ 6 ∷ 7 ∷ 8 ∷ [])) 2 ∷ set_count 8 (look (0 ∷ 2 ∷ 2 ∷ 0 ∷ 0 ∷ 5 ∷ 6 ∷ 7 ∷ 8 ∷ [])) 5 ∷ [] ≡ 2 ∷ 1 ∷ []
unfolding set_count ℕ_discrete pick is over upfrom
count_example = refl
