-- Two small regions, computed (document 02, Card 10): what each shows, what each is given, and their joined tree.
use Rattle.std.specs.Prelude.{◌≡◌, refl, List, [], ◌∷◌, map, ℕ}
use Rattle.std.proofs.Math.Decide.{ℕ_discrete, dec_le, dec_lt}
use Rattle.lists.specs.Numbers.{pick, is, differ, less, sum, over, count, upfrom}
use Rattle.model.specs.Flows.{at, sum_at, leaf, end_at, ends, at_terminals}
use Rattle.model.specs.Trimming.{cut_at, cut_site, cut_sites, unvisited, first, remove, taken, elimination, balanced_along, balanced}
use Rattle.theory_regions.specs.Regions.{trimmed, resized, first_size, trimmed_again, lone, far_site, own, own_sum, given}
use Rattle.theory_regions.specs.JoinedTree.{down, up, left_out, rank, ranked, place, glued, joined_tree}
use Rattle.theory_regions.specs.Sharing.{apart, sharing}
use Rattle.theory_regions.specs.Examples.{answers, decided, decided_for, far_marked, fork, fork_border, hub, hub_border, marked, plain}

-- the hub's site 4 is the fork's site 2, and the fork's sites 1 and 4 become 5 and 6
the_joined_tree : joined_tree hub hub_border (fork marked) fork_border ≡ record {
  links = (1, 4) ∷ (1, 2) ∷ (1, 3) ∷ (5, 4) ∷ (4, 6) ∷ [];
  sites = 6;
  marks = 0 ∷ 0 ∷ 0 ∷ 1 ∷ 0 ∷ 0 ∷ [];
  capacities = 10 ∷ 5 ∷ 1 ∷ 1 ∷ 1 ∷ [];
}
unfolding joined_tree place rank ranked down up left_out glued upfrom less pick ℕ_discrete dec_le dec_lt
the_joined_tree = refl

-- the numbers shown, and what the regions and their joined tree have
numbers : List ℕ → List ℕ
unfolding first_size end_at ends leaf balanced balanced_along cut_sites cut_site cut_at elimination taken first remove unvisited upfrom count sum_at at sum is pick
    ℕ_discrete dec_le
numbers marks = first_size hub 0 ∷ first_size (fork marks) 1 ∷ []

-- without marks they show 6 and 2, and are given 2, 3, 1 and 1, 2, 1 with sums 4 and 2: the hub's link of 5 is trimmed for the second time
without_marks : (numbers plain ≡ 6 ∷ 2 ∷ [])
    × (answers plain 6 2 ≡ record { sizes = 2 ∷ 3 ∷ 1 ∷ []; sum = 4 } ∷ record { sizes = 1 ∷ 2 ∷ 1 ∷ []; sum = 2 } ∷ [])
    × (trimmed (joined_tree hub hub_border (fork plain) fork_border) ≡ 2 ∷ 3 ∷ 1 ∷ 1 ∷ 1 ∷ [])
unfolding numbers joined_tree place rank ranked down up left_out glued less given far_site lone own own_sum at_terminals over trimmed_again first_size end_at ends leaf
    balanced balanced_along cut_sites cut_site cut_at elimination taken first remove unvisited upfrom count sum_at at sum is differ pick ℕ_discrete dec_le dec_lt
without_marks = (refl, refl, refl)

-- with its near site marked the fork shows 10 and counts each link there
with_a_mark : (numbers marked ≡ 6 ∷ 10 ∷ [])
    × (answers marked 6 10 ≡ record { sizes = 6 ∷ 5 ∷ 1 ∷ []; sum = 6 } ∷ record { sizes = 1 ∷ 6 ∷ 1 ∷ []; sum = 10 } ∷ [])
    × (trimmed (joined_tree hub hub_border (fork marked) fork_border) ≡ 6 ∷ 5 ∷ 1 ∷ 1 ∷ 1 ∷ [])
unfolding numbers joined_tree place rank ranked down up left_out glued less given far_site lone own own_sum at_terminals over trimmed_again first_size end_at ends leaf
    balanced balanced_along cut_sites cut_site cut_at elimination taken first remove unvisited upfrom count sum_at at sum is differ pick ℕ_discrete dec_le dec_lt
with_a_mark = (refl, refl, refl)

-- the hub's 1 is the fork's 3, and its 4 the fork's 2; a mark of the near site is none of the far one
one_link_is_shared : (decided plain (3 ∷ 0 ∷ 0 ∷ 2 ∷ []) ≡ sharing hub_border fork_border) × (decided marked (3 ∷ 0 ∷ 0 ∷ 2 ∷ []) ≡ sharing hub_border fork_border)
unfolding decided_for
one_link_is_shared = (refl, refl)

-- three names in common; two that no link joins in the hub; two that none joins in the fork; both far sites one site; a marked far site; a shared link of
-- another size
none_is_shared : (map (decided plain) ((3 ∷ 1 ∷ 0 ∷ 2 ∷ []) ∷ (0 ∷ 3 ∷ 0 ∷ 2 ∷ []) ∷ (3 ∷ 0 ∷ 0 ∷ 1 ∷ []) ∷ (2 ∷ 0 ∷ 0 ∷ 3 ∷ []) ∷ [])
    ≡ apart ∷ apart ∷ apart ∷ apart ∷ [])
    × (decided far_marked (3 ∷ 0 ∷ 0 ∷ 2 ∷ []) ≡ apart) × (decided_for (resized (fork plain) 1 9) (3 ∷ 0 ∷ 0 ∷ 2 ∷ []) ≡ apart)
unfolding decided_for
none_is_shared = (refl, refl, refl)
