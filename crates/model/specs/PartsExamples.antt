-- Small networks with marked sites (document 02, Card 7), computed: their pair lists over all parts, and which pairs are free.
use Rattle.std.specs.Prelude.{◌≡◌, refl, ℕ}
use mathlib.Core.List.{List, [], ◌∷◌, map, flat_map}
use Rattle.std.proofs.Math.Decide.{ℕ_discrete, dec_lt}
use Rattle.lists.specs.Numbers.{pick, is, differ, less, sum, upfrom, look}
use Rattle.model.specs.Flows.{Links, at, sum_at, leaf, end_at, ends, relabel, label, without, side, separates}
use Rattle.model.specs.Cuts.{kept}
use Rattle.model.specs.Pairing.{put, take_halves, drop_halves, halves, give, match, joins, between, children, gather, alone, settle, walk, pairs_from}
use Rattle.model.specs.Pairing.{lowest_inner, lower_first, before, insert, ordered}
use Rattle.model.specs.Parts.{another, crossed, free_pair, within, single, region, member, home, lowest, root}
use Rattle.model.specs.Parts.{pairs_of_part, pair_of_link, pairs_of_parts, pair_list_of_parts}

abbrev star : Links
star = (1, 2) ∷ (1, 3) ∷ (1, 4) ∷ []

abbrev path : Links
path = (1, 2) ∷ (2, 3) ∷ (3, 4) ∷ []

abbrev fork : Links
fork = (1, 2) ∷ (1, 3) ∷ (1, 4) ∷ (2, 5) ∷ (2, 6) ∷ []

abbrev long : Links
long = (1, 2) ∷ (2, 3) ∷ (3, 4) ∷ (4, 5) ∷ []

abbrev twig : Links
twig = (1, 2) ∷ (1, 3) ∷ (3, 4) ∷ (3, 5) ∷ (1, 6) ∷ (2, 7) ∷ []

-- the pairs of a tree with its marks; sites past the list of marks have none
list : Links → ℕ → List ℕ → List ℕ → List (ℕ × ℕ × ℕ)
list ls n marks t = map (λ e. (e.first, e.second, e.amount)) (pair_list_of_parts ls n (look t) (look (ends ls n marks)))

-- the path 3, 2, 2 with site 2 marked: a single link, and a part rooted at site 3; a longer one with its middle marked: parts rooted at sites 2 and 4;
-- the fork without a mark, and with site 1 marked: two single links, one of them of capacity 0, and a part rooted at site 2; the star with its hub marked:
-- three single links; and the twig with site 2 marked, where a part rooted at site 3 would give other pairs
parts_examples :
    list path 4 (0 ∷ 1 ∷ []) (3 ∷ 2 ∷ 2 ∷ []) ∷ list long 5 (0 ∷ 0 ∷ 1 ∷ []) (1 ∷ 1 ∷ 2 ∷ 2 ∷ [])
    ∷ list fork 6 [] (2 ∷ 3 ∷ 3 ∷ 1 ∷ 1 ∷ []) ∷ list fork 6 (1 ∷ []) (2 ∷ 3 ∷ 0 ∷ 1 ∷ 1 ∷ []) ∷ list star 4 (1 ∷ []) (2 ∷ 0 ∷ 5 ∷ [])
    ∷ list twig 7 (0 ∷ 1 ∷ []) (3 ∷ 2 ∷ 3 ∷ 3 ∷ 3 ∷ 1 ∷ []) ∷ []
    ≡ ((1, 2, 6) ∷ (2, 4, 4) ∷ []) ∷ ((1, 3, 2) ∷ (3, 5, 4) ∷ [])
    ∷ ((3, 4, 4) ∷ (3, 5, 2) ∷ (4, 6, 2) ∷ []) ∷ ((1, 3, 6) ∷ (1, 5, 2) ∷ (1, 6, 2) ∷ []) ∷ ((1, 2, 4) ∷ (1, 4, 10) ∷ [])
    ∷ ((2, 5, 2) ∷ (2, 6, 4) ∷ (2, 7, 2) ∷ (4, 5, 4) ∷ (4, 6, 2) ∷ []) ∷ []
unfolding list ℕ_discrete dec_lt pick is differ less sum upfrom at sum_at leaf end_at ends relabel label kept flat_map put take_halves drop_halves halves
    give match joins between children gather alone settle walk pairs_from lowest_inner lower_first before insert ordered within single region member home
    lowest root pairs_of_part pair_of_link pairs_of_parts pair_list_of_parts
parts_examples = refl

-- on the path with site 2 marked, sites 1 and 2 are free to be joined, 4 and 2 too; 1 and 4 are not, nor are 2 and 3, nor 2 and 2
free_examples :
    map (λ (p : ℕ × ℕ). free_pair path (end_at path (0 ∷ 1 ∷ [])) p.0 p.1) ((1, 2) ∷ (4, 2) ∷ (1, 4) ∷ (2, 3) ∷ (2, 2) ∷ [])
    ≡ 1 ∷ 1 ∷ 0 ∷ 0 ∷ 0 ∷ []
unfolding ℕ_discrete pick is differ sum at sum_at leaf end_at relabel label without side separates another crossed free_pair
free_examples = refl
