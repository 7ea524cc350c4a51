-- Small networks of document 01, computed: their balanced capacities and their pair lists.
use Rattle.std.specs.Prelude.{◌≡◌, refl, List, [], ◌∷◌, map, ℕ}
use Rattle.std.proofs.Math.Decide.{ℕ_discrete, dec_le, dec_lt}
use Rattle.lists.specs.Numbers.{pick, is, less, sum, count, upfrom, look}
use Rattle.model.specs.Flows.{Links, at, sum_at, leaf, end_at, ends}
use Rattle.model.specs.Trimming.{cut_at, cut_site, cut_sites, unvisited, first, remove, taken, elimination, balanced_along, balanced}
use Rattle.model.specs.Pairing.{put, take_halves, drop_halves, halves, give, match, joins, between, children, gather, alone, settle, walk, pairs_from}
use Rattle.model.specs.Pairing.{lowest_inner, pairs, lower_first, before, insert, ordered, pair_list}

abbrev star : Links
star = (1, 2) ∷ (1, 3) ∷ (1, 4) ∷ []

abbrev path : Links
path = (1, 2) ∷ (2, 3) ∷ (3, 4) ∷ []

abbrev broom : Links
broom = (1, 2) ∷ (1, 3) ∷ (1, 4) ∷ (2, 5) ∷ (2, 6) ∷ (2, 7) ∷ []

abbrev twig : Links
twig = (1, 2) ∷ (1, 3) ∷ (3, 4) ∷ (3, 5) ∷ (1, 6) ∷ []

abbrev fork : Links
fork = (1, 2) ∷ (1, 3) ∷ (1, 4) ∷ (2, 5) ∷ (2, 6) ∷ []

trim : Links → ℕ → List ℕ → List ℕ
trim ls n c = balanced ls n (look (ends ls n [])) c

-- star 5, 1, 1; star 2, 1, 0, which a half rounded up would leave;
-- the path 7, 7, 3, of which one pass would leave the first; the fork of 10, 3, 3, 1, 1
balanced_examples :
    trim star 4 (5 ∷ 1 ∷ 1 ∷ []) ∷ trim star 4 (2 ∷ 1 ∷ 0 ∷ []) ∷ trim path 4 (7 ∷ 7 ∷ 3 ∷ []) ∷ trim fork 6 (10 ∷ 3 ∷ 3 ∷ 1 ∷ 1 ∷ []) ∷ []
    ≡ (2 ∷ 1 ∷ 1 ∷ []) ∷ (1 ∷ 1 ∷ 0 ∷ []) ∷ (3 ∷ 3 ∷ 3 ∷ []) ∷ (2 ∷ 3 ∷ 3 ∷ 1 ∷ 1 ∷ []) ∷ []
unfolding trim ℕ_discrete dec_le pick is sum count upfrom at sum_at leaf end_at ends cut_at cut_site cut_sites unvisited first remove taken elimination
    balanced_along balanced
balanced_examples = refl

list : Links → ℕ → List ℕ → List (ℕ × ℕ × ℕ)
list ls n t = map (λ e. (e.first, e.second, e.amount)) (pair_list ls n (look t) (look (ends ls n [])))

-- the pairs (first, second, amount in halves) of star 1, 1, 1, of the fork, and of the broom of 1s, whose site 2 hands on the last halves of its children;
-- and of the twig, where another root than site 1 would give other pairs
pair_examples :
    list star 4 (1 ∷ 1 ∷ 1 ∷ []) ∷ list fork 6 (2 ∷ 3 ∷ 3 ∷ 1 ∷ 1 ∷ [])
    ∷ list broom 7 (1 ∷ 1 ∷ 1 ∷ 1 ∷ 1 ∷ 1 ∷ [])
    ∷ list twig 6 (3 ∷ 2 ∷ 3 ∷ 3 ∷ 3 ∷ []) ∷ []
    ≡ ((2, 3, 1) ∷ (2, 4, 1) ∷ (3, 4, 1) ∷ []) ∷ ((3, 4, 4) ∷ (3, 5, 2) ∷ (4, 6, 2) ∷ [])
    ∷ ((3, 4, 1) ∷ (3, 6, 1) ∷ (4, 6, 1) ∷ (5, 7, 2) ∷ [])
    ∷ ((2, 5, 2) ∷ (2, 6, 4) ∷ (4, 5, 4) ∷ (4, 6, 2) ∷ []) ∷ []
unfolding list ℕ_discrete dec_lt pick is less sum upfrom at sum_at leaf end_at ends put take_halves drop_halves halves give match joins between children gather
    alone settle walk pairs_from lowest_inner pairs lower_first before insert ordered pair_list
pair_examples = refl
