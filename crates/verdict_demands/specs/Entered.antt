-- A list of pairs entered one by one, the lower site first in each and no pair twice: no line gets 20, and total and loads are those of the list.
use Rattle.std.specs.Prelude.{◌≡◌, refl, List, [], ◌∷◌, map, ℕ, suc, ◌+◌, ◌*◌, ◌≤◌, ◌<◌}
use Rattle.std.proofs.Common.{ap, ◌∙◌, arith}
use Rattle.lists.specs.Numbers.{is, less, Each}
use Rattle.lists.specs.Sums.{pick_same, pick_other, same?, is_same, is-other, less-lt}
use Rattle.lists.specs.Tallies.{tally}
use Rattle.model.specs.Flows.{Links, separates, load, total}
use Rattle.model.specs.Pairing.{lower_first, joins}
use Rattle.model.specs.Booking.{places_of, same}
use Rattle.model.specs.declared.Pair.{Pair}
use Rattle.model.specs.declared.Request.TheVariants.{Open}
use Rattle.theory_walk.specs.Sound.{arises}
use Rattle.theory_log.proofs.Pairs.{same-is}
use Rattle.theory_verdicts.specs.HandPlan.{line_answer, entered, entries, account}
use Rattle.theory_verdicts.specs.Accounts.{drawn}

-- the lower site is first
abbrev pub LowerFirst : List Pair → Type 0
LowerFirst es = Each (λ e. e.first < e.second) es

lower_stays : (e : Pair) → e.first < e.second → lower_first e ≡ e
unfolding lower_first
lower_stays e h = pick_other {u = less e.second e.first} {v = 1} (λ s. omega (arith, less-lt s)) _ _

-- a place of a pair is one of its joinings
same-is-joining : (a b : ℕ) (e : Pair) → same a b e ≤ joins (e.first, e.second) a b
unfolding same joins
same-is-joining a b e = same? e.first a
    (λ z. rw (is_same z, pick_same z (is e.second b) (is e.first b * is e.second a)) (omega arith))
    (λ d. rw (is-other d) (omega arith))

pub places_are_few : (a b : ℕ) (es : List Pair) → places_of a b es ≤ arises es a b
unfolding places_of tally
places_are_few a b [] = omega arith
places_are_few a b (e ∷ es) = omega (arith, same-is-joining a b e, places_are_few a b es)

-- ---- entered

pub no_pair_is_given_twice : (i : ℕ) (acc es : List Pair) → LowerFirst es → ((a b : ℕ) → places_of a b acc + places_of a b es ≤ 1)
    → account i acc (map Open es) ≡ entries (drawn acc (map Open es))
unfolding account drawn line_answer entered places_of
no_pair_is_given_twice i acc [] low once = refl
no_pair_is_given_twice i acc (e ∷ es) low once =
    let stays = lower_stays e low.0 in
    let none : places_of e.first e.second acc ≡ 0 = omega (arith, once e.first e.second, same-is e.first e.second e refl refl) in
    let new : line_answer acc (Open e) ≡ 0 = pick_same (ap (λ p. places_of p.first p.second acc) stays ∙ none) 0 20 in
    pick_same new _ _
    ∙ no_pair_is_given_twice (suc i) (lower_first e ∷ acc) es low.1 (λ a b. omega (arith, once a b, ap (same a b) stays))

pub entered-total : (acc es : List Pair) → LowerFirst es → total (drawn acc (map Open es)) ≡ total acc + total es
unfolding drawn entered total
entered-total acc [] low = omega arith
entered-total acc (e ∷ es) low = omega (arith, entered-total (lower_first e ∷ acc) es low.1, ap (λ p. p.amount) (lower_stays e low.0))

pub entered-load : (ls : Links) (j : ℕ) (acc es : List Pair) → LowerFirst es → load ls (drawn acc (map Open es)) j ≡ load ls acc j + load ls es j
unfolding drawn entered load
entered-load ls j acc [] low = omega arith
entered-load ls j acc (e ∷ es) low = omega (
  arith,
  entered-load ls j (lower_first e ∷ acc) es low.1,
  ap (λ p. p.amount * separates ls j p.first p.second) (lower_stays e low.0),
)
