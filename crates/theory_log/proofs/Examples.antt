-- A small log of document 02, Card 6, computed: its answers, and what is open after it.
use Rattle.std.specs.Prelude.{◌≡◌, refl, [], ◌∷◌}
use Rattle.std.proofs.Math.Decide.{ℕ_discrete, dec_lt}
use Rattle.lists.specs.Numbers.{pick, is, differ, less, sum}
use Rattle.model.specs.Flows.{relabel, label, without, side, separates, load}
use Rattle.model.specs.Pairing.{lower_first}
use Rattle.model.specs.Booking.{pair, same, open_of, grow, last_of, front_of, moved, shrink, overfilled, answer_open, answer_give_up}
use Rattle.model.specs.Booking.{answer, changed, next, after, answers}
use Rattle.theory_log.specs.Examples.{capacities, log, star}

the_answers : answers star capacities [] log ≡ 0 ∷ 15 ∷ 0 ∷ 14 ∷ 12 ∷ 14 ∷ 0 ∷ 0 ∷ []
unfolding ℕ_discrete dec_lt pick is differ less sum relabel label without side separates load lower_first same open_of grow last_of front_of moved shrink overfilled
    answer_open answer_give_up answer changed next answers
the_answers = refl

the_open_pairs : after star capacities [] log ≡ pair 2 4 1 ∷ pair 3 4 2 ∷ []
unfolding ℕ_discrete dec_lt pick is differ less sum relabel label without side separates load lower_first same open_of grow last_of front_of moved shrink overfilled
    answer_open answer_give_up answer changed next after
the_open_pairs = refl
