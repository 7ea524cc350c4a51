-- A small log of document 02, Card 6, computed: its answers, and what is open after it.
use Rattle.std.specs.Prelude.{List, [], ◌∷◌, ℕ}
use Rattle.lists.specs.Numbers.{look}
use Rattle.model.specs.Flows.{Links}
use Rattle.model.specs.Booking.{pair}
use Rattle.model.specs.declared.Request.{Request}
use Rattle.model.specs.declared.Request.TheVariants.{Open, GiveUp, Fault}

abbrev pub star : Links
star = (1, 2) ∷ (1, 3) ∷ (1, 4) ∷ []

abbrev pub capacities : ℕ → ℕ
capacities = look (2 ∷ 1 ∷ 2 ∷ [])

-- 2 halves for 2, 3 fill the link at 3, and one half more is refused; sites in the other order are the same pair; what another pair has open cannot be
-- given up; a line at fault moves nothing; the pair that falls to nothing leaves its place to the last one
abbrev pub log : List Request
log = Open (pair 2 3 2) ∷ Open (pair 4 3 1) ∷ Open (pair 4 2 1) ∷ GiveUp (pair 3 4 1) ∷ Fault 12
    ∷ GiveUp (pair 3 2 3) ∷ GiveUp (pair 3 2 2) ∷ Open (pair 3 4 2) ∷ []
