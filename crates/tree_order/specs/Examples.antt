-- Small trees, computed: the order toward a root.
use Rattle.std.specs.Prelude.{◌≡◌, refl, [], ◌∷◌}
use Rattle.std.proofs.Math.Decide.{ℕ_discrete, dec_le}
use Rattle.lists.specs.Numbers.{pick, is, sum, count, upfrom}
use Rattle.model.specs.Flows.{Links, at, sum_at}
use Rattle.model.specs.Trimming.{unvisited, first, remove}
use Rattle.tree_order.specs.Toward.{taken_toward, elimination_toward}

abbrev path : Links
path = (1, 2) ∷ (2, 3) ∷ []

abbrev star : Links
star = (1, 2) ∷ (1, 3) ∷ (1, 4) ∷ []

-- the path toward its first, second and third site, and toward none; the star toward its inner site and a leaf
toward_examples :
    elimination_toward path 3 1 ∷ elimination_toward path 3 2 ∷ elimination_toward path 3 3 ∷ elimination_toward path 3 0
    ∷ elimination_toward star 4 1 ∷ elimination_toward star 4 2 ∷ []
    ≡ (3 ∷ 2 ∷ 1 ∷ []) ∷ (1 ∷ 3 ∷ 2 ∷ []) ∷ (1 ∷ 2 ∷ 3 ∷ []) ∷ (1 ∷ 2 ∷ 3 ∷ [])
    ∷ (2 ∷ 3 ∷ 4 ∷ 1 ∷ []) ∷ (3 ∷ 4 ∷ 1 ∷ 2 ∷ []) ∷ []
unfolding ℕ_discrete dec_le pick is sum count upfrom at sum_at unvisited first remove taken_toward elimination_toward
toward_examples = refl
