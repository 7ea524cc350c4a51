-- Links that are offered as two lists: their number, the sites of each, and sums over the links passed.
use Rattle.std.specs.Prelude.{◌≡◌, refl, List, [], ◌∷◌, ℕ, zero, suc, ◌+◌, ◌<◌, length, get_or}
use Rattle.std.proofs.Common.{ap, arith, add-one}
use Rattle.lists.specs.Numbers.{pick, is, look, sum}
use Rattle.model.specs.Flows.{Links, one, two, at}

-- the links whose first and second sites stand in two lists, position by position
unfoldable pub links : List ℕ → List ℕ → Links
links [] ys = []
links (x ∷ xs) [] = []
links (x ∷ xs) (y ∷ ys) = (x, y) ∷ links xs ys

links-at : (a b : List ℕ) (j : ℕ) → j < length a → j < length b → get_or (links a b) j (0, 0) ≡ (look a j, look b j)
unfolding links
links-at [] b j h k = absurd (omega arith)
links-at (x ∷ a) [] j h k = absurd (omega arith)
links-at (x ∷ a) (y ∷ b) zero h k = refl
links-at (x ∷ a) (y ∷ b) (suc j) h k = links-at a b j (omega arith) (omega arith)

-- there are as many links as each list has sites, and link j joins the two sites at place j
pub length-links : (a b : List ℕ) → length a ≡ length b → length (links a b) ≡ length a
unfolding links
length-links [] b e = refl
length-links (x ∷ a) [] e = absurd (omega arith)
length-links (x ∷ a) (y ∷ b) e = ap suc (length-links a b (omega arith))

pub links-one : (a b : List ℕ) (j : ℕ) → j < length a → j < length b → one (links a b) j ≡ look a j
links-one a b j h k = ap (λ l. l.0) (links-at a b j h k)

pub links-two : (a b : List ℕ) (j : ℕ) → j < length a → j < length b → two (links a b) j ≡ look b j
links-two a b j h k = ap (λ l. l.1) (links-at a b j h k)

-- so v is a site of link j just if it stands at place j of a list
pub links-at-site : (a b : List ℕ) (v j : ℕ) → j < length a → j < length b → at (links a b) v j ≡ pick (look a j) v 1 (is (look b j) v)
unfolding at
links-at-site a b v j h k = ap (λ l. pick l.0 v 1 (is l.1 v)) (links-at a b j h k)

-- a sum over the places passed
pub sum-next : {a b : ℕ} (f : ℕ → ℕ) (j : ℕ) → a ≡ sum j f → b ≡ f j → a + b ≡ sum (j + 1) f
unfolding sum
sum-next f j e g = rw (e, g, add-one) refl
