-- What the helper functions of the test give.
use Rattle.std.specs.Prelude.{◌≡◌, Bool, true, false, List, ℕ, Option, None, Some}
use Rattle.lists.specs.Sums.{contradiction}
use Rattle.model.specs.Limits.{SITES}
use Rattle.tree_order.specs.Toward.{elimination_toward, order_in}
use Rattle.tree.specs.Offer.{links, is_tree}

-- an answer tells whether P holds
abbrev pub Tells : Bool → Type 0 → Type 0
Tells true P = P
Tells false P = P → ⊥

pub told : (b : Bool) {P : Type 0} → Tells b P → b ≡ true → P
told true t e = t
told false t e = contradiction cc

pub denied : (b : Bool) {P : Type 0} → Tells b P → b ≡ false → P → ⊥
denied true t e = contradiction cc
denied false t e = t

pub tells_of : (b : Bool) {P Q : Type 0} → (P → Q) → (Q → P) → Tells b P → Tells b Q
tells_of true f g t = f t
tells_of false f g t = λ q. t (g q)

-- the order toward the root where the links make a tree of at most SITES sites, and none where they do not
abbrev pub Ordered : ℕ → List ℕ → List ℕ → ℕ → Option (List ℕ) → Type 0
Ordered n one two root None = is_tree SITES n one two ≡ false
Ordered n one two root (Some order) = (is_tree SITES n one two ≡ true) × (order ≡ order_in n (elimination_toward (links one two) n root))
