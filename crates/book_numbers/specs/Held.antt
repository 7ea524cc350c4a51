-- The links that a choice holds, and the possible links site by site.
-- What the functions of the exercise book by number (02, Card 13) are equated with, beside `theory_book`.
use Rattle.std.specs.Prelude.{◌≡◌, map, ℕ, suc, length, take}
use Rattle.lists.specs.Numbers.{upfrom}
use Rattle.model.specs.Flows.{Links}
use Rattle.tree.specs.Offer.{links}
use Rattle.book_numbers.specs.declared.Choice.{Choice}

-- places of a choice, by the name that src/lib.rt gives them
abbrev pub LISTED : ℕ
LISTED = 20

-- the links that a choice holds
abbrev pub held : Choice → Links
held c = links (take c.count c.one) (take c.count c.two)

-- both arrays have all their places
pub record Roomy (c : Choice) : Type 0 where
  pub firsts : length c.one ≡ LISTED
  pub seconds : length c.two ≡ LISTED

-- the links from a to the next i sites
unfoldable pub fan_of : ℕ → ℕ → Links
fan_of a i = map (λ b. (a, b)) (upfrom (suc a) i)
