-- What is worked out before anything is stored: the pairs to store.
use Rattle.std.specs.Prelude.{◌≡◌, Ok, List, ℕ, ◌≤◌, take}
use Rattle.model.specs.Limits.{SITES}
use Rattle.lists.specs.Numbers.{look}
use Rattle.model.specs.Parts.{pairs_of_parts}
use Rattle.model.specs.declared.Pair.{Pair}
use Rattle.model.specs.declared.Pairs.{Pairs}
use Rattle.tree.specs.Offer.{links}
use Rattle.pairing.specs.Outcome.{terminals, answer}

-- the pairs of an offered tree, part by part, in the order in which they are made
abbrev pub pairs_of : ℕ → List ℕ → List ℕ → List ℕ → List ℕ → List Pair
pairs_of n one two marks c = pairs_of_parts (links one two) n (look c) (terminals n one two marks)

-- the pairs to store, for which there is room, and whose number is what is said
pub record Made (n : ℕ) (one two marks c : List ℕ) (places : ℕ) (w : Pairs) : Type 0 where
  pub said : answer n one two marks c places ≡ Ok w.count
  pub listed : take w.count w.list ≡ pairs_of n one two marks c
  pub few : w.count ≤ SITES
  pub fits : w.count ≤ places
