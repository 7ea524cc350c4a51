-- All that the two ways along the order find, and what holds of it: nothing matters but the equations of four records. Letters as in Loads.
use Rattle.std.specs.Prelude.{◌≡◌, List, ℕ, ◌+◌, ◌*◌, ◌%◌}
use Rattle.lists.specs.Numbers.{is, over}
use Rattle.theory_whole.specs.Rooted.{Rooted}
use Rattle.theory_whole.specs.Loads.{at_ends}
use Rattle.theory_whole.specs.Sets.{set_size}
use Rattle.theory_whole.proofs.Sets.{sizes-total}
use Rattle.theory_whole.specs.Counting.{odd_at}
use Rattle.theory_whole.specs.Pieces.{Firsts, leaving}
use Rattle.theory_whole.proofs.Pieces.{odd_pieces_lem}
use Rattle.theory_whole.specs.Solution.{Solution}

module _ {us : List ℕ} {par pos : ℕ → ℕ} (R : Rooted us par pos) {c term : ℕ → ℕ} (X : Solution us par c term) where
  -- the sizes of the sets, less the odd pieces, are what the loads bring to the terminals
  pub solution_sizes : over us (λ t. is (term t) 1 * set_size us par c term X.owner t)
      ≡ at_ends us par c term X.load + over us (odd_at par c X.B X.owner)
  solution_sizes = sizes-total R X.inwards X.chains X.owners X.outwards

  -- 5: that many pieces are odd
  pub solution_odd : {rep : ℕ → ℕ} → Firsts us par c X.owner rep
      → over us (odd_at par c X.B X.owner) ≡ over us (λ r. is (X.owner r) 0 * (is (rep r) r * (leaving us par c X.owner rep r % 2)))
  solution_odd F = odd_pieces_lem R X.inwards X.chains X.owners F
