-- The odd pieces counted along the order of the sites: a piece is counted at its first site, seen from the root.
use Rattle.std.specs.Prelude.{◌≡◌, ◌≢◌, ℕ, ◌+◌, ◌%◌}
use Rattle.std.proofs.Common.{arith}
use Rattle.lists.specs.Sums.{pick_same, pick_other}
use Rattle.theory_whole.specs.Counting.{odd_at}

module _ (parent c most owner : ℕ → ℕ) where
  pub odd_owned : (v : ℕ) → owner v ≢ 0 → odd_at parent c most owner v ≡ 0
  unfolding odd_at
  odd_owned v d = rw (pick_other d)

  pub odd_up : (v : ℕ) → owner v ≡ 0 → owner (parent v) ≢ 0 → odd_at parent c most owner v ≡ (most v + c v) % 2
  unfolding odd_at
  odd_up v e d = rw (pick_same e, pick_other d)

  pub odd_zero : (v : ℕ) → owner v ≡ 0 → owner (parent v) ≡ 0 → c v ≡ 0 → odd_at parent c most owner v ≡ most v % 2
  unfolding odd_at
  odd_zero v e f z = rw (pick_same e, pick_same f) (omega (arith, pick_same z ((most v + c v) % 2) 0))

  pub odd_more : (v : ℕ) → owner v ≡ 0 → owner (parent v) ≡ 0 → c v ≢ 0 → odd_at parent c most owner v ≡ 0
  unfolding odd_at
  odd_more v e f d = rw (pick_same e, pick_same f) (omega (arith, pick_other d ((most v + c v) % 2) 0))
