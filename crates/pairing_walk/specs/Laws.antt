-- The pairs in a list with pairs of zeros behind them: they stand in its first places, and it has SITES.
use Rattle.std.specs.Prelude.{◌≡◌, List, ℕ, ◌-◌, ◌≤◌, take}
use Rattle.std.proofs.Math.Path.{refl}
use Rattle.std.proofs.Common.{arith}
use Rattle.std.proofs.Math.Seq.{take_at}
use Rattle.std.proofs.Math.ListN.{length, length-append}
use Rattle.std.proofs.lemmas.List.{length-replicate}
use Rattle.model.specs.Limits.{SITES}
use Rattle.model.specs.declared.Pair.{Pair}
use Rattle.pairing_walk.specs.Visits.{zeros, listing}

pub length-zeros : (k : ℕ) → length (zeros k) ≡ k
length-zeros k = length-replicate k (record { first = 0; second = 0; amount = 0 })

module _ (es : List Pair) where
  pub listing_counts : (listing es).count ≡ length es
  unfolding listing
  listing_counts = refl

  pub listing-holds : take (listing es).count (listing es).list ≡ es
  unfolding listing
  listing-holds = take_at es (zeros (SITES - length es)) (length es) refl

  pub listing-long : length es ≤ SITES → length (listing es).list ≡ SITES
  unfolding listing
  listing-long h = omega (arith, length-append es (zeros (SITES - length es)), length-zeros (SITES - length es))
