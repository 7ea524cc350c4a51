-- `listed`: the first pairs are copied over pairs of zeros.
use Rattle.std.proofs.Common.{◌≡◌, ◌++◌, ◌≤◌, ℕ, List, length, take, drop, arith}
use Rattle.std.proofs.Math.Seq.{length-take-le}
use Rattle.std.proofs.lemmas.List.{drop-replicate}
use Rattle.model.specs.Limits.{SITES}
use Rattle.model.specs.declared.Pair.{Pair}
use Rattle.model.specs.declared.Pairs.{Pairs}
use Rattle.pairing_walk.specs.Visits.{zeros, listing}
use Rattle.pairing_walk.proofs.listed.Goals as goal

held : (ps x : List Pair) (n : ℕ) → n ≤ length ps → x ≡ take n ps → ◌≡◌ {A = Pairs} (record { list = x ++ drop n (zeros SITES); count = n }) (listing (take n ps))
unfolding listing
held ps x n h e = rw (e, length-take-le n ps h, drop-replicate {X = Pair} n SITES (record { first = 0; second = 0; amount = 0 }))

pub returns : goal.returns
returns c = held c.args.pairs.now c.copy_from_slice.new.self c.args.count (omega arith) c.copy_from_slice.ensures.after
