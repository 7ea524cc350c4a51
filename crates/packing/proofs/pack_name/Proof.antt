-- `pack_name` meets its contract: the offset and the length, each within its places.
use borrow.Author.Rules.{rules}
use borrow.Author.Tests.{le-leb, lt-leb}
use Rattle.packing.specs.Packed.{packed_name}
use Rattle.packing.proofs.pack_name.Statement.{statement}
use Rattle.packing.proofs.pack_name.Tie as tie

returns : tie.Need-returns-then-range
unfolding packed_name
returns c = rw (le-leb _ _ c.if-range.true)

returns-2 : tie.Need-returns
unfolding packed_name
returns-2 c = rw (lt-leb _ _ c.before.if-range.false)

pub pack_name_spec : {M : Type 1} → statement M
pack_name_spec = tie.close (tie.spec returns (λ c. search rules) (λ c. search rules) (λ c. search rules) returns-2)
