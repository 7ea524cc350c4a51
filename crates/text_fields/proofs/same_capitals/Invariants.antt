-- The invariant: the bytes so far are the same.
use Rattle.std.proofs.Common.{◌≡◌, ◌<◌, ℕ, length, get_or}
use Rattle.text_fields.specs.Fields.{capital}
use Rattle.text_fields.proofs.same_capitals.Given as goal

abbrev pub invariant-loop-x : goal.invariant-loop-x
invariant-loop-x l = (k : ℕ) → k < length l.yielded → capital (get_or l.a k 0) ≡ capital (get_or l.b k 0)
