-- What a question mark passes on is the error that it was given.
use Rattle.std.proofs.Common.{◌≡◌, ap, Result, Ok, Err}
use Rattle.std.specs.Prelude.{IsErrAnd}

pub passed : {T E : Type 0} (r : Result T E) {e : E} → IsErrAnd r (λ x. x ≡ e) → r ≡ Err e
passed (Ok x) h = absurd h
passed (Err x) h = ap Err h
