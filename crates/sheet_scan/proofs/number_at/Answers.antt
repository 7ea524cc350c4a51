-- Digits are a number where they are one, or the first of them is no zero.
use Rattle.std.proofs.Common.{inl, inr, arith}
use Rattle.sheet_scan.specs.ScanLaws.{digits_are_a_number}
use Rattle.sheet_scan.proofs.number_at.Goals as goal

-- The tests of the value and of the first digit are left to `omega`, which finds them among the facts.
pub returns-then-end-from-2 : goal.returns-then-end-from-2
returns-then-end-from-2 c =
    digits_are_a_number _ _ _ _ _ c.in_ok-end.ensures c.if-end-from.false (omega arith) (inl c.if-end-from-2.true)

pub returns : goal.returns
returns c =
    digits_are_a_number _ _ _ _ _ c.in_ok-end.ensures c.if-end-from.false (omega arith) (inr (λ e. omega arith))
