-- `give_up`: each test leads to the answer of its cause.
use Rattle.std.proofs.Common.{refl, arith}
use Rattle.log_steps.proofs.Laws.{lowering, not_open, too_little, enough_open, given-up}
use Rattle.log_steps.proofs.give_up.Goals as goal

pub returns-in_default : goal.returns-in_default
returns-in_default c = let s = c.requires in let none = rw c.in_default.is at c.find.ensures in not_open s.0 s.2 s.1 none refl

pub returns-then-pairs-place : goal.returns-then-pairs-place
returns-then-pairs-place c =
    let s = c.requires in
    let found = rw c.in-Some.is at c.find.ensures in
    too_little s.0 s.2 s.1 found.1 (λ e. omega (arith, e, found.0)) c.if-pairs-place.true

pub lower-requires : goal.lower-requires
lower-requires c =
    let s = c.requires in
    let found = rw c.in-Some.is at c.find.ensures in
    let enough = enough_open s.0 s.2 s.1 found.1 (λ e. omega (arith, e, found.0)) (omega arith) in
    lowering s.0 s.2 s.1 c.between-path.result c.between-path.ensures enough

pub returns : goal.returns
returns c =
    let s = c.requires in
    let found = rw c.in-Some.is at c.find.ensures in
    given-up s.0 s.2 s.1 found.1 (λ e. omega (arith, e, found.0)) (omega arith) c.between-path.result c.between-path.ensures c.lower.ensures c.shrink.ensures
