-- `match_lists`: each turn makes the next pair of the match.
use Rattle.std.proofs.Common.{arith}
use Rattle.pairing_halves.proofs.Matching.{match-starts, match-ends, match_fronts, match_room, match_falls, match-next}
use Rattle.pairing_halves.proofs.match_lists.Goals as goal

pub loop-down-init : goal.loop-down-init
loop-down-init c = match-starts c.requires

-- the two entries lie within their lists, and there is room for the pair
pub pair_fronts-amount-requires : goal.pair_fronts-amount-requires
pair_fronts-amount-requires c =
    let s = c.loop-down.invariant in
    (match_fronts s c.loop-down-test.true, match_room s c.loop-down-test.true c.requires.room)

-- what is spent is at most what each entry has left
pub spend-up-requires : goal.spend-up-requires
spend-up-requires c =
    let f = match_fronts c.loop-down.invariant c.loop-down-test.true in
    (f.up-inside, omega (arith, c.pair_fronts-amount.ensures.amount, f.up-partly))

pub spend-down-requires : goal.spend-down-requires
spend-down-requires c =
    let f = match_fronts c.loop-down.invariant c.loop-down-test.true in
    (f.down-inside, omega (arith, c.pair_fronts-amount.ensures.amount, f.down-partly))

pub loop-down-smaller : goal.loop-down-smaller
loop-down-smaller c =
    rw (c.spend-down.ensures, c.pair_fronts-amount.ensures.amount) (match_falls c.loop-down.invariant c.loop-down-test.true)

pub loop-down-preserved : goal.loop-down-preserved
loop-down-preserved c =
    rw (c.spend-up.ensures, c.spend-down.ensures, c.pair_fronts-amount.ensures.amount)
    (match-next c.loop-down.invariant c.loop-down-test.true (rw c.pair_fronts-amount.ensures.amount at c.pair_fronts-amount.ensures.pair))

pub returns : goal.returns
returns c =
    let s = c.loop-down.invariant in
    let e = match-ends s c.loop-down-test.false in
    record { pairs = e.0; begins = s.begins; lies = s.ups; left = e.1 }
