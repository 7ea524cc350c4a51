-- `trimmed_at_ends` meets its contract: the balanced sizes are summed, by the chains and ends that they are balanced by.
use Rattle.std.proofs.Common.{◌≡◌, ℕ, List, ◌++◌, arith, length, take, take_at}
use Rattle.std.proofs.lemmas.List.{length-replicate}
use Rattle.lists.specs.Numbers.{look}
use Rattle.model.specs.Edition.{largest}
use Rattle.model.specs.Flows.{ends}
use Rattle.model.specs.Trimming.{balanced}
use Rattle.tree.specs.Accepted.{MarkedTree}
use Rattle.tree.specs.Offer.{links}
use Rattle.trimming.specs.Outcome.{capacities}
use Rattle.trimming.specs.Promise.{promised_within, capacities_keep_the_promise}
use Rattle.book_totals.proofs.trimmed_at_ends.Goals as goal

-- the front of a list that begins with the balanced sizes
front : {n : ℕ} {one two marks c : List ℕ} → MarkedTree largest n one two marks c → (l rest : List ℕ) (terminal : ℕ → ℕ) → terminal ≡ look (ends (links one two) n marks)
    → l ≡ balanced (links one two) n terminal c ++ rest → take (length one) l ≡ capacities n one two marks c
unfolding capacities
front {n} {one} {two} {marks} {c} w l rest terminal e f =
    rw (f, e) (take_at (balanced (links one two) n (look (ends (links one two) n marks)) c) rest (length one) (capacities_keep_the_promise w).each)

pub balance-requires : goal.balance-requires
balance-requires c = rw c.of-chains.ensures (c.args.tree.within.within, c.requires.1, omega (arith, c.requires.0, length-replicate {A = ℕ} 4 0))

pub at_ends-requires : goal.at_ends-requires
at_ends-requires c =
    let w = c.args.tree.within in
    let ended = rw c.of-chains.ensures at c.ends-ends.ensures in
    let made = rw c.of-chains.ensures at c.balance.ensures in
    rw (c.of-chains.ensures, front w _ _ _ ended made) (promised_within w _ (capacities_keep_the_promise w)).within

pub returns : goal.returns
returns c =
    let w = c.args.tree.within in
    let ended = rw c.of-chains.ensures at c.ends-ends.ensures in
    let made = rw c.of-chains.ensures at c.balance.ensures in
    rw (ended, front w _ _ _ ended made) at (rw c.of-chains.ensures at c.at_ends.ensures)
