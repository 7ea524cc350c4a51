-- `enter_pair` meets its contract: by the bit of the pair.
use mathlib.Core.Path.{◌≡◌, sym, ◌∙◌}
use mathlib.Core.Logic.{◌≢◌}
use Prim.Native.Nat.{◌-◌}
use native.Mathlib.Omega.{arith}
use borrow.Author.Tests.{eqb-true, eqb-false}
use Rattle.log_paths.specs.Tables.{in_table}
use Rattle.plan_entries.proofs.Laws.{sites-low, given_already, newly_entered}
use Rattle.plan_entries.proofs.enter_pair.Statement.{statement}
use Rattle.plan_entries.proofs.enter_pair.Tie as tie

sub-place : tie.Need-overflow_sub-place
sub-place c = let s = c.before.before in (sites-low s.requires.0 s.requires.1).0

has-requires : tie.Need-has-requires
has-requires c κs = let s = c.before.before in let low = sites-low s.requires.0 s.requires.1 in (low.1, low.3)

returns : tie.Need-returns-then-has
returns c es h =
    let s = c.before.before.before.before in
    given_already s.requires.0 s.requires.1 h (eqb-true _ 1 (sym c.before.has.ensures ∙ c.if-has.true))

-- its bit is 0
not-given : (c : tie.Else-has) → let a = c.before.before.before.before.args in in_table a.given.now (a.p.second - 1) a.p.first ≡ 0
unfolding in_table
not-given c =
    let a = c.before.before.before.before.args in
    let bit = in_table a.given.now (a.p.second - 1) a.p.first in
    let d : bit ≢ 1 = eqb-false bit 1 (sym c.before.has.ensures ∙ c.if-has.false) in
    omega arith

put-requires : tie.Need-put-requires
put-requires c κs =
    let s = c.before.before.before.before.before in
    let low = sites-low s.requires.0 s.requires.1 in
    (s.requires.2.rows, low.1, low.3, not-given c.before)

between-requires : tie.Need-between-path-requires
between-requires c κs = let s = c.before.before.before.before.before.before in let low = sites-low s.requires.0 s.requires.1 in (low.1, low.2)

raise-requires : tie.Need-raise-requires
raise-requires c κs =
    let s = c.before.before.before.before.before.before.before.before in
    record { places = s.requires.2.places; room = λ j. omega (arith, s.requires.2.small j, s.requires.1.limited) }

returns-2 : tie.Need-returns
returns-2 c es h =
    let s = c.before.before.before.before.before.before.before.before.before in
    newly_entered s.requires.0 s.requires.1 h (not-given c.before.before.before.before.before) c.before.before.before.put.ensures
    c.before.before.between-path.result c.before.before.between-path.ensures
    c.raise.ensures

pub enter_pair_spec : {M : Type 1} → statement M
enter_pair_spec =
    tie.close
    (tie.spec
    sub-place
    has-requires
    returns
    put-requires
    between-requires
    raise-requires
    returns-2)
