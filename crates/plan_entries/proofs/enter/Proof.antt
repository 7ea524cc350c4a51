-- `enter` meets its contract: the lower site first, then as the pair; a fault gets its number.
use borrow.Author.Rules.{rules}
use Rattle.plan_entries.proofs.Laws.{asked_wanted, a-pair-entered, a_giving_up_gets_2, a_fault_gets_its_number}
use Rattle.plan_entries.proofs.enter.Statement.{statement}
use Rattle.plan_entries.proofs.enter.Tie as tie

enter-pair-requires : tie.Need-enter_pair-requires
enter-pair-requires c κs =
    let s = c.before.before.before.before.before.before in
    (s.requires.0, asked_wanted (rw c.before.before.before.in-Open.is at s.requires.1) c.before.before.lower_first-p.ensures, s.requires.2)

returns : tie.Need-returns-in-Open
returns c es h = a-pair-entered c.before.before.before.before.in-Open.is c.before.before.before.lower_first-p.ensures
    (c.enter_pair.ensures es h)

returns-2 : tie.Need-returns-in-GiveUp
returns-2 c es h = a_giving_up_gets_2 c.in-GiveUp.is

returns-3 : tie.Need-returns-in-Fault
returns-3 c es h = a_fault_gets_its_number c.in-Fault.is h

pub enter_spec : {M : Type 1} → statement M
enter_spec =
    tie.close
    (tie.spec
    (λ c. search rules)
    (λ c κs. search rules)
    enter-pair-requires
    (λ c. search rules)
    (λ c. search rules)
    returns
    returns-2
    returns-3)
