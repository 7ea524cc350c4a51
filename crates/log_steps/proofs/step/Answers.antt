-- `step` meets its contract: the lower site first, and the way of the request; a fault moves nothing.
use Rattle.log_steps.proofs.Laws.{asked_wanted, open_answered, give-up-answered, fault_answered}
use Rattle.log_steps.proofs.step.Goals as goal

pub open-requires : goal.open-requires
open-requires c = (c.requires.0, asked_wanted (rw c.in-Open.is at c.requires.1) (cc), c.requires.2)

pub give_up-requires : goal.give_up-requires
give_up-requires c = (c.requires.0, asked_wanted (rw c.in-GiveUp.is at c.requires.1) (cc), c.requires.2)

pub returns-in-Open : goal.returns-in-Open
returns-in-Open c = open_answered c.in-Open.is (cc) c.«open».ensures

pub returns-in-GiveUp : goal.returns-in-GiveUp
returns-in-GiveUp c = give-up-answered c.in-GiveUp.is (cc) c.give_up.ensures

pub returns-in-Fault : goal.returns-in-Fault
returns-in-Fault c = fault_answered c.in-Fault.is c.requires.2
