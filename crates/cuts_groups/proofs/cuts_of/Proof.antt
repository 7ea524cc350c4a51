-- `cuts_of` meets its contract: the cuts by the tally are the cuts.
use mathlib.Core.Path.{refl, ◌∙◌}
use Rattle.lists.specs.Numbers.{look}
use Rattle.tree.specs.Offer.{links}
use Rattle.cuts_groups.proofs.ByTally.{cuts_by_tally}
use Rattle.cuts_groups.proofs.cuts_of.Statement.{statement}
use Rattle.cuts_groups.proofs.cuts_of.Tie as tie

returns : tie.Need-returns
returns c =
    let made = c.before.before.before.before.before.before in
    let s = made.before.before.before.before.before.before in
    let a = s.args in
    c.cuts_by.ensures
    ∙ cuts_by_tally (links a.one.now a.two.now) a.n (look a.capacity.now) (look a.balanced.now) s.requires.0 a.ends.now
    made.of_links-labels.ensures

pub cuts_of_spec : {M : Type 1} → statement M
cuts_of_spec =
    tie.close
    (tie.spec
    (λ c κs. let p = c.before.before.before.before.before.requires in (p.1, p.2, p.3, refl))
    (λ c κs.
    let made = c.before.before.before.before.before in
    let p = made.before.before.before.before.before.before.requires in
    (p.0, made.of_links-labels.ensures.small, p.4))
    returns)
