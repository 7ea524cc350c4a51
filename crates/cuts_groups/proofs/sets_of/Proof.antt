-- `sets_of` meets its contract: with the owners as labels, the cuts by the labels are the sets.
use mathlib.Core.Path.{refl, ◌∙◌}
use Rattle.cuts_groups.proofs.ByOwners.{cuts_by_owners}
use Rattle.cuts_groups.proofs.sets_of.Statement.{statement}
use Rattle.cuts_groups.proofs.sets_of.Tie as tie

returns : tie.Need-returns
returns c =
    let summed = c.before.before.before.before.before in
    let s = summed.before.before.before.before.before in
    let a = s.args in
    c.cuts_by.ensures
    ∙ cuts_by_owners a.n s.requires.0 a.labels.now a.ends.now s.requires.3 s.requires.1 a.capacity.now _ summed.sums_leaving.ensures

pub sets_of_spec : {M : Type 1} → statement M
sets_of_spec =
    tie.close
    (tie.spec
    (λ c κs. let p = c.before.before.before.before.requires in (p.1, p.2, p.4, refl))
    (λ c κs. let p = c.before.before.before.before.before.before.before.before.before.requires in (p.0, p.4, p.5))
    returns)
