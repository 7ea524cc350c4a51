-- `put_owners` meets its contract: after i sites the terminals among them have claimed their places and are counted.
use Rattle.std.proofs.Common.{◌≡◌, sym, ap, ◌∙◌, ◌+◌, arith, length}
use Rattle.std.proofs.lemmas.List.{length-map}
use Rattle.model.specs.Limits.{SITES}
use Rattle.lists.specs.Numbers.{look, upfrom}
use Rattle.lists.specs.Places.{length-upfrom}
use Rattle.cuts_groups.specs.Groups.{in_words}
use Rattle.cuts_groups.specs.Places.{of_terminal, places-none, places-terminal, places_inner}
use Rattle.cuts_groups.specs.Steps.{members, claim}
use Rattle.cuts_groups.proofs.ByTally.{owners-none, owners-next, owners_pass}
use Rattle.cuts_groups.proofs.put_owners.Goals as goal
use Rattle.cuts_groups.proofs.put_owners.Goals.{then-ends-i-eq1, else-ends-i-eq1}

pub loop-i-init : goal.loop-i-init
loop-i-init c =
    let a = c.args in
    let cut = in_words a.words.now in (
      omega arith,
      c.requires.2,
      sym (owners-none cut a.labels.now a.owner.now a.ends.now),
      c.requires.3 ∙ places-none (of_terminal (look a.ends.now) (members cut a.labels.now)),
    )

pub take_cut-requires : goal.take_cut-requires
take_cut-requires c = (c.loop-i.invariant.1, omega arith, c.requires.1 (c.loop-i.i + 1))

pub loop-i-preserved : goal.loop-i-preserved
loop-i-preserved c =
    let a = c.args in
    let l = c.loop-i in
    let i = l.i in
    let labels = a.labels.now in
    let ends = a.ends.now in
    let cut = in_words a.words.now in
    elim c.if-ends-i-eq1.branch [
      | then-ends-i-eq1 w ↦ (
        omega arith,
        ap length (w.owner-is ∙ w.take_cut.ensures.0)
            ∙ length-map (upfrom 0 SITES) (claim l.owner (cut (look labels (i + 1))) (i + 1)) ∙ length-upfrom 0 SITES,
        w.owner-is ∙ w.take_cut.ensures.0 ∙ owners-next cut labels a.owner.now ends i l.invariant.2 w.if-ends-i-eq1.true,
        w.count-is ∙ places-terminal (look ends) (members cut labels) i (omega arith) l.invariant.3 w.if-ends-i-eq1.true w.take_cut.ensures.1,
      )
      | else-ends-i-eq1 w ↦ (
        omega arith,
        ap length w.owner-is ∙ l.invariant.1,
        w.owner-is ∙ owners_pass cut labels a.owner.now ends i l.invariant.2 w.if-ends-i-eq1.false,
        w.count-is ∙ places_inner (look ends) (members cut labels) i (omega arith) l.invariant.3 w.if-ends-i-eq1.false,
      )
    ]

pub returns : goal.returns
returns c =
    let all : c.loop-i.i ≡ c.args.n = omega arith in
    (rw all at c.loop-i.invariant.2, rw all at c.loop-i.invariant.3)
