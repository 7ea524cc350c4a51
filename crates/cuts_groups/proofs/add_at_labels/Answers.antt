-- `add_at_labels` meets its contract, by the law of a list with more at two places.
use Rattle.std.proofs.Common.{◌≡◌, ◌≢◌, arith}
use Rattle.std.proofs.Math.ListN.{length-set}
use Rattle.lists.specs.Numbers.{look}
use Rattle.cuts_groups.proofs.Sums.{raised, raised-none}
use Rattle.cuts_groups.proofs.add_at_labels.Goals as goal

pub returns-then-a-b : goal.returns-then-a-b
returns-then-a-b c =
    let a = c.args in
    let apart : look a.labels.now a.one ≢ look a.labels.now a.two = omega arith in rw (c.from-a.ensures, c.from-b.ensures) (
      simp length-set c.requires.places,
      raised a.labels.now a.one a.two a.d a.sums.now
          (omega (arith, c.requires.labelled a.one)) (omega (arith, c.requires.labelled a.two)) apart,
    )

pub returns-else-a-b : goal.returns-else-a-b
returns-else-a-b c =
    let a = c.args in
    let same : look a.labels.now a.one ≡ look a.labels.now a.two = omega arith in
    (c.requires.places, raised-none a.labels.now a.one a.two a.d a.sums.now same)
