-- `cuts_by` meets its contract: what its callees ensure, put together; the sets hold the places of the labels.
use Rattle.std.proofs.Common.{refl, ap, ◌∙◌}
use Rattle.lists.specs.Numbers.{look}
use Rattle.cuts_groups.specs.Groups.{labelled, in_words}
use Rattle.cuts_groups.specs.Places.{of_terminal, of_alike, places_same}
use Rattle.cuts_groups.specs.Steps.{members, owners_to, cuts_by}
use Rattle.cuts_groups.proofs.ByTally.{members_alike, owners-alike}
use Rattle.cuts_groups.proofs.cuts_by.Goals as goal

pub returns : goal.returns
unfolding cuts_by
returns c =
    let a = c.args in
    let cut = in_words c.sets.new.words in
    let cut' = labelled a.n a.labels.now in
    let e = c.sets.ensures in
    rw (
      c.put_owners.ensures.0 ∙ owners-alike cut cut' a.labels.now e _ a.ends.now a.n
          ∙ ap (λ l. owners_to cut' a.labels.now l a.ends.now a.n) c.requires.2.owners,
      c.put_owners.ensures.1
          ∙ places_same (of_terminal (look a.ends.now) (members cut a.labels.now)) (of_terminal (look a.ends.now) (members cut' a.labels.now))
          a.n c.requires.0
          (of_alike (look a.ends.now) (members cut a.labels.now) (members cut' a.labels.now) (members_alike cut cut' a.labels.now e)),
      c.terminal_sizes.ensures,
    ) refl
