-- `take_cut` meets its contract: the members of the set are those of the label's words.
use mathlib.Core.Path.{◌∙◌}
use native.Mathlib.Omega.{arith}
use Rattle.model.specs.Limits.{SITES}
use Rattle.lists.specs.Numbers.{look}
use Rattle.lists.specs.Sums.{sum-eq}
use Rattle.tree_sets.specs.Members.{member}
use Rattle.cuts_groups.specs.Groups.{in_words}
use Rattle.cuts_groups.specs.Steps.{members}
use Rattle.cuts_groups.proofs.Owners.{claims_same}
use Rattle.cuts_groups.proofs.take_cut.Statement.{statement}
use Rattle.cuts_groups.proofs.take_cut.Tie as tie

returns : tie.Need-returns
unfolding members
returns c =
    let s = c.before.before.before.before.before.before in
    let a = s.args in
    let cut = c.before.before.before.cut_of-cut.result in
    let is_cut = c.before.before.before.cut_of-cut.ensures in
    let places = in_words a.words.now (look a.labels.now a.a) in (
      c.before.put_owner.ensures ∙ claims_same a.owner.now (member cut) places a.a is_cut,
      c.count.ensures
          ∙ sum-eq SITES (member cut) places (λ i h. is_cut i),
    )

pub take_cut_spec : {M : Type 1} → statement M
take_cut_spec =
    tie.close
    (tie.spec
    (λ c. omega arith)
    (λ c. omega arith)
    (λ c κs. c.before.before.requires.2)
    (λ c κs. c.before.before.before.before.requires.0)
    (λ c κs. tt)
    returns)
