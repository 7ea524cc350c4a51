-- `at` meets its contract: the first site, then the second.
use Rattle.std.proofs.Common.{◌≡◌, ◌≢◌, sym, ◌∙◌, arith}
use Rattle.lists.specs.Sums.{pick_same, pick_other, is_same, is-other}
use Rattle.region_sizes.proofs.at.Goals as goal

pub returns-then-first-v : goal.returns-then-first-v
returns-then-first-v c =
    let first : c.args.first ≡ c.args.v = omega arith in
    sym (pick_same first 1 _)

pub returns-then-second-v : goal.returns-then-second-v
returns-then-second-v c =
    let other : c.args.first ≢ c.args.v = omega arith in
    let second : c.args.second ≡ c.args.v = omega arith in
    sym (pick_other other 1 _ ∙ is_same second)

pub returns : goal.returns
returns c =
    let other : c.args.first ≢ c.args.v = omega arith in
    let neither : c.args.second ≢ c.args.v = omega arith in
    sym (pick_other other 1 _ ∙ is-other neither)
