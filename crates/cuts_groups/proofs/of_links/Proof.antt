-- `of_links` meets its contract: what its callees ensure, put together.
use mathlib.Core.Path.{sym, ◌∙◌}
use Prim.Native.Nat.{ℕ, ◌≤◌}
use borrow.Author.Rules.{rules}
use Rattle.model.specs.Limits.{SITES}
use Rattle.lists.specs.Numbers.{look}
use Rattle.tree.specs.Offer.{links}
use Rattle.cuts_groups.proofs.Kept.{settled_small, settled_cuts}
use Rattle.cuts_groups.proofs.Sums.{leaving-is-size}
use Rattle.cuts_groups.proofs.of_links.Statement.{statement}
use Rattle.cuts_groups.proofs.of_links.Tie as tie

join-kept-requires : tie.Need-join_kept-requires
join-kept-requires c κs = let p = c.before.before.before.before.before.before.requires in (c.before.own_labels-labels.ensures, p.0, p.1, p.2)

-- the labels have places
small : (c : tie.After-settle) → (x : ℕ) → look c.settle.new.parents x ≤ SITES
small c = settled_small c.settle.ensures c.before.before.before.join_kept.ensures.0

sums-leaving-requires : tie.Need-sums_leaving-requires
sums-leaving-requires c κs =
    let p = c.before.before.before.before.before.before.before.before.before.before.before.before.before.requires in
    (p.0, p.1, small c.before.before.before, p.3)

returns : tie.Need-returns
returns c =
    let settle = c.before.before.before.before in
    let kept = settle.before.before.before.join_kept.ensures in
    let s = settle.before.before.before.before.before.before.before.before.before.before in
    let a = s.args in
    let cuts = settled_cuts settle.settle.ensures kept.0 (links a.one.now a.two.now) (look a.capacity.now) (look a.balanced.now) kept.2 in
    record {
      grouped = cuts;
      small = small settle;
      sizes = λ x h. c.sums_leaving.ensures _ ∙ leaving-is-size settle.settle.new.parents s.requires.0 a.capacity.now a.balanced.now cuts x h;
    }

pub of_links_spec : {M : Type 1} → statement M
of_links_spec =
    tie.close
    (tie.spec
    (λ c κs. tt)
    (λ c. search rules)
    join-kept-requires
    (λ c. sym c.before.before.join_kept.ensures.0)
    (λ c κs. c.before.before.join_kept.ensures.1)
    sums-leaving-requires
    returns)
