-- `deliver`: the places first, then each region is given what goes by the other's number.
use Rattle.std.specs.Prelude.{Err}
use Rattle.std.proofs.Common.{sym, ap, ◌∙◌, arith}
use Rattle.exchanges.specs.Taken.{first_list_is_short, second_list_is_short, both_are_given}
use Rattle.exchanges.proofs.deliver.Goals as goal

pub returns-then-sizes-count : goal.returns-then-sizes-count
returns-then-sizes-count c =
    let s = c.requires in
    let a = c.args in
    let e = first_list_is_short a.tree.within a.tree2.within a.link a.link2 s.0 s.1 a.sizes.now a.sizes2.now (omega arith) in
    record {
      told = ap Err c.in_text.ensures ∙ sym (ap (λ p. p.outcome) e);
      left = sym (ap (λ p. p.first) e);
      left2 = sym (ap (λ p. p.second) e);
    }

pub returns-then-sizes2-count2 : goal.returns-then-sizes2-count2
returns-then-sizes2-count2 c =
    let s = c.requires in
    let a = c.args in
    let e = second_list_is_short a.tree.within a.tree2.within a.link a.link2 s.0 s.1 a.sizes.now a.sizes2.now (omega arith) (omega arith) in
    record {
      told = ap Err c.in_text-then-sizes2-count2.ensures ∙ sym (ap (λ p. p.outcome) e);
      left = sym (ap (λ p. p.first) e);
      left2 = sym (ap (λ p. p.second) e);
    }

pub returns : goal.returns
returns c =
    let s = c.requires in
    let a = c.args in
    let u = c.give_both-sums.ensures in
    let both = both_are_given a.tree.within a.tree2.within a.link a.link2 s.0 s.1 a.sizes.now a.sizes2.now (omega arith) (omega arith) u.told u.told2 u.left u.left2 in
    record { told = both.0; left = both.1.0; left2 = both.1.1 }
