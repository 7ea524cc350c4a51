-- `shared_first` meets its contract: none of the links so far.
use mathlib.Core.Path.{◌≡◌, sym, ◌∙◌}
use Prim.Native.Nat.{◌-◌, ◌≤◌}
use native.Mathlib.Omega.{arith}
use borrow.Author.Tests.{eqb-true, eqb-false}
use lib.ListN.{length}
use Rattle.lists.specs.Numbers.{look}
use Rattle.tree.specs.Offer.{links}
use Rattle.theory_regions.specs.Sharing.{first_from}
use Rattle.region_links.specs.Laws.{it_may_be_anywhere, it_is_here, it_is_behind, it_is_nowhere, both_at}
use Rattle.region_links.specs.Partners.{both_in}
use Rattle.region_links.proofs.shared_first.Statement.{statement}
use Rattle.region_links.proofs.shared_first.Tie as tie

abbrev invariant-loop : tie.invariant-loop-j
invariant-loop one two partners j₀ j-end j =
    (j ≤ length one)
    × (first_from (both_in (look partners) (links one two)) 0 (length one) ≡ first_from (both_in (look partners) (links one two)) j (length one - j))

abbrev decreases-loop : tie.decreases-loop-j
decreases-loop one two partners j₀ j-end j = length one - j

both-requires : tie.Need-both-requires invariant-loop decreases-loop
both-requires c κs = c.before.before.before.before.before.before.requires.sites c.before.before.before.loop-j.j (omega arith)

returns : tie.Need-returns-then-both invariant-loop decreases-loop
returns c =
    let t = c.before.before.before.before.before in
    let s = c.before.before.before.before.before.before.before.before in
    let a = s.args in
    it_is_here (both_in (look a.partners.now) (links a.one.now a.two.now)) (length a.one.now) t.loop-j.j (omega arith) t.loop-j.invariant.1
    (sym (both_at (look a.partners.now) a.one.now a.two.now t.loop-j.j (omega arith) (omega (arith, s.requires.seconds)))
    ∙ eqb-true _ 1 (sym c.before.both.ensures ∙ c.if-both.true))

loop-again : tie.Need-loop-j-preserved invariant-loop decreases-loop
loop-again c =
    let t = c.before.before.before.before.before in
    let s = c.before.before.before.before.before.before.before.before in
    let a = s.args in (
      omega arith,
      it_is_behind (both_in (look a.partners.now) (links a.one.now a.two.now)) (length a.one.now) t.loop-j.j (omega arith) t.loop-j.invariant.1
          (λ o. eqb-false _ 1 (sym c.before.both.ensures ∙ c.if-both.false)
          (both_at (look a.partners.now) a.one.now a.two.now t.loop-j.j (omega arith) (omega (arith, s.requires.seconds)) ∙ o)),
    )

returns-2 : tie.Need-returns invariant-loop decreases-loop
returns-2 c =
    let t = c.before in
    let a = t.before.before.before.args in
    it_is_nowhere (both_in (look a.partners.now) (links a.one.now a.two.now)) (length a.one.now) t.loop-j.j (omega arith) t.loop-j.invariant.1

pub shared_first_spec : {M : Type 1} → statement M
shared_first_spec =
    tie.close
    (tie.spec
    invariant-loop
    decreases-loop
    (λ c. (omega arith, it_may_be_anywhere _ _))
    (λ c. omega arith)
    (λ c. omega arith)
    (λ c. omega arith)
    (λ c. omega arith)
    both-requires
    returns
    (λ c. omega arith)
    (λ c. omega arith)
    loop-again
    returns-2)
