-- `shared_second` meets its contract: none of the links so far.
use mathlib.Core.Path.{◌≡◌, sym, ◌∙◌}
use Prim.Native.Nat.{◌-◌, ◌≤◌}
use native.Mathlib.Omega.{arith}
use borrow.Author.Tests.{eqb-true, eqb-false}
use lib.ListN.{length}
use Rattle.tree.specs.Offer.{links}
use Rattle.theory_regions.specs.Sharing.{first_from}
use Rattle.region_links.specs.Laws.{it_may_be_anywhere, it_is_here, it_is_behind, it_is_nowhere, joining-at}
use Rattle.region_links.specs.Partners.{joining}
use Rattle.region_links.proofs.shared_second.Statement.{statement}
use Rattle.region_links.proofs.shared_second.Tie as tie

abbrev invariant-loop : tie.invariant-loop-k
invariant-loop one two x y k₀ k-end k =
    (k ≤ length one) × (first_from (joining (links one two) x y) 0 (length one) ≡ first_from (joining (links one two) x y) k (length one - k))

abbrev decreases-loop : tie.decreases-loop-k
decreases-loop one two x y k₀ k-end k = length one - k

returns : tie.Need-returns-then-joins invariant-loop decreases-loop
returns c =
    let t = c.before.before.before.before.before in
    let s = c.before.before.before.before.before.before.before.before in
    let a = s.args in
    it_is_here (joining (links a.one.now a.two.now) a.x a.y) (length a.one.now) t.loop-k.k (omega arith) t.loop-k.invariant.1
    (sym (joining-at a.one.now a.two.now a.x a.y t.loop-k.k (omega arith) (omega (arith, s.requires)))
    ∙ eqb-true _ 1 (sym c.before.joins.ensures ∙ c.if-joins.true))

loop-again : tie.Need-loop-k-preserved invariant-loop decreases-loop
loop-again c =
    let t = c.before.before.before.before.before in
    let s = c.before.before.before.before.before.before.before.before in
    let a = s.args in (
      omega arith,
      it_is_behind (joining (links a.one.now a.two.now) a.x a.y) (length a.one.now) t.loop-k.k (omega arith) t.loop-k.invariant.1
          (λ o. eqb-false _ 1 (sym c.before.joins.ensures ∙ c.if-joins.false)
          (joining-at a.one.now a.two.now a.x a.y t.loop-k.k (omega arith) (omega (arith, s.requires)) ∙ o)),
    )

returns-2 : tie.Need-returns invariant-loop decreases-loop
returns-2 c =
    let t = c.before in
    let a = t.before.before.before.args in
    it_is_nowhere (joining (links a.one.now a.two.now) a.x a.y) (length a.one.now) t.loop-k.k (omega arith) t.loop-k.invariant.1

pub shared_second_spec : {M : Type 1} → statement M
shared_second_spec =
    tie.close
    (tie.spec
    invariant-loop
    decreases-loop
    (λ c. (omega arith, it_may_be_anywhere _ _))
    (λ c. omega arith)
    (λ c. omega arith)
    (λ c. omega arith)
    (λ c. omega arith)
    (λ c κs. tt)
    returns
    (λ c. omega arith)
    (λ c. omega arith)
    loop-again
    returns-2)
