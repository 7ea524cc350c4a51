-- `tree_links::mark_at` meets its contract: the first mark is that of site 1.
use mathlib.Core.Path.{◌≡◌, refl, ap}
use Prim.Native.Nat.{suc, ◌-◌}
use native.Mathlib.Omega.{arith}
use Rattle.model.specs.Flows.{mark}
use Rattle.tree_links.proofs.mark_at.Statement.{statement}
use Rattle.tree_links.proofs.mark_at.Tie as tie

no_site : tie.Need-returns-then-v-eq0
no_site c = rw c.if-v-eq0.true refl

site : tie.Need-returns
site c = let a = c.before.before.args in
    let next : suc (a.v - 1) ≡ a.v = omega arith in
    ap (mark a.marks.now) next

pub mark_at_spec : {M : Type 1} → statement M
mark_at_spec = tie.close (tie.spec no_site (λ c. omega arith) (λ c. omega arith) site)
