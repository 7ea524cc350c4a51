-- `unmarked` meets its contract: no mark is 1 just if no site is marked. The mark at place k is that of site k + 1.
use Rattle.std.proofs.Common.{◌≡◌, ◌≢◌, ℕ, zero, suc, Bool, true, false, List, length, rules, arith}
use Rattle.std.specs.Prelude.{IsTrue, ◌↔◌, EachIndex}
use Rattle.std.proofs.Math.ListN.{get_or-eq_default}
use Rattle.std.proofs.Math.Path.{refl}
use native.Mathlib.Decide.{dec_lt}
use Rattle.lists.specs.Numbers.{look}
use Rattle.lists.specs.Sums.{cases, contradiction}
use Rattle.model.specs.Flows.{mark}
use Rattle.tree.specs.Steps.{Tells}
use Rattle.tree_links.proofs.unmarked.Goals as goal

by_marks : (marks : List ℕ) (all : Bool) → (IsTrue all ↔ EachIndex marks (λ k. look marks k ≢ 1)) → Tells all ((v : ℕ) → mark marks v ≢ 1)
by_marks marks true t = unmarked_at
  where
    unmarked_at : (v : ℕ) → mark marks v ≢ 1
    unmarked_at zero = λ e. absurd (omega (arith, e))
    unmarked_at (suc k) = cases (dec_lt k (length marks))
        (λ b. t.0 refl k b)
        (λ b e. let none : look marks k ≡ 0 = get_or-eq_default marks 0 {n = k} (omega arith) in absurd (omega (arith, e, none)))
by_marks marks false t = λ none. let e : false ≡ true = t.1 (λ k b. none (suc k)) in contradiction cc

pub returns : goal.returns
returns c = by_marks c.args.marks.now c.all.result (search rules)
