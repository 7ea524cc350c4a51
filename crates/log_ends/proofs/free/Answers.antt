-- `free` meets its contract: the two ends, that they differ, then the path, where an end may have several links.
use Rattle.std.proofs.Common.{◌≡◌, ◌≢◌, ℕ, Bool, true, false, not, eqb, refl, sym, arith}
use borrow.Author.Tests.{eq-eqb, ne_eqb}
use Rattle.lists.specs.Numbers.{look}
use Rattle.lists.specs.Sums.{same?}
use Rattle.model.specs.Flows.{Links}
use Rattle.model.specs.Parts.{crossed, free_pair}
use Rattle.theory_trees.specs.FreePairs.{free_parts, free_whole}
use Rattle.theory_trees.proofs.FreePairs.{outer_pairs_are_free}
use Rattle.tree.specs.Offer.{links}
use Rattle.log_ends.proofs.free.Goals as goal

-- what is not free
none : (ls : Links) (t : ℕ → ℕ) (a b : ℕ) → ((a ≢ b) × (t a ≡ 1) × (t b ≡ 1) × (crossed ls t a b ≡ 0) → ⊥) → false ≡ eqb (free_pair ls t a b) 1
none ls t a b d = sym (ne_eqb (free_pair ls t a b) 1 (λ f. d (free_parts ls t a b f)))

-- of two different ends the path decides
by_path : (ls : Links) (t : ℕ → ℕ) (a b : ℕ) → t a ≡ 1 → t b ≡ 1 → a ≢ b → (r : Bool) → r ≡ not (eqb (crossed ls t a b) 0)
    → not r ≡ eqb (free_pair ls t a b) 1
by_path ls t a b p q d r e = same? (crossed ls t a b) 0
    (λ z. rw (e, eq-eqb (crossed ls t a b) 0 z, eq-eqb (free_pair ls t a b) 1 (free_whole ls t a b d p q z)) refl)
    (λ z. rw (e, ne_eqb (crossed ls t a b) 0 z) (none ls t a b (λ o. z o.3)))

pub returns-then-ends-a-ne1 : goal.returns-then-ends-a-ne1
returns-then-ends-a-ne1 c = none (links c.args.one.now c.args.two.now) (look c.args.ends.now) c.args.a c.args.b (λ o. omega arith)

pub returns-then-ends-b-ne1 : goal.returns-then-ends-b-ne1
returns-then-ends-b-ne1 c = none (links c.args.one.now c.args.two.now) (look c.args.ends.now) c.args.a c.args.b (λ o. omega arith)

pub returns-then-a-b : goal.returns-then-a-b
returns-then-a-b c = none (links c.args.one.now c.args.two.now) (look c.args.ends.now) c.args.a c.args.b (λ o. omega arith)

pub returns-then-outer : goal.returns-then-outer
returns-then-outer c =
    let s = c.requires in
    let outer : c.args.outer ≡ true = cc in
    sym (eq-eqb _ 1 (outer_pairs_are_free s.0.tree.tree (look c.args.ends.now) (s.3 outer) c.args.a c.args.b s.1 s.2 (omega arith) (omega arith) (omega arith)))

pub returns : goal.returns
returns c =
    by_path (links c.args.one.now c.args.two.now) (look c.args.ends.now) c.args.a c.args.b (omega arith) (omega arith) (omega arith)
    c.crossed.result c.crossed.ensures
