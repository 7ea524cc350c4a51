-- `another` meets its contract: a site that is a or b is not another end, and of the others those are that are ends.
use Rattle.std.proofs.Common.{◌≡◌, ◌≢◌, ℕ, eqb, false, sym, arith}
use borrow.Author.Tests.{eq-eqb, ne_eqb}
use Rattle.lists.specs.Numbers.{look}
use Rattle.lists.specs.Sums.{same?}
use Rattle.model.specs.Parts.{another}
use Rattle.theory_trees.specs.FreePairs.{another-one, another-is}
use Rattle.log_ends.proofs.another.Goals as goal

-- what is not another end
none : (t : ℕ → ℕ) (a b w : ℕ) → ((t w ≡ 1) × (w ≢ a) × (w ≢ b) → ⊥) → false ≡ eqb (another t a b w) 1
none t a b w d = sym (ne_eqb (another t a b w) 1 (λ z. d (another-is t a b w (λ y. omega arith))))

-- of a site that is neither a nor b
other : (t : ℕ → ℕ) (a b w : ℕ) → w ≢ a → w ≢ b → eqb (t w) 1 ≡ eqb (another t a b w) 1
other t a b w d e = same? (t w) 1
    (λ o. rw (eq-eqb (t w) 1 o, another-one t a b w o d e))
    (λ o. rw (ne_eqb (t w) 1 o) (none t a b w (λ x. o x.0)))

pub returns-then-site-a : goal.returns-then-site-a
returns-then-site-a c = none (look c.args.ends.now) c.args.a c.args.b c.args.site (λ o. omega arith)

pub returns-then-site-b : goal.returns-then-site-b
returns-then-site-b c = none (look c.args.ends.now) c.args.a c.args.b c.args.site (λ o. omega arith)

pub returns : goal.returns
returns c = other (look c.args.ends.now) c.args.a c.args.b c.args.site (omega arith) (omega arith)
