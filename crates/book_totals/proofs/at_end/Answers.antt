-- `at_end`: whether the site is an end.
use Rattle.std.proofs.Common.{◌≡◌, ◌≢◌, ℕ, ◌*◌, arith}
use Rattle.lists.specs.Numbers.{is, look}
use Rattle.lists.specs.Sums.{is_same, is-other}
use Rattle.book_totals.proofs.at_end.Goals as goal

no_end : (e s : ℕ) → e ≢ 1 → 0 ≡ is e 1 * s
no_end e s d = rw (is-other d) (omega arith)

an_end : (e s : ℕ) {r : ℕ} → e ≡ 1 → r ≡ s → r ≡ is e 1 * s
an_end e s h k = rw (is_same h) (omega arith)

pub returns-then-ends-v-ne1 : goal.returns-then-ends-v-ne1
returns-then-ends-v-ne1 c = no_end _ _ (λ e. omega arith)

pub sum_at-requires : goal.sum_at-requires
sum_at-requires c = c.requires

pub returns : goal.returns
returns c = an_end _ _ (omega arith) c.sum_at.ensures
