-- `elimination::lowest` meets its contract: all sites below have higher keys, but for the one that is known.
use native.Mathlib.Omega.{arith}
use native.Mathlib.Decide.{dec_lt}
use Rattle.lists.specs.Sums.{cases}
use Rattle.tree_order.proofs.lowest.Statement.{statement}
use Rattle.tree_order.proofs.lowest.Tie as tie

known : tie.Need-returns-then-search-ne0
known c = let b = c.before.before.requires.1 in
    let k = b.known c.if-search-ne0.true in
    record {
      none = λ e. absurd (c.if-search-ne0.true e);
      some = λ d. (k.0, k.2);
      below = λ d x p h l. b.others x p (omega arith) (λ e. omega arith);
    }

searched : tie.Need-returns
searched c =
    let b = c.before.before.before.requires.1 in
    let f = c.lowest_from.ensures in
    let from = c.before.before.before.args.search.from in
    record {
      none = λ e x p h. cases (dec_lt x from) (λ l. b.others x p l (λ z. omega arith)) (λ l. f.none e x p (omega arith));
      some = f.some;
      below = λ d x p h l. cases (dec_lt x from) (λ k. b.others x p k (λ z. omega arith)) (λ k. f.below d x p (omega arith) l);
    }

pub lowest_spec : {M : Type 1} → statement M
lowest_spec = tie.close (tie.spec known (λ c κs. let b = c.before.before.requires.1.site in (omega arith, omega arith, omega arith)) searched)
