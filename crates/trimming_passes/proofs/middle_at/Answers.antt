-- `middle_at` meets its contract: what is passed and what is ahead in the chain is the sum; a link behind, or ahead of the middle, has at most half.
use Rattle.std.proofs.Common.{◌≡◌, ℕ, ◌+◌, ◌*◌, ◌-◌, ◌<◌, ◌≤◌, length, sym, ap, arith}
use native.Mathlib.Decide.{dec_le}
use Rattle.lists.specs.Numbers.{look, sum}
use Rattle.lists.specs.Sums.{cases, same?, sum_ge}
use Rattle.model.specs.Flows.{Links, at, sum_at}
use Rattle.tree.specs.Offer.{links}
use Rattle.tree.specs.Links.{length-links}
use Rattle.tree_links.specs.Chains.{last_at, On, on_last, last_le, last_none, last_sum, sum_back, walk_goes_on}
use Rattle.trimming_passes.specs.Steps.{Middle}
use Rattle.trimming_passes.proofs.middle_at.Goals as goal

-- a site v, m links and what each can carry
module _ (ls : Links) (v m : ℕ) (f : ℕ → ℕ) (total : ℕ) where
  -- what the links at v among the first p carry together
  abbrev ahead : ℕ → ℕ
  ahead p = sum p (λ i. at ls v i * f i)

  -- each link at v from p on has at most half
  abbrev Light : ℕ → Type 0
  Light p = (i : ℕ) → p ≤ i → i < m → at ls v i ≡ 1 → f i + f i ≤ total

  -- what is passed with the link at hand, and what is ahead of it
  passing : (passed p : ℕ) → 0 < p → On ls v m p → passed + ahead p ≡ total → passed + f (p - 1) + ahead (last_at ls (p - 1) v) ≡ total
  passing passed p some on e = omega (arith, sum_back ls v f p some (on.1 some))

  -- where the walk begins all is ahead
  start : length ls ≡ m → total ≡ sum_at ls v f → 0 + ahead (last_at ls m v) ≡ total
  unfolding sum_at
  start number e = omega (arith, last_sum ls v f m, ap ahead number)

  -- the link at hand has at most half
  light_more : (p : ℕ) → 0 < p → f (p - 1) + f (p - 1) ≤ total → Light p → Light (last_at ls (p - 1) v)
  light_more p some half light j h l at-v = cases (dec_le p j)
      (λ k. light j k l at-v)
      (λ k. same? j (p - 1) (λ e. rw e half) (λ d. absurd (last_none ls v (p - 1) j h (omega arith) at-v)))

  -- a link at v ahead has at most what is ahead
  link_ahead : (p j : ℕ) → j < p → at ls v j ≡ 1 → f j ≤ ahead (last_at ls p v)
  link_ahead p j l at-v =
      let part : at ls v j * f j ≤ ahead p = sum_ge p j (λ i. at ls v i * f i) l in
      omega (arith, rw at-v at part, last_sum ls v f p)

  -- half of the sum is passed: what is ahead is less, and so is every link there
  found : length ls ≡ m → total ≡ sum_at ls v f → (p : ℕ) → 0 < p → On ls v m p → Light p → ahead (last_at ls (p - 1) v) + ahead (last_at ls (p - 1) v) ≤ total → Middle ls v f p
  found number e p some on light half = record {
    there = (omega arith, on.1);
    others = λ j l at-v d. rw (← e) (cases (dec_le p j)
        (λ h. light j h (omega arith) at-v)
        (λ h. omega (arith, link_ahead (p - 1) j (omega arith) at-v)));
  }

  -- every link is behind
  none : length ls ≡ m → total ≡ sum_at ls v f → Light 0 → Middle ls v f 0
  none number e light = record {
    there = (omega arith, λ h. absurd (omega arith));
    others = λ j l at-v d. rw (← e) (light j (omega arith) (omega arith) at-v);
  }

pub loop-p-init : goal.loop-p-init
loop-p-init c =
    let a = c.args in
    let ls = links a.chains.now.tree.one.now a.chains.now.tree.two.now in
    let m = length a.chains.now.tree.one.now in
    let number = length-links a.chains.now.tree.one.now a.chains.now.tree.two.now (sym c.args.chains.now.chained.placed.seconds) in
    rw (c.args.chains.now.chained.lasts a.v c.requires.0) (
      on_last ls a.v m m (omega arith),
      start ls a.v m (look a.capacity.now) a.sum number c.requires.2,
      λ i k l at-v. absurd (last_none ls a.v m i k l at-v),
    )

pub overflow_add-passed : goal.overflow_add-passed
overflow_add-passed c =
    let a = c.args in
    let l = c.loop-p in
    omega (arith, passing (links a.chains.now.tree.one.now a.chains.now.tree.two.now) a.v (length a.chains.now.tree.one.now) (look a.capacity.now) a.sum l.passed l.p (omega arith) l.invariant.0 l.invariant.1)

pub overflow_sub-sum : goal.overflow_sub-sum
overflow_sub-sum c =
    let a = c.args in
    let l = c.loop-p in
    omega (arith, passing (links a.chains.now.tree.one.now a.chains.now.tree.two.now) a.v (length a.chains.now.tree.one.now) (look a.capacity.now) a.sum l.passed l.p (omega arith) l.invariant.0 l.invariant.1)

pub returns-then-sum-passed : goal.returns-then-sum-passed
returns-then-sum-passed c =
    let a = c.args in
    let l = c.loop-p in
    let ls = links a.chains.now.tree.one.now a.chains.now.tree.two.now in
    let m = length a.chains.now.tree.one.now in
    let f = look a.capacity.now in
    let number = length-links a.chains.now.tree.one.now a.chains.now.tree.two.now (sym c.args.chains.now.chained.placed.seconds) in
    let at-hand = passing ls a.v m f a.sum l.passed l.p (omega arith) l.invariant.0 l.invariant.1 in
    found ls a.v m f a.sum number c.requires.2 l.p (omega arith) l.invariant.0 l.invariant.2 (omega arith)

pub loop-p-smaller : goal.loop-p-smaller
loop-p-smaller c =
    let a = c.args in
    let l = c.loop-p in
    let back = walk_goes_on c.args.chains.now.chained a.v (l.p - 1) c.link_before-p.result (omega arith) (l.invariant.0.1 (omega arith)) c.link_before-p.ensures in
    omega (arith, last_le (links a.chains.now.tree.one.now a.chains.now.tree.two.now) a.v (l.p - 1))

pub loop-p-preserved : goal.loop-p-preserved
loop-p-preserved c =
    let a = c.args in
    let l = c.loop-p in
    let ls = links a.chains.now.tree.one.now a.chains.now.tree.two.now in
    let m = length a.chains.now.tree.one.now in
    let f = look a.capacity.now in
    let at-hand = passing ls a.v m f a.sum l.passed l.p (omega arith) l.invariant.0 l.invariant.1 in
    let back = walk_goes_on c.args.chains.now.chained a.v (l.p - 1) c.link_before-p.result (omega arith) (l.invariant.0.1 (omega arith)) c.link_before-p.ensures in
    rw back (
      on_last ls a.v m (l.p - 1) (omega arith),
      at-hand,
      light_more ls a.v m f a.sum l.p (omega arith) (omega arith) l.invariant.2,
    )

pub returns : goal.returns
returns c =
    let a = c.args in
    let l = c.loop-p in
    let number = length-links a.chains.now.tree.one.now a.chains.now.tree.two.now (sym c.args.chains.now.chained.placed.seconds) in
    none (links a.chains.now.tree.one.now a.chains.now.tree.two.now) a.v (length a.chains.now.tree.one.now) (look a.capacity.now) a.sum number c.requires.2 (λ i k. l.invariant.2 i (omega arith))
