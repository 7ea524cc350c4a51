-- `cut` meets its contract: only the middle link can be heavy, and if it is it is cut; at a terminal nothing is.
use Rattle.std.proofs.Common.{◌≡◌, ◌≢◌, ℕ, ◌-◌, ◌<◌, ◌≤◌, List, length, sym, ◌∙◌, arith}
use Rattle.lists.specs.Numbers.{look}
use Rattle.lists.specs.Sums.{same?}
use Rattle.model.specs.Limits.{SITES}
use Rattle.model.specs.Flows.{sum_at}
use Rattle.theory_trees.specs.Trees.{others-add}
use Rattle.tree.specs.Offer.{links}
use Rattle.tree.specs.Links.{length-links}
use Rattle.trimming_passes.specs.Steps.{Middle, SumsKept}
use Rattle.trimming_passes.proofs.Laws.{cut-none, cut-one}
use Rattle.trimming_passes.proofs.cut.Goals as goal

-- the middle link is a link, and has no more than the sum
record Fitting (one two capacity sums : List ℕ) (v p : ℕ) : Type 0 where
  pub known : look sums v ≡ sum_at (links one two) v (look capacity)
  pub link : p - 1 < length one
  pub fits : look capacity (p - 1) ≤ look sums v

fitting : {one two capacity sums : List ℕ} → SumsKept one two capacity sums → (v p : ℕ) → v ≤ SITES → Middle (links one two) v (look capacity) p → 0 < p
    → Fitting one two capacity sums v p
fitting {one} {two} {capacity} {sums} k v p site m some =
    let number = length-links one two (sym k.placed.seconds) in
    record {
      known = k.summed v site;
      link = omega (arith, m.there.0);
      fits = omega (arith, k.summed v site, others-add (links one two) v (p - 1) (look capacity) (omega (arith, m.there.0)) (m.there.1 some));
    }

pub returns-then-ends-v-eq1 : goal.returns-then-ends-v-eq1
returns-then-ends-v-eq1 c =
    let a = c.args in
    let k = c.requires.1 in
    let terminal : look a.ends.now a.v ≡ 1 = omega arith in
    (cut-none a.chains.now.tree.one.now a.chains.now.tree.two.now (look a.ends.now) k.placed.seconds a.v a.capacity.now k.each (λ j l at-v inner. absurd (inner terminal)), k)

pub returns-then-p-eq0 : goal.returns-then-p-eq0
returns-then-p-eq0 c =
    let a = c.args in
    let k = c.requires.1 in
    let m = c.middle_at-p.ensures in
    (cut-none a.chains.now.tree.one.now a.chains.now.tree.two.now (look a.ends.now) k.placed.seconds a.v a.capacity.now k.each (λ j l at-v inner. m.others j l at-v (λ z. omega arith)), k)

pub offset_bounds-capacity-p : goal.offset_bounds-capacity-p
offset_bounds-capacity-p c = omega (arith, fitting c.requires.1 c.args.v c.middle_at-p.result c.requires.0 c.middle_at-p.ensures (omega arith), c.requires.1.placed.few)

pub bounds-capacity-p : goal.bounds-capacity-p
bounds-capacity-p c = omega (arith, fitting c.requires.1 c.args.v c.middle_at-p.result c.requires.0 c.middle_at-p.ensures (omega arith))

pub overflow_sub-sum : goal.overflow_sub-sum
overflow_sub-sum c = omega (arith, fitting c.requires.1 c.args.v c.middle_at-p.result c.requires.0 c.middle_at-p.ensures (omega arith))

pub returns-then-t-sum : goal.returns-then-t-sum
returns-then-t-sum c =
    let a = c.args in
    let k = c.requires.1 in
    let m = c.middle_at-p.ensures in
    let p = c.middle_at-p.result in
    let f = fitting k a.v p c.requires.0 m (omega arith) in (
      cut-none a.chains.now.tree.one.now a.chains.now.tree.two.now (look a.ends.now) k.placed.seconds a.v a.capacity.now k.each
          (λ j l at-v inner. same? j (p - 1) (λ z. rw z (omega arith)) (λ z. m.others j l at-v (λ y. z (omega arith)))),
      k,
    )

pub overflow_sub-sum-2 : goal.overflow_sub-sum-2
overflow_sub-sum-2 c = omega (arith, fitting c.requires.1 c.args.v c.middle_at-p.result c.requires.0 c.middle_at-p.ensures (omega arith))

pub lower-requires : goal.lower-requires
lower-requires c =
    let f = fitting c.requires.1 c.args.v c.middle_at-p.result c.requires.0 c.middle_at-p.ensures (omega arith) in
    (f.link, omega arith, c.requires.1)

pub returns : goal.returns
returns c =
    let a = c.args in
    let k = c.requires.1 in
    let m = c.middle_at-p.ensures in
    let f = fitting k a.v c.middle_at-p.result c.requires.0 m (omega arith) in
    let inner : look a.ends.now a.v ≢ 1 = omega arith in
    let done = c.lower.ensures in (
      done.0 ∙ cut-one a.chains.now.tree.one.now a.chains.now.tree.two.now (look a.ends.now) k.placed.seconds a.v a.capacity.now c.middle_at-p.result _ k.each inner m (omega arith) (omega arith),
      done.1,
    )
