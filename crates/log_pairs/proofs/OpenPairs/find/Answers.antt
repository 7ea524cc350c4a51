-- `OpenPairs::find`: a pair is found by its number, and a block that has none is passed over.
use Rattle.std.proofs.Common.{Option, Some, None, ◌≡◌, ◌≢◌, ℕ, List, ◌+◌, ◌-◌, ◌≤◌, ◌<◌, min, sym, ap, ◌∙◌, arith}
use Rattle.std.proofs.Math.Decide.{dec_lt}
use Rattle.model.specs.Limits.{SITES}
use Rattle.lists.specs.Numbers.{is, look, sum}
use Rattle.lists.specs.Sums.{cases, is_same, sum_ge}
use Rattle.log_pairs.specs.Arrays.{packed, BLOCK, FirstFrom, FoundFrom, FirstPlace, Found}
use Rattle.log_pairs.proofs.OpenPairs.find.Goals as goal

-- a pair is found by its number
by_number : {f : List ℕ} {a b key from count k : ℕ} → b ≤ SITES → key ≡ packed a b → ((i : ℕ) → i < from → look f i ≢ key)
    → FirstFrom f key from count k → FirstPlace f a b count k
by_number {f} {a} {b} {key} {from} {count} {k} low n none h = record {
  within = h.within;
  there = λ l. let e = h.there l in (omega arith, omega arith);
  before = λ i l p q.
      let e : look f i ≡ key = omega arith in
      cases (dec_lt i from) (λ m. none i m e) (λ m. h.before i (omega arith) l e);
}

found_by_number : (f : List ℕ) (a b key from count : ℕ) → b ≤ SITES → key ≡ packed a b → ((i : ℕ) → i < from → look f i ≢ key)
    → (r : Option ℕ) → FoundFrom f key from count r → Found f a b count r
found_by_number f a b key from count low n none None h = by_number low n none h
found_by_number f a b key from count low n none (Some k) h = (h.0, by_number low n none h.1)

-- where none of a block's places is told, none has the number
not-in-block : (f : List ℕ) (key at i : ℕ) → min 1 (sum BLOCK (λ k. is (look f (at + k)) key)) ≡ 0 → at ≤ i → i < at + BLOCK → look f i ≢ key
not-in-block f key at i none from to e =
    let k = i - at in
    let there : at + k ≡ i = omega arith in
    omega (arith, sum_ge BLOCK k (λ k. is (look f (at + k)) key) (omega arith), is_same (ap (look f) there ∙ e))

pub loop-at-init : goal.loop-at-init
loop-at-init c = (omega arith, λ i l. absurd (omega arith))

pub returns-then-in_block-ne0 : goal.returns-then-in_block-ne0
returns-then-in_block-ne0 c = found_by_number _ _ _ _ _ _ c.requires.1 c.packed-key.ensures c.loop-at.invariant.1 c.first_from.result c.first_from.ensures

pub loop-at-preserved : goal.loop-at-preserved
loop-at-preserved c = (
  omega arith,
  λ i l. cases (dec_lt i c.loop-at.at)
      (λ m. c.loop-at.invariant.1 i m)
      (λ m. not-in-block c.args.self.now.pairs c.packed-key.result c.loop-at.at i (sym c.in_block.ensures ∙ c.if-in_block-ne0.false) (omega arith) l),
)

pub returns : goal.returns
returns c = found_by_number _ _ _ _ _ _ c.requires.1 c.packed-key.ensures c.loop-at.invariant.1 c.first_from-2.result c.first_from-2.ensures
