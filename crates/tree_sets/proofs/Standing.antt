-- Where a walk stands: at the lowest member that is left of a word, and on from a member, in its word or in a later one.
use mathlib.Core.Path.{◌≡◌, sym, ap, ◌∙◌}
use mathlib.Core.Logic.{◌≢◌}
use mathlib.Core.List.{List}
use Prim.Native.Nat.{ℕ, ◌+◌, ◌-◌, ◌*◌, ◌/◌, ◌%◌, ◌^◌, ◌≤◌, ◌<◌}
use native.Mathlib.Decide.{dec_lt}
use native.Mathlib.Nat.{zero-div}
use native.Mathlib.Omega.{arith}
use lib.Bits.{bit_and, and_le_l}
use lib.Count.{count_trailing_zeros}
use lib.ListN.{get_or}
use Rattle.model.specs.Limits.{WORDS}
use Rattle.lists.specs.Sums.{pick_same, pick_other, same?, cases}
use Rattle.tree_sets.specs.Members.{bit}
use Rattle.tree_sets.specs.Laws.{member-bit}
use Rattle.tree_sets.specs.Walks.{within, lowest, Standing, Walked}
use Rattle.tree_sets.specs.declared.Walk.{Walk}
use Rattle.tree_sets.proofs.Bits.{Lowest, lowest as lowest-bit, in_word, without-lowest}

-- where no member stands from p to p', the first from p' up is the first from p up
pub walked_skip : (f : ℕ → ℕ) {p p' : ℕ} {r : Walk} → p ≤ p' → ((j : ℕ) → p ≤ j → j < p' → f j ≢ 1) → Walked f p' r → Walked f p r
walked_skip f {p} {p'} {r} up none n = record {
  from = omega (arith, n.from);
  miss = λ j a l. cases (dec_lt j p') (λ m. none j a m) (λ m. n.miss j (omega arith) l);
  stands = n.stands;
  ended = n.ended;
}

-- ---- the lowest member of those that are left

module _ (f : ℕ → ℕ) (q b left : ℕ) (in_words_lem : q < WORDS) (fits : left < 2 ^ 64) (some : left ≢ 0)
    (gone : (k : ℕ) → k < b → bit left k ≡ 0) (kept : (k : ℕ) → b ≤ k → k < 64 → bit left k ≡ f (q * 64 + k)) where
  pub walked_lowest : Walked f (q * 64 + b) (lowest q left)
  unfolding lowest
  walked_lowest =
      let t = count_trailing_zeros 64 left in
      let low = lowest-bit 64 left some fits in
      let below : t < 64 = in_word left t fits low.set in
      let from : b ≤ t = cases (dec_lt t b) (λ l. absurd (omega (arith, gone t l, low.set))) (λ l. omega arith) in
      let word : (q * 64 + t) / 64 ≡ q = omega arith in
      let rest : (q * 64 + t) % 64 ≡ t = omega arith in
      record {
        from = omega arith;
        miss = λ j a l e.
            let k = j - q * 64 in
            let there : q * 64 + k ≡ j = omega arith in
            omega (arith, kept k (omega arith) (omega arith) ∙ ap f there ∙ e, low.clear k (omega arith));
        stands = λ n. record {
          inside = omega arith;
          here = sym (kept t from below) ∙ low.set;
          gone = λ k l. low.clear k (omega arith);
          kept = λ k l m. rw word (kept k (omega arith) m);
        };
        ended = λ z. absurd (some z);
      }

-- ---- on from a member

module _ (f : ℕ → ℕ) (w : Walk) (s : Standing f w) where
  at-lowest : Lowest w.left (w.place % 64)
  at-lowest = record { set = at_place; clear = s.gone }
    where
      at_place : bit w.left (w.place % 64) ≡ 1
      at_place =
          let whole : w.place / 64 * 64 + w.place % 64 ≡ w.place = omega arith in
          s.kept (w.place % 64) (omega arith) (omega arith) ∙ ap f whole ∙ s.here

  abbrev rest : ℕ → ℕ
  rest k = bit (bit_and w.left (w.left - 1)) k

  rest-low : (k : ℕ) → k < w.place % 64 + 1 → rest k ≡ 0
  rest-low k l = without-lowest (w.place % 64) w.left at-lowest k ∙ same? k (w.place % 64)
      (λ e. pick_same e 0 (bit w.left k))
      (λ d. pick_other d 0 (bit w.left k) ∙ s.gone k (omega arith))

  rest-high : (k : ℕ) → w.place % 64 + 1 ≤ k → k < 64 → rest k ≡ f (w.place / 64 * 64 + k)
  rest-high k l m =
      without-lowest (w.place % 64) w.left at-lowest k ∙ pick_other {u = k} {v = w.place % 64} (λ e. omega arith) 0 (bit w.left k)
      ∙ s.kept k (omega arith) m

  -- the next member is in the same word
  pub onward-here : w.left < 2 ^ 64 → bit_and w.left (w.left - 1) ≢ 0 → Walked f (w.place + 1) (lowest (w.place / 64) (bit_and w.left (w.left - 1)))
  onward-here fits some =
      let next : w.place / 64 * 64 + (w.place % 64 + 1) ≡ w.place + 1 = omega arith in
      rw next at (walked_lowest f (w.place / 64) (w.place % 64 + 1) (bit_and w.left (w.left - 1)) (omega (arith, s.inside))
      (omega (arith, and_le_l w.left (w.left - 1))) some rest-low rest-high)

  -- it is in a later one
  pub onward-later : {r : Walk} → bit_and w.left (w.left - 1) ≡ 0 → Walked f ((w.place / 64 + 1) * 64) r → Walked f (w.place + 1) r
  onward-later none = walked_skip f (omega arith) (λ j a l e.
      let k = j - w.place / 64 * 64 in
      let there : w.place / 64 * 64 + k ≡ j = omega arith in
      let none_here : rest k ≡ 0 = rw (none, zero-div) in
      omega (arith, rest-high k (omega arith) (omega arith) ∙ ap f there ∙ e, none_here))

-- ---- from word to word

module _ (ws : List ℕ) (from q left : ℕ) (word : left ≡ get_or ws q 0) (up : from ≤ q) (none : (j : ℕ) → from * 64 ≤ j → j < q * 64 → within ws j ≢ 1) where
  here : (k : ℕ) → k < 64 → bit left k ≡ within ws (q * 64 + k)
  here k l = rw word (sym (member-bit (record { words = ws }) q k l))

  -- where word q has members, the lowest is the first
  pub later-here : q < WORDS → left < 2 ^ 64 → left ≢ 0 → Walked (within ws) (from * 64) (lowest q left)
  later-here l fits some =
      let start : q * 64 + 0 ≡ q * 64 = omega arith in
      walked_skip (within ws) (omega arith) none
      (rw start at (walked_lowest (within ws) q 0 left l fits some (λ k m. absurd (omega arith)) (λ k m n. here k n)))

  -- where it has none, the next word is to be looked at
  pub later-again : left ≡ 0 → (j : ℕ) → from * 64 ≤ j → j < (q + 1) * 64 → within ws j ≢ 1
  later-again z j a l = cases (dec_lt j (q * 64))
      (λ m. none j a m)
      (λ m e.
      let k = j - q * 64 in
      let there : q * 64 + k ≡ j = omega arith in
      let none_here : bit left k ≡ 0 = rw (z, zero-div) in
      omega (arith, here k (omega arith) ∙ ap (within ws) there ∙ e, none_here))
