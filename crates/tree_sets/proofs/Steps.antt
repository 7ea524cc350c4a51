-- The steps of a walk: to the lowest member that is left of a word, and on to the next word where none is.
use Rattle.std.specs.Prelude.{◌≡◌, ◌≢◌, List, [], ◌∷◌, get_or}
use Rattle.std.proofs.Common.{sym, refl, ◌∙◌, arith, bit_and}
use lib.Count.{count_trailing_zeros}
use Rattle.std.proofs.Math.Path.{ap}
use Prim.Native.Nat.{ℕ, suc, ◌+◌, ◌-◌, ◌*◌, ◌/◌, ◌%◌, ◌^◌, ◌≤◌, ◌<◌}
use native.Mathlib.Nat.{zero-div}
use native.Mathlib.Decide.{dec_lt}
use Rattle.model.specs.Limits.{SITES, WORDS}
use Rattle.lists.specs.Sums.{pick_same, pick_other, same?, cases}
use Rattle.tree_sets.specs.Members.{bit, member, members_from}
use Rattle.tree_sets.specs.Laws.{members_skip, members_hit, members-eq}
use Rattle.tree_sets.specs.Walks.{within, kept, still}
use Rattle.tree_sets.proofs.Bits.{Lowest, lowest, in_word, without-lowest}

module _ (ws : List ℕ) (q left : ℕ) where
  -- the members of word q are those of what is left of it
  pub here : (k : ℕ) → k < 64 → kept ws q left (q * 64 + k) ≡ bit left k
  unfolding kept
  here k l =
      let a : (q * 64 + k) / 64 ≡ q = omega arith in
      let b : (q * 64 + k) % 64 ≡ k = omega arith in
      rw (pick_same a, b) refl

  -- those of the words behind it are as they were
  pub behind : (j : ℕ) → (q + 1) * 64 ≤ j → kept ws q left j ≡ within ws j
  unfolding kept
  behind j l = pick_other {u = j / 64} {v = q} (λ e. omega arith) _ _

  -- where nothing is left of word q, none of its numbers is a member
  none_left : left ≡ 0 → (k : ℕ) → k < 64 → kept ws q left (q * 64 + k) ≢ 1
  none_left z k l e = let n : bit left k ≡ 0 = rw (z, zero-div) in omega (arith, here k l, e, n)

-- the words as they stand
whole : (ws : List ℕ) (q j : ℕ) → kept ws q (get_or ws q 0) j ≡ within ws j
unfolding kept member
whole ws q j = same? (j / 64) q (λ e. rw (pick_same e, e) refl) (λ d. pick_other d _ _)

pub still_whole : (ws : List ℕ) → still ws 0 (get_or ws 0 0) ≡ members_from (within ws) 0 SITES
unfolding still
still_whole ws = members-eq (kept ws 0 (get_or ws 0 0)) (within ws) 0 SITES (λ j a b. whole ws 0 j)

module _ (ws : List ℕ) (q left : ℕ) where
  -- where nothing is left of word q, the members are those of the words behind it
  pub still_later : left ≡ 0 → q + 1 < WORDS → still ws q left ≡ still ws (q + 1) (get_or ws (q + 1) 0)
  unfolding still
  still_later z i =
      let k = SITES - (q + 1) * 64 in
      let e : SITES - q * 64 ≡ 64 + k = omega arith in
      let there : q * 64 + 64 ≡ (q + 1) * 64 = omega arith in
      ap (members_from (kept ws q left) (q * 64)) e
      ∙ members_skip (kept ws q left) (q * 64) 64 k (λ j l. none_left ws q left z j l)
      ∙ ap (λ p. members_from (kept ws q left) p k) there
      ∙ members-eq (kept ws q left) (kept ws (q + 1) (get_or ws (q + 1) 0)) ((q + 1) * 64) k (λ j a b. behind ws q left j a ∙ sym (whole ws (q + 1) j))

  -- behind the last word there is none
  pub still_end : left ≡ 0 → q + 1 ≡ WORDS → still ws q left ≡ []
  unfolding still members_from
  still_end z i =
      let e : SITES - q * 64 ≡ 64 + 0 = omega arith in
      ap (members_from (kept ws q left) (q * 64)) e ∙ members_skip (kept ws q left) (q * 64) 64 0 (λ j l. none_left ws q left z j l)

  module _ (some : left ≢ 0) (fits : left < 2 ^ 64) where
    abbrev t : ℕ
    t = count_trailing_zeros 64 left

    low : Lowest left t
    low = lowest 64 left some fits

    pub below : t < 64
    below = in_word left t fits low.set

    -- what is left of the word when its lowest bit is taken out
    abbrev others : ℕ
    others = bit_and left (left - 1)

    gone : (k : ℕ) → k < suc t → bit others k ≡ 0
    gone k l = without-lowest t left low k ∙ same? k t
        (λ e. pick_same e 0 (bit left k))
        (λ d. pick_other d 0 (bit left k) ∙ low.clear k (omega arith))

    stays : (j : ℕ) → q * 64 + t < j → kept ws q left j ≡ kept ws q others j
    stays j l = cases (dec_lt j ((q + 1) * 64))
        (λ i. let k = j - q * 64 in
        let there : q * 64 + k ≡ j = omega arith in
        let same : bit left k ≡ bit others k = sym (without-lowest t left low k ∙ pick_other {u = k} {v = t} (λ e. omega arith) 0 (bit left k)) in
        ap (kept ws q left) (sym there) ∙ here ws q left k (omega arith) ∙ same ∙ sym (here ws q others k (omega arith)) ∙ ap (kept ws q others) there)
        (λ i. behind ws q left j (omega arith) ∙ sym (behind ws q others j (omega arith)))

    -- the lowest of what is left is the next member
    pub still_next : q < WORDS → still ws q left ≡ (q * 64 + t) ∷ still ws q others
    unfolding still
    still_next i =
        let p = q * 64 in
        let k = SITES - p - t - 1 in
        let e : SITES - p ≡ t + suc k = omega (arith, below) in
        let e' : SITES - p ≡ suc t + k = omega (arith, below) in
        let there : suc (p + t) ≡ p + suc t = omega arith in
        ap (members_from (kept ws q left) p) e
        ∙ members_skip (kept ws q left) p t (suc k) (λ j l o. omega (arith, here ws q left j (omega (arith, below)), low.clear j l))
        ∙ members_hit (kept ws q left) (p + t) k (here ws q left t below ∙ low.set)
        ∙ ap (λ z. (p + t) ∷ z) (members-eq (kept ws q left) (kept ws q others) (suc (p + t)) k (λ j a b. stays j (omega arith))
        ∙ ap (λ z. members_from (kept ws q others) z k) there
        ∙ sym (members_skip (kept ws q others) p (suc t) k (λ j l o. omega (arith, here ws q others j (omega (arith, below)), gone j l)))
        ∙ sym (ap (members_from (kept ws q others) p) e'))
