-- The sets of the labels as words: one site more sets one bit, in the set of its label.
use mathlib.Core.Path.{◌≡◌, refl, sym, ap, ◌∙◌}
use mathlib.Core.Logic.{◌≢◌}
use mathlib.Core.List.{List}
use Prim.Native.Nat.{ℕ, ◌+◌, ◌*◌, ◌/◌, ◌%◌, ◌^◌, ◌≤◌, ◌<◌}
use native.Mathlib.Nat.{zero-div}
use native.Mathlib.Decide.{dec_lt}
use native.Mathlib.Omega.{arith}
use lib.Bits.{bit_or}
use lib.ListN.{length, set, replicate}
use lib.Seq.{get_or-set_same, get_or-set_other}
use Rattle.model.specs.Limits.{SETS, SITES, WORDS}
use Rattle.lists.specs.Numbers.{is, look}
use Rattle.lists.specs.Sums.{pick_same, pick_other, is_same, is-other, cases, same?, less_one, less_none}
use Rattle.tree_sets.specs.Members.{bit}
use Rattle.tree_sets.proofs.Bits.{or-bit}
use Rattle.cuts_groups.specs.Groups.{labelled, in_words}
use Rattle.lists.specs.Places.{look-zeros}

pub words-none : (labels : List ℕ) (l i : ℕ) → in_words (replicate SETS 0) l i ≡ labelled 0 labels l i
unfolding in_words labelled
words-none labels l i = rw (look-zeros SETS (l * WORDS + i / 64), zero-div, less_none {a = i} {b = 0} (λ h. omega arith)) (omega arith)

module _ (words labels : List ℕ) (k : ℕ) (h : k < SITES) (small : look labels (k + 1) ≤ SITES) (long : length words ≡ SETS) where
  abbrev here : ℕ
  here = look labels (k + 1) * WORDS + k / 64

  abbrev next : List ℕ
  next = set words here (bit_or (look words here) (1 * 2 ^ (k % 64) % 2 ^ 64))

  -- a place other than k is labelled as before
  labelled-other : (l i : ℕ) → i ≢ k → labelled k labels l i ≡ labelled (k + 1) labels l i
  unfolding labelled
  labelled-other l i d = cases (dec_lt i k)
      (λ p. rw (less_one p, less_one {a = i} {b = k + 1} (omega arith)) refl)
      (λ p. rw (less_none p, less_none {a = i} {b = k + 1} (λ q. p (omega arith))) refl)

  labelled-here : (l : ℕ) → labelled (k + 1) labels l k ≡ is (look labels (k + 1)) l
  unfolding labelled
  labelled-here l = rw (less_one {a = k} {b = k + 1} (omega arith)) (omega arith)

  labelled-none : (l : ℕ) → labelled k labels l k ≡ 0
  unfolding labelled
  labelled-none l = rw (less_none {a = k} {b = k} (λ q. omega arith)) (omega arith)

  in_low : (ws : List ℕ) (l i : ℕ) → i < SITES → in_words ws l i ≡ bit (look ws (l * WORDS + i / 64)) (i % 64)
  unfolding in_words
  in_low ws l i p = rw (less_one p) (omega arith)

  in_high : (ws : List ℕ) (l i : ℕ) → ¬ (i < SITES) → in_words ws l i ≡ labelled (k + 1) labels l i
  unfolding in_words labelled
  in_high ws l i p = rw (less_none p, less_none {a = i} {b = k + 1} (λ q. p (omega arith))) (omega arith)

  module _ (l i : ℕ) (before : in_words words l i ≡ labelled k labels l i) (p : i < SITES) where
    -- the word that is changed, and any other
    changed : l * WORDS + i / 64 ≡ here → bit (look next (l * WORDS + i / 64)) (i % 64) ≡ labelled (k + 1) labels l i
    changed e = rw (
      e,
      get_or-set_same words here (bit_or (look words here) (1 * 2 ^ (k % 64) % 2 ^ 64)) 0 (omega arith),
      or-bit (look words here) (k % 64) (i % 64) (omega arith),
    ) (same? i k
        (λ q. pick_same (ap (λ n. n % 64) q) _ _
        ∙ sym (ap (labelled (k + 1) labels l) q ∙ labelled-here l ∙ is_same {u = look labels (k + 1)} {v = l} (omega arith)))
        (λ d. pick_other {u = i % 64} {v = k % 64} (λ z. d (omega arith)) _ _
        ∙ ap (λ w. bit (look words w) (i % 64)) (sym e) ∙ sym (in_low words l i p) ∙ before ∙ labelled-other l i d))

    kept : l * WORDS + i / 64 ≢ here → bit (look next (l * WORDS + i / 64)) (i % 64) ≡ labelled (k + 1) labels l i
    kept n = rw (get_or-set_other words here (l * WORDS + i / 64) (bit_or (look words here) (1 * 2 ^ (k % 64) % 2 ^ 64)) 0 n) (same? i k
        (λ q. sym (in_low words l i p) ∙ before ∙ ap (labelled k labels l) q ∙ labelled-none l
        ∙ sym (ap (labelled (k + 1) labels l) q ∙ labelled-here l ∙ is-other (λ z. n (rw (q, z) refl))))
        (λ d. sym (in_low words l i p) ∙ before ∙ labelled-other l i d))

  pub words-next : (l i : ℕ) → in_words words l i ≡ labelled k labels l i → in_words next l i ≡ labelled (k + 1) labels l i
  words-next l i before = cases (dec_lt i SITES)
      (λ p. in_low next l i p ∙ same? (l * WORDS + i / 64) here (changed l i before p) (kept l i before p))
      (λ p. in_high next l i p)
