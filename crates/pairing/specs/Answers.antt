-- What `pair_up` says, in both directions: no tree, a size above the limit, too few lent places, a heavy link, or the pairs, each just of its cause.
-- Document 01, "Pairing" (what is said, in its order). By the cases of the definition.
use Rattle.std.specs.Prelude.{◌≡◌, Bool, true, false, List, ◌++◌, ◌↔◌, ℕ, ◌≤◌, ◌<◌, leb, length, take, drop, Ok, Err, Result}
use Rattle.std.proofs.Math.Path.{refl}
use Rattle.std.proofs.Common.{arith}
use borrow.Author.Tests.{leb-true, leb-false, le-leb, lt-leb}
use Rattle.std.proofs.Math.Seq.{take-length}
use Rattle.lists.specs.Numbers.{look}
use Rattle.lists.specs.Sums.{contradiction}
use Rattle.model.specs.Limits.{SIZE}
use Rattle.model.specs.Edition.{largest}
use Rattle.model.specs.Trimming.{Balanced}
use Rattle.model.specs.declared.Pair.{Pair}
use Rattle.tree.specs.Offer.{Offered, links, offer}
use Rattle.tree.specs.Accepted.{MarkedTree, accepted_is_a_tree_within_the_limits, a_tree_within_the_limits_is_accepted}
use Rattle.tree.specs.Answers.{SizedTree, Above}
use Rattle.tree.specs.Answers.{no_tree_is_said_just_of_no_tree, too_large_is_said_just_of_a_capacity_above_the_limit}
use Rattle.tree.specs.declared.Unfit.TheVariants as unfit
use Rattle.pairing.specs.Weighing.Heavy.{HeavyLink, heavy_somewhere, balanced_has_no_heavy_link, no_heavy_link_is_balanced}
use Rattle.pairing.specs.Weighing.Heavy.{heavy_somewhere_is_a_heavy_link, a_heavy_link_is_somewhere}
use Rattle.pairing.specs.declared.Unpaired.{Unpaired}
use Rattle.pairing.specs.declared.Unpaired.TheVariants.{NoTree, TooLarge, Heavy}
use Rattle.pairing.specs.Outcome.{terminals, list_of, decide, answer, after, paired, number, pair_count}

-- ---- by the cases of the definition

said_no_tree : (o : Offered) (enough heavy : Bool) (m : ℕ) → decide o enough heavy m ≡ Err NoTree → o ≡ Err unfit.NoTree
unfolding decide
said_no_tree (Err unfit.NoTree) enough heavy m e = refl
said_no_tree (Err unfit.TooLarge) enough heavy m e = contradiction cc
said_no_tree (Ok tt) false heavy m e = contradiction cc
said_no_tree (Ok tt) true true m e = contradiction cc
said_no_tree (Ok tt) true false m e = contradiction cc

said_too_large : (o : Offered) (enough heavy : Bool) (m : ℕ) → decide o enough heavy m ≡ Err TooLarge → o ≡ Err unfit.TooLarge
unfolding decide
said_too_large (Err unfit.NoTree) enough heavy m e = contradiction cc
said_too_large (Err unfit.TooLarge) enough heavy m e = refl
said_too_large (Ok tt) false heavy m e = contradiction cc
said_too_large (Ok tt) true true m e = contradiction cc
said_too_large (Ok tt) true false m e = contradiction cc

told_nine : (o : Offered) (enough heavy : Bool) (m : ℕ) → number (decide o enough heavy m) ≡ 9 → (o ≡ Ok tt) × (enough ≡ false)
unfolding decide number
told_nine (Err unfit.NoTree) enough heavy m e = absurd (omega arith)
told_nine (Err unfit.TooLarge) enough heavy m e = absurd (omega arith)
told_nine (Ok tt) false heavy m e = (refl, refl)
told_nine (Ok tt) true true m e = absurd (omega arith)
told_nine (Ok tt) true false m e = absurd (omega arith)

said_heavy : (o : Offered) (enough heavy : Bool) (m : ℕ) → decide o enough heavy m ≡ Err Heavy
    → (o ≡ Ok tt) × (enough ≡ true) × (heavy ≡ true)
unfolding decide
said_heavy (Err unfit.NoTree) enough heavy m e = contradiction cc
said_heavy (Err unfit.TooLarge) enough heavy m e = contradiction cc
said_heavy (Ok tt) false heavy m e = contradiction cc
said_heavy (Ok tt) true true m e = (refl, refl, refl)
said_heavy (Ok tt) true false m e = contradiction cc

said_pairs : (o : Offered) (enough heavy : Bool) (m count : ℕ) → decide o enough heavy m ≡ Ok count
    → (o ≡ Ok tt) × (enough ≡ true) × (heavy ≡ false) × (count ≡ m)
unfolding decide
said_pairs (Err unfit.NoTree) enough heavy m count e = contradiction cc
said_pairs (Err unfit.TooLarge) enough heavy m count e = contradiction cc
said_pairs (Ok tt) false heavy m count e = contradiction cc
said_pairs (Ok tt) true true m count e = contradiction cc
said_pairs (Ok tt) true false m count e = (refl, refl, refl, cc)

-- ---- what is said

module _ (n : ℕ) (one two marks c : List ℕ) where
  abbrev heavy : Bool
  heavy = heavy_somewhere (links one two) n (terminals n one two marks) (look c)

  module _ (places : ℕ) where
    abbrev enough : Bool
    enough = leb (length one) places

    abbrev m : ℕ
    m = length (list_of n one two marks c)

    pub no_tree_is_told_just_of_no_tree : (answer n one two marks c places ≡ Err NoTree) ↔ (¬ (SizedTree largest n one two marks c))
    unfolding answer decide
    no_tree_is_told_just_of_no_tree =
        let law = no_tree_is_said_just_of_no_tree largest n one two marks c in
        (λ e. law.0 (said_no_tree (offer largest n one two marks c) enough heavy m e), λ d. rw (law.1 d) refl)

    pub too_large_is_told_just_of_a_size_above_the_limit : (answer n one two marks c places ≡ Err TooLarge) ↔ (SizedTree largest n one two marks c × Above SIZE c)
    unfolding answer decide
    too_large_is_told_just_of_a_size_above_the_limit =
        let law = too_large_is_said_just_of_a_capacity_above_the_limit largest n one two marks c in
        (λ e. law.0 (said_too_large (offer largest n one two marks c) enough heavy m e), λ w. rw (law.1 w) refl)

    -- 9 comes before a heavy link
    pub nine_is_told_just_of_too_few_places : (number (answer n one two marks c places) ≡ 9) ↔ (MarkedTree largest n one two marks c × (places < length one))
    unfolding answer decide number
    nine_is_told_just_of_too_few_places = (
      λ e. let h = told_nine (offer largest n one two marks c) enough heavy m e in
          (accepted_is_a_tree_within_the_limits largest n one two marks c h.0, leb-false (length one) places h.1),
      λ h. rw (a_tree_within_the_limits_is_accepted largest n one two marks c h.0, lt-leb (length one) places h.1) refl,
    )

    pub heavy_is_told_just_of_a_heavy_link : (answer n one two marks c places ≡ Err Heavy)
        ↔ (MarkedTree largest n one two marks c × (length one ≤ places) × HeavyLink (links one two) n (terminals n one two marks) (look c))
    unfolding answer decide
    heavy_is_told_just_of_a_heavy_link = (
      λ e. let h = said_heavy (offer largest n one two marks c) enough heavy m e in (
        accepted_is_a_tree_within_the_limits largest n one two marks c h.0,
        leb-true (length one) places h.1,
        heavy_somewhere_is_a_heavy_link (links one two) (terminals n one two marks) (look c) n h.2,
      ),
      λ h. rw (
        a_tree_within_the_limits_is_accepted largest n one two marks c h.0,
        le-leb (length one) places h.1,
        a_heavy_link_is_somewhere (links one two) (terminals n one two marks) (look c) n h.2,
      ) refl,
    )

    pub pairs_are_told_just_of_balanced_sizes : (count : ℕ) → (answer n one two marks c places ≡ Ok count)
        ↔ (MarkedTree largest n one two marks c × (length one ≤ places) × Balanced (links one two) (terminals n one two marks) (look c)
        × (count ≡ length (list_of n one two marks c)))
    unfolding answer decide
    pairs_are_told_just_of_balanced_sizes count = (
      λ e. let h = said_pairs (offer largest n one two marks c) enough heavy m count e in
          let w = accepted_is_a_tree_within_the_limits largest n one two marks c h.0 in (
            w,
            leb-true (length one) places h.1,
            no_heavy_link_is_balanced (links one two) (terminals n one two marks) (look c) w.within.tree h.2,
            h.3,
          ),
      λ h. rw (
        a_tree_within_the_limits_is_accepted largest n one two marks c h.0,
        le-leb (length one) places h.1,
        balanced_has_no_heavy_link (links one two) (terminals n one two marks) (look c) n h.2,
        h.3,
      ) refl,
    )

-- ---- what is written, whatever is told

after-written : (a : Result ℕ Unpaired) (ps lent : List Pair) → ((count : ℕ) → a ≡ Ok count → count ≡ length ps)
    → after a ps lent ≡ take (pair_count a) ps ++ drop (pair_count a) lent
unfolding after pair_count
after-written (Ok count) ps lent e = rw (e count refl, take-length) refl
after-written (Err e) ps lent h = refl

-- the pairs stand in as many places as are told; the others stay as they were, all of them where no pairs are told
pub what_is_told_is_written : (n : ℕ) (one two marks c : List ℕ) (lent : List Pair) → let m = pair_count (answer n one two marks c (length lent)) in
    paired n one two marks c lent ≡ take m (list_of n one two marks c) ++ drop m lent
unfolding paired
what_is_told_is_written n one two marks c lent = after-written (answer n one two marks c (length lent)) (list_of n one two marks c) lent
    (λ count e. ((pairs_are_told_just_of_balanced_sizes n one two marks c (length lent) count).0 e).3)
