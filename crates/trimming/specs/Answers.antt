-- What `trim` says, in both directions: no tree, a size above the limit, too few lent places, or success, each just of its cause.
-- Document 01, "Pairing" (what is said before anything else) and "The network sheet" (a lent list too short). By the cases of the definition.
use Rattle.std.specs.Prelude.{◌≡◌, Bool, true, false, List, ◌↔◌, ℕ, ◌≤◌, ◌<◌, leb, length, Ok, Err}
use Rattle.std.proofs.Math.Path.{refl}
use Rattle.std.proofs.Common.{arith}
use borrow.Author.Tests.{leb-true, leb-false, le-leb, lt-leb}
use Rattle.lists.specs.Sums.{contradiction}
use Rattle.model.specs.Limits.{SIZE}
use Rattle.model.specs.Edition.{largest}
use Rattle.tree.specs.Offer.{Offered, offer}
use Rattle.tree.specs.Accepted.{MarkedTree, accepted_is_a_tree_within_the_limits, a_tree_within_the_limits_is_accepted}
use Rattle.tree.specs.Answers.{SizedTree, Above}
use Rattle.tree.specs.Answers.{no_tree_is_said_just_of_no_tree, too_large_is_said_just_of_a_capacity_above_the_limit}
use Rattle.tree.specs.declared.Unfit.TheVariants as unfit
use Rattle.trimming.specs.declared.Refused.TheVariants.{NoTree, TooLarge}
use Rattle.trimming.specs.Outcome.{decide, answer, number}

-- ---- by the cases of the definition

said_no_tree : (o : Offered) (enough : Bool) → decide o enough ≡ Err NoTree → o ≡ Err unfit.NoTree
unfolding decide
said_no_tree (Err unfit.NoTree) enough e = refl
said_no_tree (Err unfit.TooLarge) enough e = contradiction cc
said_no_tree (Ok tt) false e = contradiction cc
said_no_tree (Ok tt) true e = contradiction cc

said_too_large : (o : Offered) (enough : Bool) → decide o enough ≡ Err TooLarge → o ≡ Err unfit.TooLarge
unfolding decide
said_too_large (Err unfit.NoTree) enough e = contradiction cc
said_too_large (Err unfit.TooLarge) enough e = refl
said_too_large (Ok tt) false e = contradiction cc
said_too_large (Ok tt) true e = contradiction cc

told_nine : (o : Offered) (enough : Bool) → number (decide o enough) ≡ 9 → (o ≡ Ok tt) × (enough ≡ false)
unfolding decide number
told_nine (Err unfit.NoTree) enough e = absurd (omega arith)
told_nine (Err unfit.TooLarge) enough e = absurd (omega arith)
told_nine (Ok tt) false e = (refl, refl)
told_nine (Ok tt) true e = absurd (omega arith)

said_balanced : (o : Offered) (enough : Bool) → decide o enough ≡ Ok tt → (o ≡ Ok tt) × (enough ≡ true)
unfolding decide
said_balanced (Err why) enough e = contradiction cc
said_balanced (Ok tt) false e = contradiction cc
said_balanced (Ok tt) true e = (refl, refl)

-- ---- what is said

module _ (n : ℕ) (one two marks c lent : List ℕ) where
  abbrev enough : Bool
  enough = leb (length one) (length lent)

  pub no_tree_is_told_just_of_no_tree : (answer n one two marks c lent ≡ Err NoTree) ↔ (¬ (SizedTree largest n one two marks c))
  unfolding answer decide
  no_tree_is_told_just_of_no_tree =
      let law = no_tree_is_said_just_of_no_tree largest n one two marks c in
      (λ e. law.0 (said_no_tree (offer largest n one two marks c) enough e), λ d. rw (law.1 d) refl)

  pub too_large_is_told_just_of_a_size_above_the_limit : (answer n one two marks c lent ≡ Err TooLarge) ↔ (SizedTree largest n one two marks c × Above SIZE c)
  unfolding answer decide
  too_large_is_told_just_of_a_size_above_the_limit =
      let law = too_large_is_said_just_of_a_capacity_above_the_limit largest n one two marks c in
      (λ e. law.0 (said_too_large (offer largest n one two marks c) enough e), λ w. rw (law.1 w) refl)

  -- 9 comes after every other cause
  pub nine_is_told_just_of_too_few_places : (number (answer n one two marks c lent) ≡ 9) ↔ (MarkedTree largest n one two marks c × (length lent < length one))
  unfolding answer decide number
  nine_is_told_just_of_too_few_places = (
    λ e. let h = told_nine (offer largest n one two marks c) enough e in
        (accepted_is_a_tree_within_the_limits largest n one two marks c h.0, leb-false (length one) (length lent) h.1),
    λ h. rw (a_tree_within_the_limits_is_accepted largest n one two marks c h.0, lt-leb (length one) (length lent) h.1) refl,
  )

  pub success_is_told_just_of_a_tree_with_enough_places : (answer n one two marks c lent ≡ Ok tt)
      ↔ (MarkedTree largest n one two marks c × (length one ≤ length lent))
  unfolding answer decide
  success_is_told_just_of_a_tree_with_enough_places = (
    λ e. let h = said_balanced (offer largest n one two marks c) enough e in
        (accepted_is_a_tree_within_the_limits largest n one two marks c h.0, leb-true (length one) (length lent) h.1),
    λ h. rw (a_tree_within_the_limits_is_accepted largest n one two marks c h.0, le-leb (length one) (length lent) h.1) refl,
  )
