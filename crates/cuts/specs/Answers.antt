-- What `terminal_cuts` says, in both directions: no tree, a size above the limit, another number of balanced sizes, or the cuts, each just of its cause.
-- Document 01, "Pairing" (what is said before anything else). By the cases of the definition.
use Rattle.std.specs.Prelude.{◌≡◌, Bool, true, false, ◌↔◌, ◌≢◌, ◌⊎◌, List, ℕ, eqb, length, Ok, Err, IsOk}
use Rattle.std.proofs.Math.Path.{refl}
use Rattle.std.proofs.Math.Logic.{inl, inr, ⊎_elim}
use native.Mathlib.Omega.{arith}
use borrow.Author.Tests.{eqb-true, eqb-false, eq-eqb, ne_eqb}
use Rattle.lists.specs.Sums.{contradiction}
use Rattle.model.specs.Limits.{SIZE}
use Rattle.model.specs.Edition.{largest}
use Rattle.tree.specs.Offer.{Offered, within, offer}
use Rattle.tree.specs.Accepted.{MarkedTree, within-look, within_all, accepted_is_a_tree_within_the_limits, a_tree_within_the_limits_is_accepted}
use Rattle.tree.specs.Answers.{SizedTree, Above, not-within-is-above, above-is-not-within}
use Rattle.tree.specs.Answers.{no_tree_is_said_just_of_no_tree, too_large_is_said_just_of_a_capacity_above_the_limit}
use Rattle.tree.specs.declared.Unfit.TheVariants as unfit
use Rattle.cuts.specs.declared.Refused.TheVariants.{NoTree, TooLarge, Unequal}
use Rattle.cuts.specs.declared.Refused.{Refused}
use Rattle.cuts.specs.declared.Cuts.{Cuts}
use Rattle.cuts.specs.Outcome.{Answer, offered_cuts, decide, outcome}

-- ---- by the cases of the definition

said_no_tree : (o : Offered) (each limited : Bool) (r : Cuts) → decide o each limited r ≡ Err NoTree → o ≡ Err unfit.NoTree
unfolding decide
said_no_tree (Err unfit.NoTree) each limited r e = refl
said_no_tree (Err unfit.TooLarge) each limited r e = contradiction cc
said_no_tree (Ok tt) false limited r e = contradiction cc
said_no_tree (Ok tt) true false r e = contradiction cc
said_no_tree (Ok tt) true true r e = contradiction cc

said_too_large : (o : Offered) (each limited : Bool) (r : Cuts) → decide o each limited r ≡ Err TooLarge
    → (o ≡ Err unfit.TooLarge) ⊎ ((o ≡ Ok tt) × (each ≡ true) × (limited ≡ false))
unfolding decide
said_too_large (Err unfit.NoTree) each limited r e = contradiction cc
said_too_large (Err unfit.TooLarge) each limited r e = inl refl
said_too_large (Ok tt) false limited r e = contradiction cc
said_too_large (Ok tt) true false r e = inr (refl, refl, refl)
said_too_large (Ok tt) true true r e = contradiction cc

said_unequal : (o : Offered) (each limited : Bool) (r : Cuts) → decide o each limited r ≡ Err Unequal → (o ≡ Ok tt) × (each ≡ false)
unfolding decide
said_unequal (Err unfit.NoTree) each limited r e = contradiction cc
said_unequal (Err unfit.TooLarge) each limited r e = contradiction cc
said_unequal (Ok tt) false limited r e = (refl, refl)
said_unequal (Ok tt) true false r e = contradiction cc
said_unequal (Ok tt) true true r e = contradiction cc

said_done : (o : Offered) (each limited : Bool) (r t : Cuts) → decide o each limited r ≡ Ok t → (o ≡ Ok tt) × (each ≡ true) × (limited ≡ true) × (t ≡ r)
unfolding decide
said_done (Err why) each limited r t e = contradiction cc
said_done (Ok tt) false limited r t e = contradiction cc
said_done (Ok tt) true false r t e = contradiction cc
said_done (Ok tt) true true r t e = (refl, refl, refl, cc)

-- ---- what is said

module _ (n : ℕ) (a b marks c t : List ℕ) where
  abbrev each : Bool
  each = eqb (length t) (length a)

  pub no_tree_is_told_just_of_no_tree : (outcome n a b marks c t ≡ Err NoTree) ↔ (¬ (SizedTree largest n a b marks c))
  unfolding outcome decide
  no_tree_is_told_just_of_no_tree =
      let law = no_tree_is_said_just_of_no_tree largest n a b marks c in
      (λ e. law.0 (said_no_tree (offer largest n a b marks c) each (within 0 SIZE t) (offered_cuts n a b marks c t) e), λ d. rw (law.1 d) refl)

  -- a given size first, then a balanced one, where there is one for each link
  pub too_large_is_told_just_of_a_size_above_the_limit : (outcome n a b marks c t ≡ Err TooLarge)
      ↔ ((SizedTree largest n a b marks c × Above SIZE c) ⊎ (MarkedTree largest n a b marks c × (length t ≡ length a) × Above SIZE t))
  unfolding outcome decide
  too_large_is_told_just_of_a_size_above_the_limit =
      let law = too_large_is_said_just_of_a_capacity_above_the_limit largest n a b marks c in (
        λ e. ⊎_elim (λ h. inl (law.0 h))
            (λ h. inr (
              accepted_is_a_tree_within_the_limits largest n a b marks c h.0,
              eqb-true (length t) (length a) h.1,
              not-within-is-above SIZE t h.2,
            ))
            (said_too_large (offer largest n a b marks c) each (within 0 SIZE t) (offered_cuts n a b marks c t) e),
        ⊎_elim (λ h. rw (law.1 h) refl)
            (λ h. rw (
              a_tree_within_the_limits_is_accepted largest n a b marks c h.0,
              eq-eqb (length t) (length a) h.1,
              above-is-not-within SIZE t h.2,
            ) refl),
      )

  pub unequal_is_told_just_of_another_number_of_balanced_sizes : (outcome n a b marks c t ≡ Err Unequal)
      ↔ (MarkedTree largest n a b marks c × (length t ≢ length a))
  unfolding outcome decide
  unequal_is_told_just_of_another_number_of_balanced_sizes = (
    λ e. let h = said_unequal (offer largest n a b marks c) each (within 0 SIZE t) (offered_cuts n a b marks c t) e in
        (accepted_is_a_tree_within_the_limits largest n a b marks c h.0, eqb-false (length t) (length a) h.1),
    λ h. rw (a_tree_within_the_limits_is_accepted largest n a b marks c h.0, ne_eqb (length t) (length a) h.1) refl,
  )

  pub accepted_offers_get_their_cuts : MarkedTree largest n a b marks c → MarkedTree largest n a b marks t
      → outcome n a b marks c t ≡ Ok (offered_cuts n a b marks c t)
  unfolding outcome decide
  accepted_offers_get_their_cuts w v = rw (
    a_tree_within_the_limits_is_accepted largest n a b marks c w,
    eq-eqb (length t) (length a) (omega arith),
    within_all 0 SIZE t (λ j h. (omega arith, v.within.limited j h)),
  ) refl

  -- the tree is one within the limits with the given sizes, and with the balanced ones, and the cuts are its own
  pub cuts_are_for_accepted_offers : (r : Cuts) → outcome n a b marks c t ≡ Ok r
      → MarkedTree largest n a b marks c × MarkedTree largest n a b marks t × (r ≡ offered_cuts n a b marks c t)
  unfolding outcome
  cuts_are_for_accepted_offers r e =
      let d = said_done (offer largest n a b marks c) each (within 0 SIZE t) (offered_cuts n a b marks c t) r e in
      let w = accepted_is_a_tree_within_the_limits largest n a b marks c d.0 in (
        w,
        record {
          within = record {
            tree = w.within.tree;
            few = w.within.few;
            firsts = w.within.firsts;
            seconds = w.within.seconds;
            capacities = omega (arith, eqb-true (length t) (length a) d.1);
            limited = λ j h. (within-look 0 SIZE t d.2 j h).1;
          };
          marked = w.marked;
        },
        d.3,
      )

  pub success_is_told_just_of_sizes_within_the_limits : IsOk (outcome n a b marks c t) ↔ (MarkedTree largest n a b marks c × MarkedTree largest n a b marks t)
  success_is_told_just_of_sizes_within_the_limits = (
    λ s. ok (outcome n a b marks c t) refl s,
    λ w. rw (accepted_offers_get_their_cuts w.0 w.1) refl,
  )
    where
      ok : (o : Answer) → outcome n a b marks c t ≡ o → IsOk o → MarkedTree largest n a b marks c × MarkedTree largest n a b marks t
      ok (Ok r) e s = let w = cuts_are_for_accepted_offers r e in (w.0, w.1)
      ok (Err why) e s = contradiction cc

  -- whatever is told but success is a refusal, and a refusal tells no cuts
  pub no_cuts_are_told_but_with_success : (¬ (MarkedTree largest n a b marks c × MarkedTree largest n a b marks t))
      → (e : Refused) × (outcome n a b marks c t ≡ Err e)
  no_cuts_are_told_but_with_success d = told (outcome n a b marks c t) refl
    where
      told : (o : Answer) → outcome n a b marks c t ≡ o → (e : Refused) × (outcome n a b marks c t ≡ Err e)
      told (Err e) f = (e, f)
      told (Ok r) f = absurd (let w = cuts_are_for_accepted_offers r f in d (w.0, w.1))
