-- What is said of an offer, in both directions: no tree just of no tree, too large just of a tree with a capacity above the limit, accepted just of
-- a tree within the limits. Document 01, "Pairing" (what is said before anything else). By the tests one by one.
use Rattle.std.specs.Prelude.{◌≡◌, Bool, ◌&&◌, List, [], ◌∷◌, ◌↔◌, ◌≢◌, ℕ, suc, ◌<◌, eqb, leb, length, replicate, Ok, Err}
use Rattle.std.proofs.Math.Path.{refl, sym}
use Rattle.std.proofs.Common.{◌∙◌, arith}
use Rattle.std.proofs.Math.Bool.{true, false, cond, true≢false}
use Rattle.std.proofs.lemmas.Bool.{leb-false, le-leb, eqb-true, eq-eqb, and_parts}
use Rattle.lists.specs.Numbers.{look}
use Rattle.lists.specs.Sums.{contradiction}
use Rattle.model.specs.Limits.{SITES}
use Rattle.model.specs.Edition.{largest}
use Rattle.model.specs.declared.Edition.{Edition}
use Rattle.tree.specs.declared.Unfit.TheVariants.{NoTree, TooLarge}
use Rattle.tree.specs.Offer.{Offered, within, is_tree, is_marked_tree, offer_of, offer}
use Rattle.tree.specs.Elimination.{decide, eliminated, eliminated_toward}
use Rattle.tree.specs.Accepted.{TreeOf, MarkedTree, within-look, is-tree-is-a-tree, a-tree-is-tree, is_false}
use Rattle.tree.specs.Accepted.{accepted_is_a_tree_within_the_limits, a_tree_within_the_limits_is_accepted}

-- a tree of two or more sites within the limits, with a mark for each site, and a capacity for each link, however large
pub record SizedTree (ed : Edition) (n : ℕ) (one two marks c : List ℕ) : Type 0 where
  pub tree : TreeOf ed.sites n one two
  pub marked : n ≡ length marks
  pub each : length c ≡ length one

-- some capacity is above a limit
pub record Above (most : ℕ) (c : List ℕ) : Type 0 where
  pub link : ℕ
  pub given : link < length c
  pub above : most < look c link

-- ---- a list that is not within a limit

pub not-within-is-above : (most : ℕ) (l : List ℕ) → within 0 most l ≡ false → Above most l
unfolding within
not-within-is-above most [] e = absurd (true≢false e)
not-within-is-above most (x ∷ l) e = by (leb x most) refl (rw (le-leb 0 x (omega arith)) at e) (not-within-is-above most l)
  where
    by : (t : Bool) → leb x most ≡ t → (t && within 0 most l) ≡ false → (within 0 most l ≡ false → Above most l) → Above most (x ∷ l)
    by true q f more = let h = more f in record { link = suc h.link; given = omega (arith, h.given); above = h.above }
    by false q f more = record { link = 0; given = omega arith; above = leb-false x most q }

pub above-is-not-within : (most : ℕ) (l : List ℕ) → Above most l → within 0 most l ≡ false
above-is-not-within most l h = is_false (within 0 most l) (λ e. absurd (omega (arith, (within-look 0 most l e h.link h.given).1, h.above)))

-- ---- the answers

module _ (ed : Edition) (n : ℕ) (a b marks c : List ℕ) where
  abbrev tests : Bool
  tests = is_marked_tree ed.sites n a b marks && eqb (length c) (length a)

  sized : tests ≡ true → SizedTree ed n a b marks c
  unfolding is_marked_tree
  sized e =
      let t = and_parts (is_marked_tree ed.sites n a b marks) (eqb (length c) (length a)) e in
      let m = and_parts (is_tree ed.sites n a b) (eqb (length marks) n) t.0 in
      record {
        tree = is-tree-is-a-tree ed.sites n a b m.0;
        marked = sym (eqb-true (length marks) n m.1);
        each = eqb-true (length c) (length a) t.1;
      }

  tested : SizedTree ed n a b marks c → tests ≡ true
  unfolding is_marked_tree
  tested w = rw (a-tree-is-tree ed.sites n a b w.tree, eq-eqb (length marks) n (sym w.marked), eq-eqb (length c) (length a) w.each) refl

  pub no_tree_is_said_just_of_no_tree : (offer ed n a b marks c ≡ Err NoTree) ↔ (¬ (SizedTree ed n a b marks c))
  unfolding offer offer_of
  no_tree_is_said_just_of_no_tree = (
    λ e w. let t = said tests (within 0 ed.size c) e in true≢false (sym (tested w) ∙ t),
    λ d. rw (is_false tests (λ e. d (sized e))) refl,
  )
    where
      said : (t u : Bool) → cond t (cond u (Ok (tt {0})) (Err TooLarge)) (Err NoTree) ≡ Err NoTree → t ≡ false
      said true true e = contradiction cc
      said true false e = contradiction cc
      said false u e = refl

  pub too_large_is_said_just_of_a_capacity_above_the_limit : (offer ed n a b marks c ≡ Err TooLarge) ↔ (SizedTree ed n a b marks c × Above ed.size c)
  unfolding offer offer_of
  too_large_is_said_just_of_a_capacity_above_the_limit = (
    λ e. let t = said tests (within 0 ed.size c) e in (sized t.0, not-within-is-above ed.size c t.1),
    λ w. rw (tested w.0, above-is-not-within ed.size c w.1) refl,
  )
    where
      said : (t u : Bool) → cond t (cond u (Ok (tt {0})) (Err TooLarge)) (Err NoTree) ≡ Err TooLarge → (t ≡ true) × (u ≡ false)
      said true true e = contradiction cc
      said true false e = (refl, refl)
      said false u e = contradiction cc

  pub accepted_is_said_just_of_a_tree_within_the_limits : (offer ed n a b marks c ≡ Ok tt) ↔ MarkedTree ed n a b marks c
  accepted_is_said_just_of_a_tree_within_the_limits =
      (accepted_is_a_tree_within_the_limits ed n a b marks c, a_tree_within_the_limits_is_accepted ed n a b marks c)

-- ---- the order that goes with an answer

no_order_but_of_an_accepted : (o : Offered) (order : List ℕ) → o ≢ Ok tt → (decide o order).sites ≡ replicate SITES 0
unfolding decide
no_order_but_of_an_accepted (Err why) order d = refl
no_order_but_of_an_accepted (Ok tt) order d = absurd (d refl)

-- an offer that is not accepted is answered without an order: 0 in every place
pub a_refused_offer_gets_no_order : (n : ℕ) (a b marks c : List ℕ) → offer largest n a b marks c ≢ Ok tt → (root : ℕ)
    → ((eliminated n a b marks c).sites ≡ replicate SITES 0) × ((eliminated_toward n a b marks c root).sites ≡ replicate SITES 0)
unfolding eliminated eliminated_toward
a_refused_offer_gets_no_order n a b marks c d root =
    (no_order_but_of_an_accepted (offer largest n a b marks c) _ d, no_order_but_of_an_accepted (offer largest n a b marks c) _ d)
