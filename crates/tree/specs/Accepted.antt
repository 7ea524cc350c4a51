-- An offer is accepted just if it is a tree within the limits: the tests one by one, and the same said by places.
use Rattle.std.specs.Prelude.{◌≡◌, Bool, true, false, IsTrue, cond, ◌&&◌, ◌↔◌, EachIndex, List, [], ◌∷◌, length, take, replicate, Ok, Err}
use Rattle.std.proofs.Math.Path.{refl, sym}
use Prim.Native.Nat.{ℕ, zero, suc, ◌-◌, ◌≤◌, ◌<◌}
use native.Mathlib.Omega.{arith}
use Rattle.std.proofs.lemmas.Bool.{leb-true, eqb-true, le-leb, eq-eqb, and_parts}
use Rattle.std.proofs.Math.Dec.{eqb, leb}
use Rattle.std.proofs.Common.{take_at, ◌∙◌}
use Rattle.model.specs.Limits.{SITES}
use Rattle.lists.specs.Numbers.{count, look}
use Rattle.model.specs.Flows.{Links, Site, Tree, label, sites}
use Rattle.model.specs.Trimming.{elimination, InwardOrder}
use Rattle.model.specs.Edition.{largest}
use Rattle.model.specs.declared.Edition.{Edition}
use Rattle.lists.specs.Sums.{is_same, is-other, same?, contradiction}
use Rattle.theory_trees.specs.Sites.{sites_once, sites-site}
use Rattle.theory_trees.specs.TreeTest.{length-elimination}
use Rattle.tree_order.specs.Links.{length-links, links-one, links-two}
use Rattle.tree_order.specs.Toward.{elimination_toward, order_in}
use Rattle.tree_order.specs.Rooted.{elimination_toward_a_root_is_inward, ends_at_the_root, without-a-root, length_elimination_toward}
use Rattle.tree.specs.declared.Unfit.TheVariants.{NoTree, TooLarge}
use Rattle.tree.specs.Offer.{Offered, links, within, labelled, is_tree, is_marked_tree, offer_of, offer}
use Rattle.tree.specs.Elimination.{decide, eliminated, eliminated_toward}

-- a tree of at most `most` sites, offered as lists
pub record TreeOf (most n : ℕ) (one two : List ℕ) : Type 0 where
  pub tree : Tree (links one two) n
  pub few : n ≤ most
  pub firsts : n ≡ suc (length one)
  pub seconds : n ≡ suc (length two)

-- a tree within the limits of an edition, offered as lists
pub record TreeWithin (ed : Edition) (n : ℕ) (one two c : List ℕ) : Type 0 where
  pub tree : Tree (links one two) n
  pub few : n ≤ ed.sites
  pub firsts : n ≡ suc (length one)
  pub seconds : n ≡ suc (length two)
  pub capacities : n ≡ suc (length c)
  pub limited : (j : ℕ) → j < length c → look c j ≤ ed.size

-- the same with a mark for each site (02, Card 7)
pub record MarkedTree (ed : Edition) (n : ℕ) (one two marks c : List ℕ) : Type 0 where
  pub within : TreeWithin ed n one two c
  pub marked : n ≡ length marks

-- ---- the tests of lists, place by place

pub within-look : (low high : ℕ) (l : List ℕ) → within low high l ≡ true → (i : ℕ) → i < length l → (low ≤ look l i) × (look l i ≤ high)
unfolding within
within-look low high [] e i h = absurd (omega arith)
within-look low high (x ∷ l) e zero h =
    let t = and_parts (leb low x) (leb x high) (and_parts (leb low x && leb x high) (within low high l) e).0 in
    (leb-true low x t.0, leb-true x high t.1)
within-look low high (x ∷ l) e (suc i) h = within-look low high l (and_parts (leb low x && leb x high) (within low high l) e).1 i (omega arith)

pub within_all : (low high : ℕ) (l : List ℕ) → ((i : ℕ) → i < length l → (low ≤ look l i) × (look l i ≤ high)) → within low high l ≡ true
unfolding within
within_all low high [] h = refl
within_all low high (x ∷ l) h =
    let t = h zero (omega arith) in
    rw (le-leb low x t.0, le-leb x high t.1) (within_all low high l (λ i k. h (suc i) (omega arith)))

-- the test of each place decides whether no place is above a limit
pub within_tested : (most : ℕ) (l : List ℕ) (all : Bool) → (IsTrue all ↔ EachIndex l (λ k. look l k ≤ most)) → all ≡ within 0 most l
within_tested most l all t = by all (within 0 most l) refl t
  where
    by : (all is : Bool) → within 0 most l ≡ is → (IsTrue all ↔ EachIndex l (λ k. look l k ≤ most)) → all ≡ is
    by true true e t = refl
    by false false e t = refl
    by true false e t = sym (within_all 0 most l (λ k b. (omega arith, t.0 refl k b))) ∙ e
    by false true e t = t.1 (λ k b. (within-look 0 most l e k b).1)

labelled-each : (ls : Links) (r : ℕ) (vs : List ℕ) → labelled ls r vs ≡ true → (x : ℕ) → 1 ≤ count vs x → label ls x ≡ r
unfolding labelled count
labelled-each ls r [] e x h = absurd (omega arith)
labelled-each ls r (v ∷ vs) e x h =
    let t = and_parts (eqb (label ls v) r) (labelled ls r vs) e in
    same? v x (λ s. rw (← s) (eqb-true (label ls v) r t.0)) (λ d. labelled-each ls r vs t.1 x (omega (arith, is-other d)))

labelled-all : (ls : Links) (r : ℕ) (vs : List ℕ) → ((x : ℕ) → 1 ≤ count vs x → label ls x ≡ r) → labelled ls r vs ≡ true
unfolding labelled count
labelled-all ls r [] h = refl
labelled-all ls r (v ∷ vs) h =
    rw (eq-eqb (label ls v) r (h v (omega (arith, is_same {u = v} refl)))) (labelled-all ls r vs (λ x k. h x (omega arith)))

-- ---- the tree

module _ (most n : ℕ) (a b : List ℕ) where
  pub is-tree-is-a-tree : is_tree most n a b ≡ true → TreeOf most n a b
  unfolding is_tree
  is-tree-is-a-tree e =
      let ls = links a b in
      let t6 = and_parts (leb 2 n && leb n most && eqb n (suc (length a)) && eqb n (suc (length b)) && within 1 n a && within 1 n b)
      (labelled ls (label ls 1) (sites n)) e in
      let t5 = and_parts (leb 2 n && leb n most && eqb n (suc (length a)) && eqb n (suc (length b)) && within 1 n a) (within 1 n b) t6.0 in
      let t4 = and_parts (leb 2 n && leb n most && eqb n (suc (length a)) && eqb n (suc (length b))) (within 1 n a) t5.0 in
      let t3 = and_parts (leb 2 n && leb n most && eqb n (suc (length a))) (eqb n (suc (length b))) t4.0 in
      let t2 = and_parts (leb 2 n && leb n most) (eqb n (suc (length a))) t3.0 in
      let t1 = and_parts (leb 2 n) (leb n most) t2.0 in
      let firsts : n ≡ suc (length a) = eqb-true n (suc (length a)) t2.1 in
      let seconds : n ≡ suc (length b) = eqb-true n (suc (length b)) t3.1 in
      let all = length-links a b (omega arith) in
      record {
        tree = record {
          big = leb-true 2 n t1.0;
          ends = λ j h. (
            rw (links-one a b j (omega arith) (omega arith)) (within-look 1 n a t4.1 j (omega arith)),
            rw (links-two a b j (omega arith) (omega arith)) (within-look 1 n b t5.1 j (omega arith)),
          );
          links = omega arith;
          whole = λ x p. labelled-each ls (label ls 1) (sites n) t6.1 x (omega (arith, sites_once n x p));
        };
        few = leb-true n most t1.1;
        firsts = firsts;
        seconds = seconds;
      }

  pub a-tree-is-tree : TreeOf most n a b → is_tree most n a b ≡ true
  unfolding is_tree
  a-tree-is-tree w =
      let ls = links a b in
      let all = length-links a b (omega arith) in
      rw (
        le-leb 2 n w.tree.big,
        le-leb n most w.few,
        eq-eqb n (suc (length a)) w.firsts,
        eq-eqb n (suc (length b)) w.seconds,
        within_all 1 n a (λ j h. rw (links-one a b j h (omega arith)) at (w.tree.ends j (omega arith)).0),
        within_all 1 n b (λ j h. rw (links-two a b j (omega arith) h) at (w.tree.ends j (omega arith)).1),
        labelled-all ls (label ls 1) (sites n) (λ x h. w.tree.whole x (sites-site n x h)),
      ) refl

-- ---- the whole offer

accepted_tests : (a b : Bool) → cond a (cond b (Ok (tt {0})) (Err TooLarge)) (Err NoTree) ≡ Ok (tt {0}) → (a ≡ true) × (b ≡ true)
accepted_tests true true e = (refl, refl)
accepted_tests true false e = contradiction cc
accepted_tests false b e = contradiction cc

pub is_false : (a : Bool) → (a ≡ true → ⊥) → a ≡ false
is_false true h = absurd (h refl)
is_false false h = refl

module _ (ed : Edition) (n : ℕ) (a b marks c : List ℕ) where
  pub accepted_is_a_tree_within_the_limits : offer ed n a b marks c ≡ Ok tt → MarkedTree ed n a b marks c
  unfolding offer offer_of is_marked_tree
  accepted_is_a_tree_within_the_limits e =
      let t = accepted_tests (is_marked_tree ed.sites n a b marks && eqb (length c) (length a)) (within 0 ed.size c) e in
      let lengths = and_parts (is_marked_tree ed.sites n a b marks) (eqb (length c) (length a)) t.0 in
      let tree = and_parts (is_tree ed.sites n a b) (eqb (length marks) n) lengths.0 in
      let w = is-tree-is-a-tree ed.sites n a b tree.0 in
      record {
        within = record {
          tree = w.tree;
          few = w.few;
          firsts = w.firsts;
          seconds = w.seconds;
          capacities = omega (arith, eqb-true (length c) (length a) lengths.1);
          limited = λ j h. (within-look 0 ed.size c t.1 j h).1;
        };
        marked = sym (eqb-true (length marks) n tree.1);
      }

  pub a_tree_within_the_limits_is_accepted : MarkedTree ed n a b marks c → offer ed n a b marks c ≡ Ok tt
  unfolding offer offer_of is_marked_tree
  a_tree_within_the_limits_is_accepted m = let w = m.within in
      rw (
        a-tree-is-tree ed.sites n a b record { tree = w.tree; few = w.few; firsts = w.firsts; seconds = w.seconds },
        eq-eqb (length marks) n (sym m.marked),
        eq-eqb (length c) (length a) (omega arith),
        within_all 0 ed.size c (λ j h. (omega arith, w.limited j h)),
      ) refl

-- ---- the answer of an elimination

said : (o : Offered) (order : List ℕ) → (decide o order).offer ≡ o
unfolding decide
said (Err why) order = refl
said (Ok tt) order = refl

in_order : (o : Offered) (n : ℕ) (order : List ℕ) → o ≡ Ok tt → length order ≡ n → take n (decide o (order_in n order)).sites ≡ order
unfolding decide order_in
in_order o n order e l = rw e (take_at order (replicate (SITES - n) 0) n l)

module _ (n : ℕ) (a b marks c : List ℕ) where
  pub eliminated_says : (eliminated n a b marks c).offer ≡ offer largest n a b marks c
  unfolding eliminated
  eliminated_says = said (offer largest n a b marks c) (order_in n (elimination (links a b) n))

  pub eliminated_in_order : offer largest n a b marks c ≡ Ok tt → take n (eliminated n a b marks c).sites ≡ elimination (links a b) n
  unfolding eliminated
  eliminated_in_order e = in_order (offer largest n a b marks c) n (elimination (links a b) n) e (length-elimination (links a b) n)

  module _ (root : ℕ) where
    pub eliminated_toward_says : (eliminated_toward n a b marks c root).offer ≡ offer largest n a b marks c
    unfolding eliminated_toward
    eliminated_toward_says = said (offer largest n a b marks c) (order_in n (elimination_toward (links a b) n root))

    -- an accepted offer is answered with the order toward the root: from outside inward, and the root last
    pub eliminated_toward_in_order : offer largest n a b marks c ≡ Ok tt
        → take n (eliminated_toward n a b marks c root).sites ≡ elimination_toward (links a b) n root
    unfolding eliminated_toward
    eliminated_toward_in_order e =
        let big = (accepted_is_a_tree_within_the_limits largest n a b marks c e).within.tree.big in
        in_order (offer largest n a b marks c) n (elimination_toward (links a b) n root) e (length_elimination_toward (links a b) n root (omega arith))

    pub eliminated_toward_is_inward : offer largest n a b marks c ≡ Ok tt → InwardOrder (links a b) n (take n (eliminated_toward n a b marks c root).sites)
    eliminated_toward_is_inward e =
        rw (eliminated_toward_in_order e)
        (elimination_toward_a_root_is_inward (accepted_is_a_tree_within_the_limits largest n a b marks c e).within.tree root)

    pub eliminated_toward_ends_at_the_root : offer largest n a b marks c ≡ Ok tt → Site n root
        → look (take n (eliminated_toward n a b marks c root).sites) (n - 1) ≡ root
    eliminated_toward_ends_at_the_root e p = rw (eliminated_toward_in_order e) (ends_at_the_root (links a b) n root p)

    -- a root that is no site changes nothing
    pub eliminated-without-a-root : (Site n root → ⊥) → eliminated_toward n a b marks c root ≡ eliminated n a b marks c
    unfolding eliminated_toward eliminated
    eliminated-without-a-root d = rw (without-a-root (links a b) n root d) refl
