-- Terminal cuts from the promise alone: disjoint, with saturated links around them, and of the size of their terminal's balanced links.
use Rattle.std.specs.Prelude.{◌≡◌, ◌≢◌, [], length}
use Rattle.std.proofs.Math.Path.{refl}
use Rattle.std.proofs.Common.{sym, ap, ◌∙◌}
use mathlib.Core.Logic.Iff
use Prim.Native.Nat.{ℕ, ◌+◌, ◌*◌, ◌≤◌, ◌<◌}
use native.Mathlib.Omega.{arith}
use Rattle.std.proofs.Math.Decide.{dec_le, dec_lt}
use Rattle.lists.specs.Numbers.{is, differ, over}
use Rattle.model.specs.Flows.{Links, Site, Tree, Below, sites, one, two, at, sum_at, separates, at_terminals}
use Rattle.model.specs.Trimming.{Light, Balanced, Greatest}
use Rattle.model.specs.Cuts.{group, in_cut, cut_size}
use Rattle.lists.specs.Sums.{cases, same?, is_same, is-other, is_one, is_le, differ_same, differ-other}
use Rattle.lists.specs.Sums.{sum-add, sum-mul, sum-eq, sum-single}
use Rattle.theory_trees.specs.Trees.{separates-le, separates_self, far-one, at-le, sum_at_linear, local, local_one}
use Rattle.theory_trees.specs.Sites.{sites-site, sites_once, at-site, sum_at-none, by_link}
use Rattle.lists.specs.Places.{over_add, over-mul, over-eq, over-is}
use Rattle.theory_trees.specs.Loads.{once}
use Rattle.theory_trees.specs.TerminalCuts.{group-linked, group-side}

-- the numbers at a link of capacity t: p, q say whether its sites are in a cut, s, z whether it separates them from the terminal
whole-link : (p s z t : ℕ) → s + z ≡ 1 → p * t + p * t ≡ 2 * (p * (s * t) + p * (z * t))
whole-link p s z t e = omega (arith, ap (λ y. p * (y * t)) e)

leaving-link : (p q s z t : ℕ) → p ≤ 1 → q ≤ 1 → s + z ≡ 1 → (p ≡ 1 → s ≡ 0) → (q ≡ 1 → z ≡ 0)
    → p * t + q * t ≡ 2 * (p * (s * t) + q * (z * t)) + differ p q * t
leaving-link p q s z t lp lq e hp hq = same? p 0
    (λ a. same? q 0
    (λ b. rw (a, b, differ_same {u = 0} refl) (omega arith))
    (λ b. let b' : q ≡ 1 = omega arith in rw (a, b', hq b', differ-other {u = 0} {v = 1} (λ y. omega arith)) (omega arith)))
    (λ a. let a' : p ≡ 1 = omega arith in same? q 0
    (λ b. rw (a', b, hp a', differ-other {u = 1} {v = 0} (λ y. omega arith)) (omega arith))
    (λ b. absurd (omega (arith, hp a', hq (omega arith)))))

-- ---- the cuts
module _ {ls : Links} {n : ℕ} (T : Tree ls n) (terminal : ℕ → ℕ) {c t : ℕ → ℕ} (g : Greatest ls terminal c t) where
  -- one more along the path of two joined sites: it cannot be balanced
  push : (a b : ℕ) → Site n a → Site n b → a ≢ b → group ls c t a ≡ group ls c t b
      → (terminal a ≢ 1 → Light ls a (λ i. 1 * separates ls i a b + t i)) → (terminal b ≢ 1 → Light ls b (λ i. 1 * separates ls i a b + t i)) → ⊥
  push a b p q d e ha hb =
      let s : ℕ → ℕ = λ i. 1 * separates ls i a b + t i in
      let fits : Below ls s c = λ j l. cases (dec_lt (t j) (c j))
      (λ h. omega (arith, separates-le ls j a b))
      (λ h. omega (arith, group-side ls c t j a b h e, g.below j l)) in
      let bal : Balanced ls terminal s = λ v m. same? v a (λ z. rw z (ha (rw z at m))) (λ za. same? v b (λ z. rw z (hb (rw z at m)))
      (λ zb j l o. omega (
        arith,
        g.balanced v m j l o,
        sum_at_linear ls v 1 (λ i. separates ls i a b) t,
        once T v j (at-site ls T.ends j l o) l o a b p q (λ z. za (sym z)) (λ z. zb (sym z)),
      ))) in
      let r = local_one T a b p q (λ z. d (sym z)) in
      omega (arith, g.greatest s bal fits r.0 r.1, r.3)

  alone : (a b : ℕ) → Site n a → Site n b → terminal a ≡ 1 → terminal b ≡ 1 → group ls c t a ≡ group ls c t b → a ≡ b
  alone a b p q ma mb e = same? a b (λ z. z) (λ d. absurd (push a b p q d e (λ m. absurd (m ma)) (λ m. absurd (m mb))))

  -- no site is in two terminal cuts
  pub cuts_are_disjoint : (a b x : ℕ) → Site n a → Site n b → terminal a ≡ 1 → terminal b ≡ 1 → in_cut ls c t a x ≡ 1 → in_cut ls c t b x ≡ 1 → a ≡ b
  unfolding in_cut
  cuts_are_disjoint a b x p q ma mb ia ib = alone a b p q ma mb (sym (is_one ia) ∙ is_one ib)

  -- a terminal's cut holds no other terminal
  pub a_cut_holds_no_other_terminal : (a b : ℕ) → Site n a → Site n b → terminal a ≡ 1 → terminal b ≡ 1 → in_cut ls c t a b ≡ 1 → b ≡ a
  unfolding in_cut
  a_cut_holds_no_other_terminal a b p q ma mb i = alone b a q p mb ma (is_one i)

  -- at a site v of the cut of a, the link e towards a has as much as the other links at v together
  tight : (a v : ℕ) → Site n a → Site n v → terminal a ≡ 1 → v ≢ a → group ls c t v ≡ group ls c t a
      → (e : ℕ) → e < length ls → at ls v e ≡ 1 → separates ls e v a ≡ 1 → t e + t e ≡ sum_at ls v t
  tight a v p q ma d j e l o s =
      let inner : terminal v ≢ 1 = λ m. d (alone v a q p m ma j) in
      let only = (local_one T v a q p (λ z. d (sym z))).4 in
      let more = sum_at_linear ls v 1 (λ i. separates ls i v a) t in
      cases (dec_le (sum_at ls v t) (t e + t e))
      (λ h. omega (arith, g.balanced v inner e l o))
      (λ h. absurd (push v a q p d j
      (λ m i k b. same? (separates ls i v a) 1
      (λ y. rw (only i k b y ∙ sym (only e l o s)) (omega (arith, s, more, local T v a q p, is-other {u = a} {v = v} (λ z. d (sym z)))))
      (λ y. omega (arith, separates-le ls i v a, g.balanced v inner i k b, more)))
      (λ m. absurd (m ma))))

  module _ (a : ℕ) (p : Site n a) (ma : terminal a ≡ 1) where
    -- what passes at x towards a
    toward : ℕ → ℕ
    toward x = sum_at ls x (λ i. separates ls i x a * t i)

    toward-own : toward a ≡ 0
    unfolding toward
    toward-own = sum_at-none ls a (λ i. separates ls i a a * t i) (λ i l o. rw (separates_self ls i a) (omega arith))

    toward-half : (x : ℕ) → Site n x → x ≢ a → group ls c t x ≡ group ls c t a → sum_at ls x t ≡ 2 * toward x
    unfolding toward sum_at
    toward-half x q d j =
        let r = local_one T x a q p (λ z. d (sym z)) in
        let e = r.0 in
        let term : at ls x e * (separates ls e x a * t e) ≡ t e = rw (r.2, r.3) (omega arith) in
        omega (
          arith,
          tight a x p q ma d j e r.1 r.2 r.3,
          sum-single (length ls) e (λ i. at ls x i * (separates ls i x a * t i)) r.1
              (λ i l y. same? (at ls x i) 1
              (λ b. same? (separates ls i x a) 1
              (λ s. absurd (y (r.4 i l b s)))
              (λ s. let z : separates ls i x a ≡ 0 = omega (arith, separates-le ls i x a) in rw z (omega arith)))
              (λ b. let z : at ls x i ≡ 0 = omega (arith, at-le ls x i) in rw z (omega arith))),
        )

    -- every site of the cut but a passes on all it takes in
    toward-all : (x : ℕ) → Site n x → in_cut ls c t a x * sum_at ls x t ≡ 2 * (in_cut ls c t a x * toward x) + is x a * sum_at ls x t
    unfolding in_cut
    toward-all x q = same? x a
        (λ e. rw (e, is_same {u = group ls c t a} refl, is_same {u = a} refl, toward-own) (omega arith))
        (λ d. same? (group ls c t x) (group ls c t a)
        (λ j. rw (is_same j, is-other d) (omega (arith, toward-half x q d j)))
        (λ j. rw (is-other j, is-other d) (omega arith)))

    -- link by link
    through-link : (i : ℕ) → i < length ls
        → in_cut ls c t a (one ls i) * t i + in_cut ls c t a (two ls i) * t i
        ≡ 2 * (in_cut ls c t a (one ls i) * (separates ls i (one ls i) a * t i) + in_cut ls c t a (two ls i) * (separates ls i (two ls i) a * t i))
        + differ (in_cut ls c t a (one ls i)) (in_cut ls c t a (two ls i)) * c i
    unfolding in_cut
    through-link i l =
        let A = one ls i in
        let B = two ls i in
        let far = far-one T i a l p in
        cases (dec_lt (t i) (c i))
        (λ h. rw (group-linked ls c t i l h, differ_same {u = in_cut ls c t a B} refl)
        (omega (arith, whole-link (in_cut ls c t a B) (separates ls i A a) (separates ls i B a) (t i) far)))
        (λ h. let e : c i ≡ t i = omega (arith, g.below i l) in
        rw e (leaving-link (in_cut ls c t a A) (in_cut ls c t a B) (separates ls i A a) (separates ls i B a) (t i)
        (is_le (group ls c t A) (group ls c t a)) (is_le (group ls c t B) (group ls c t a)) far
        (λ q. group-side ls c t i A a h (is_one q)) (λ q. group-side ls c t i B a h (is_one q))))

    -- the size of a terminal's cut is the sum of the balanced capacities at the terminal
    pub cut_size_is_the_sum_at_its_terminal : cut_size ls c t a ≡ sum_at ls a t
    unfolding cut_size toward
    cut_size_is_the_sum_at_its_terminal =
        let m = in_cut ls c t a in
        let enter : ℕ → ℕ = λ i. m (one ls i) * (separates ls i (one ls i) a * t i) + m (two ls i) * (separates ls i (two ls i) a * t i) in
        let leave : ℕ → ℕ = λ i. differ (m (one ls i)) (m (two ls i)) * c i in
        omega (
          arith,
          by_link T m (λ x i. t i),
          by_link T m (λ x i. separates ls i x a * t i),
          over-eq (sites n) (λ x. m x * sum_at ls x t) (λ x. 2 * (m x * toward x) + is x a * sum_at ls x t) (λ x q. toward-all x (sites-site n x q)),
          over_add (sites n) (λ x. 2 * (m x * toward x)) (λ x. is x a * sum_at ls x t),
          over-mul (sites n) 2 (λ x. m x * toward x),
          rw (sites_once n a p) at (over-is (sites n) a (λ x. sum_at ls x t)),
          sum-eq (length ls) (λ i. m (one ls i) * t i + m (two ls i) * t i) (λ i. 2 * enter i + leave i) through-link,
          sum-add (length ls) (λ i. 2 * enter i) leave,
          sum-mul (length ls) 2 enter,
        )

  -- the sizes of the terminal cuts sum to the balanced capacities at the terminals
  pub cut_sizes_sum_to_the_terminals : over (sites n) (λ a. is (terminal a) 1 * cut_size ls c t a) ≡ at_terminals ls n terminal t
  unfolding at_terminals
  cut_sizes_sum_to_the_terminals = over-eq (sites n) (λ a. is (terminal a) 1 * cut_size ls c t a) (λ a. is (terminal a) 1 * sum_at ls a t)
      (λ a q. same? (terminal a) 1 (λ m. rw (cut_size_is_the_sum_at_its_terminal a (sites-site n a q) m)) (λ m. rw (is-other m) (omega arith)))
