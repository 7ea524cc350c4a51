-- Pairs free to be joined: the test `freePair` tells just which entries are routes, and what is crossed is another terminal on the path. It sees no order of
-- the two sites, and where every terminal has one link it holds of any two different terminals.
use Rattle.std.specs.Prelude.{◌≡◌, refl, ◌≢◌, ◌↔◌, length}
use Rattle.std.proofs.Common.{sym, ◌∙◌, inl, inr, arith}
use Prim.Native.Nat.{ℕ, ◌+◌, ◌*◌, ◌<◌}
use Rattle.lists.specs.Numbers.{is, differ}
use Rattle.lists.specs.Sums.{same?, is_same, is-other, is_one, is_le, differ_same, differ-other, differ-le, product_one, sum-none, sum-eq, sum_ge, sum-some}
use Rattle.model.specs.Flows.{Links, Site, Ends, Route, one, two, at, separates}
use Rattle.model.specs.Parts.{another, crossed, free_pair}
use Rattle.model.specs.declared.Pair.{Pair}
use Rattle.theory_trees.specs.Trees.{separates-le, separates_comm, at_first, at_second, at-end}

-- another terminal is told by the number 1, and what is none by 0
module _ (terminal : ℕ → ℕ) (a b w : ℕ) where
  pub another-one : terminal w ≡ 1 → w ≢ a → w ≢ b → another terminal a b w ≡ 1
  unfolding another
  another-one t d e = rw (is_same t, differ-other d, differ-other e) (omega arith)

  pub another-is : another terminal a b w ≢ 0 → (terminal w ≡ 1) × (w ≢ a) × (w ≢ b)
  unfolding another
  another-is h = same? (terminal w) 1
      (λ t. (t, (λ e. h (rw (differ_same e) (omega arith))), λ e. h (rw (differ_same e) (omega arith))))
      (λ d. absurd (h (rw (is-other d) (omega arith))))

  pub another-none : another terminal a b w ≢ 1 → another terminal a b w ≡ 0
  another-none h = same? (another terminal a b w) 0 (λ z. z) (λ d. let o = another-is d in absurd (h (another-one o.0 o.1 o.2)))

module _ (ls : Links) (terminal : ℕ → ℕ) where
  -- a link between a and b with another terminal at one of its sites is counted, and without such links nothing is
  pub crossed-at : (a b j : ℕ) → j < length ls → separates ls j a b ≡ 1 → another terminal a b (one ls j) + another terminal a b (two ls j) ≢ 0
      → crossed ls terminal a b ≢ 0
  unfolding crossed
  crossed-at a b j l s d z =
      let f : ℕ → ℕ = λ j. separates ls j a b * (another terminal a b (one ls j) + another terminal a b (two ls j)) in
      let m : f j ≡ 0 = omega (arith, sum_ge (length ls) j f l) in
      d (omega (arith, rw s at m))

  pub crossed-none : (a b : ℕ) → ((j : ℕ) → j < length ls → separates ls j a b ≡ 1 → another terminal a b (one ls j) + another terminal a b (two ls j) ≡ 0)
      → crossed ls terminal a b ≡ 0
  unfolding crossed
  crossed-none a b h =
      sum-eq (length ls) (λ j. separates ls j a b * (another terminal a b (one ls j) + another terminal a b (two ls j))) (λ j. 0)
      (λ j l. same? (separates ls j a b) 1
      (λ s. rw (h j l s) (omega arith))
      (λ d. let z : separates ls j a b ≡ 0 = omega (arith, separates-le ls j a b) in rw z (omega arith)))
      ∙ sum-none (length ls)

  -- another terminal on the path of a and b: it stands at a link between them (02: another end on its path)
  pub record Crossing (a b : ℕ) : Type 0 where
    pub other : ℕ
    pub other-terminal : terminal other ≡ 1
    pub not_first : other ≢ a
    pub not-second : other ≢ b
    pub link : ℕ
    pub inside : link < length ls
    pub stands : at ls other link ≡ 1
    pub on : separates ls link a b ≡ 1

  pub crossed_by : (a b : ℕ) → Crossing a b → crossed ls terminal a b ≢ 0
  crossed_by a b o =
      let w = another-one terminal a b o.other o.other-terminal o.not_first o.not-second in
      crossed-at a b o.link o.inside o.on
      (λ z. elim (at-end ls o.link o.stands) [ inl x ↦ omega (arith, rw x at z, w) | inr x ↦ omega (arith, rw x at z, w) ])

  crossing : (a b w j : ℕ) → j < length ls → separates ls j a b ≡ 1 → at ls w j ≡ 1 → another terminal a b w ≢ 0 → Crossing a b
  crossing a b w j l s e h =
      let o = another-is terminal a b w h in
      record { other = w; other-terminal = o.0; not_first = o.1; not-second = o.2; link = j; inside = l; stands = e; on = s }

  pub crossed-some : (a b : ℕ) → crossed ls terminal a b ≢ 0 → Crossing a b
  unfolding crossed
  crossed-some a b d =
      let r = sum-some (length ls) (λ j. separates ls j a b * (another terminal a b (one ls j) + another terminal a b (two ls j))) (omega arith) in
      let j = r.0 in
      same? (separates ls j a b) 1
      (λ s. same? (another terminal a b (one ls j)) 0
      (λ p. crossing a b (two ls j) j r.1 s (at_second ls j refl) (λ q. absurd (omega (arith, rw (p, q) at r.2))))
      (crossing a b (one ls j) j r.1 s (at_first ls j refl)))
      (λ s. let z : separates ls j a b ≡ 0 = omega (arith, separates-le ls j a b) in absurd (omega (arith, rw z at r.2)))

  crossed_free : (a b w j : ℕ) → crossed ls terminal a b ≡ 0 → terminal w ≡ 1 → w ≢ a → w ≢ b → j < length ls → at ls w j ≡ 1 → separates ls j a b ≡ 0
  crossed_free a b w j z t d e l p = same? (separates ls j a b) 1
      (λ s. absurd (crossed_by a b
      (record { other = w; other-terminal = t; not_first = d; not-second = e; link = j; inside = l; stands = p; on = s }) z))
      (λ s. omega (arith, separates-le ls j a b))

  free_crossed : (a b : ℕ) → ((w j : ℕ) → terminal w ≡ 1 → w ≢ a → w ≢ b → j < length ls → at ls w j ≡ 1 → separates ls j a b ≡ 0)
      → crossed ls terminal a b ≡ 0
  free_crossed a b h = same? (crossed ls terminal a b) 0
      (λ z. z)
      (λ d. let o = crossed-some a b d in
      absurd (omega (arith, o.on, h o.other o.link o.other-terminal o.not_first o.not-second o.inside o.stands)))

  -- two sites are free to be joined just if they are two different terminals and nothing is crossed
  pub free_parts : (a b : ℕ) → free_pair ls terminal a b ≡ 1 → (a ≢ b) × (terminal a ≡ 1) × (terminal b ≡ 1) × (crossed ls terminal a b ≡ 0)
  unfolding free_pair
  free_parts a b h =
      let p = product_one (differ a b) (is (terminal a) 1 * (is (terminal b) 1 * is (crossed ls terminal a b) 0)) (differ-le a b) h in
      let q = product_one (is (terminal a) 1) (is (terminal b) 1 * is (crossed ls terminal a b) 0) (is_le (terminal a) 1) p.1 in
      let r = product_one (is (terminal b) 1) (is (crossed ls terminal a b) 0) (is_le (terminal b) 1) q.1 in
      ((λ e. omega (arith, p.0, differ_same e)), is_one q.0, is_one r.0, is_one r.1)

  pub free_whole : (a b : ℕ) → a ≢ b → terminal a ≡ 1 → terminal b ≡ 1 → crossed ls terminal a b ≡ 0 → free_pair ls terminal a b ≡ 1
  unfolding free_pair
  free_whole a b d p q z = rw (differ-other d, is_same p, is_same q, is_same z) (omega arith)

  -- an entry between two sites is a route just if its sites are free to be joined
  pub free_iff_route : (n : ℕ) → Ends ls n → (e : Pair) → Site n e.first → Site n e.second
      → (free_pair ls terminal e.first e.second ≡ 1) ↔ Route ls n terminal e
  free_iff_route n ends e p q = (
    λ h. let f = free_parts e.first e.second h in record {
      first-site = p;
      second-site = q;
      first-terminal = f.1;
      second-terminal = f.2;
      different = f.0;
      free = λ w j s t d g l a. crossed_free e.first e.second w j f.3 t d g l a;
    },
    λ r. free_whole e.first e.second r.different r.first-terminal r.second-terminal (free_crossed e.first e.second
        (λ w j t d g l a. r.free w j (elim (at-end ls j a) [ inl x ↦ rw x at (ends j l).0 | inr x ↦ rw x at (ends j l).1 ]) t d g l a)),
  )

  -- in either order
  pub free_turned : (a b : ℕ) → free_pair ls terminal a b ≡ 1 → free_pair ls terminal b a ≡ 1
  free_turned a b h =
      let f = free_parts a b h in
      free_whole b a (λ e. f.0 (sym e)) f.2 f.1
      (free_crossed b a (λ w j t d g l o. separates_comm ls j b a ∙ crossed_free a b w j f.3 t g d l o))
