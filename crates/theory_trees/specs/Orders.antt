-- The elimination order of a tree: it takes every site once, each over at most one unvisited link, and always the lowest that can be taken.
-- Never stuck, by counting: any sites of a tree have fewer links among them than there are sites, so one of them has at most one.
use Rattle.std.specs.Prelude.{◌≡◌, refl, ◌⊎◌, length}
use Rattle.std.proofs.Math.Path.{sym}
use Rattle.std.proofs.Common.{ap, inl, inr, mul-le-mul_right}
use Rattle.std.proofs.Math.Logic.{if_pos, if_neg}
use mathlib.Core.List.{List, [], ◌∷◌}
use Prim.Native.Nat.{ℕ, zero, suc, ◌+◌, ◌*◌, ◌≤◌}
use native.Mathlib.Omega.{arith}
use Rattle.std.proofs.Math.Decide.{dec_le}
use Rattle.lists.specs.Numbers.{is, sum, over, count, upfrom}
use Rattle.model.specs.Flows.{Links, Site, Tree, one, two, sum_at, separates}
use Rattle.model.specs.Trimming.{unvisited, first, remove}
use Rattle.lists.specs.Sums.{pick_same, pick_other, is_same, is-other, is_iff, same?, cases, sum-add, sum-le}
use Rattle.theory_trees.specs.Trees.{loopless, far-one, local}
use Rattle.lists.specs.Places.{count_low, over_add, over-mul, over-one, over-le, over-eq, over-is}
use Rattle.theory_trees.specs.Sites.{exchange}

-- each site is the lowest of those that could be taken when it was
abbrev pub Lowest : Links → List ℕ → Type 0
Lowest ls [] = Unit {0}
Lowest ls (v ∷ vs) = ((x : ℕ) → 1 ≤ count vs x → sum_at ls x (unvisited ls (v ∷ vs)) ≤ 1 → v ≤ x) × Lowest ls vs

-- ---- taking a site off the list

pub remove-count : (us : List ℕ) (v x : ℕ) → 1 ≤ count us v → count us x ≡ is v x + count (remove v us) x
unfolding count remove
remove-count [] v x p = omega arith
remove-count (u ∷ us) v x p = same? u v
    (λ e. rw (pick_same e, e) refl)
    (λ d. rw (pick_other d) (omega (arith, remove-count us v x (omega (arith, is-other d)))))

pub remove-length : (us : List ℕ) (v : ℕ) → 1 ≤ count us v → length us ≡ suc (length (remove v us))
unfolding count remove
remove-length [] v p = omega arith
remove-length (u ∷ us) v p = same? u v
    (λ e. rw (pick_same e) refl)
    (λ d. rw (pick_other d) (ap suc (remove-length us v (omega (arith, is-other d)))))

remove_fewer : (us : List ℕ) (v x : ℕ) → count (remove v us) x ≤ count us x
unfolding count remove
remove_fewer [] v x = omega arith
remove_fewer (u ∷ us) v x = same? u v
    (λ e. rw (pick_same e) (omega arith))
    (λ d. rw (pick_other d) (omega (arith, remove_fewer us v x)))

abbrev pub Ascending : List ℕ → Type 0
Ascending [] = Unit {0}
Ascending (u ∷ us) = ((x : ℕ) → 1 ≤ count us x → u ≤ x) × Ascending us

pub remove_ascending : (us : List ℕ) (v : ℕ) → Ascending us → Ascending (remove v us)
unfolding remove
remove_ascending [] v h = tt
remove_ascending (u ∷ us) v h = same? u v
    (λ e. rw (pick_same e) h.1)
    (λ d. rw (pick_other d) (λ x p. h.0 x (omega (arith, remove_fewer us v x)), remove_ascending us v h.1))

pub upfrom_ascending : (b n : ℕ) → Ascending (upfrom b n)
unfolding upfrom
upfrom_ascending b zero = tt
upfrom_ascending b (suc n) =
    (λ x p. cases (dec_le b x) (λ h. h) (λ h. absurd (omega (arith, count_low (suc b) n x (omega arith)))), upfrom_ascending (suc b) n)

pub first-lowest : (ls : Links) (us vs : List ℕ) → Ascending vs → (x : ℕ) → 1 ≤ count vs x → sum_at ls x (unvisited ls us) ≤ 1 → first ls us vs ≤ x
unfolding first count
first-lowest ls us [] a x p h = absurd (omega arith)
first-lowest ls us (v ∷ vs) a x p h =
    let d = dec_le (sum_at ls v (unvisited ls us)) 1 in
    cases d
    (λ k. rw (if_pos d k) (same? v x (λ e. omega arith) (λ e. a.0 x (omega (arith, is-other e)))))
    (λ k. rw (if_neg d k) (first-lowest ls us vs a.1 x (omega (arith, is-other {u = v} {v = x} (λ e. k (rw e h)))) h))

-- the first site found has at most one unvisited link; if none is found, each has more
pub first_or_none : (ls : Links) (us vs : List ℕ)
    → ((1 ≤ count vs (first ls us vs)) × (sum_at ls (first ls us vs) (unvisited ls us) ≤ 1))
    ⊎ ((x : ℕ) → 1 ≤ count vs x → 2 ≤ sum_at ls x (unvisited ls us))
unfolding first count
first_or_none ls us [] = inr (λ x p. absurd (omega arith))
first_or_none ls us (v ∷ vs) =
    let d = dec_le (sum_at ls v (unvisited ls us)) 1 in
    cases d
    (λ h. rw (if_pos d h) (inl (omega (arith, is_same {u = v} refl), h)))
    (λ h. rw (if_neg d h) (elim (first_or_none ls us vs) [
      | inl r ↦ inl (omega (arith, r.0), r.1)
      | inr r ↦ inr (λ x p. same? v x (λ e. rw (← e) (omega arith)) (λ e. r x (omega (arith, is-other e))))
    ]))

-- ---- in a tree it never gets stuck

both : (p q a b : ℕ) → p ≤ 1 → q ≤ 1 → a + b ≡ 1 → p * q ≤ p * a + q * b
both p q a b k l h = same? p 0
    (λ e. rw e (omega arith))
    (λ d. same? q 0
    (λ e. rw e (omega arith))
    (λ e. let x : p ≡ 1 = omega arith in let y : q ≡ 1 = omega arith in rw (x, y) (omega arith)))

module _ {ls : Links} {n : ℕ} (T : Tree ls n) where
  module _ (us : List ℕ) (here : (x : ℕ) → 1 ≤ count us x → Site n x) (single : (x : ℕ) → count us x ≤ 1) where
    -- fewer unvisited links than untaken sites: give each such link its site farther from r
    few_links : (r : ℕ) → 1 ≤ count us r → suc (sum (length ls) (unvisited ls us)) ≤ length us
    unfolding unvisited
    few_links r p =
        let far : ℕ → ℕ → ℕ = λ x i. separates ls i x r in
        omega (
          arith,
          over-one us,
          over-eq us (λ x. sum_at ls x (far x) + is x r * 1) (λ x. 1) (λ x q. omega (arith, local T x r (here x q) (here r p), is_iff x r r x sym sym)),
          over_add us (λ x. sum_at ls x (far x)) (λ x. is x r * 1),
          over-is us r (λ x. 1),
          exchange ls (loopless T) us far,
          sum-le (length ls) (unvisited ls us) (λ i. count us (one ls i) * far (one ls i) i + count us (two ls i) * far (two ls i) i)
              (λ i l. both (count us (one ls i)) (count us (two ls i)) (far (one ls i) i) (far (two ls i) i)
              (single (one ls i)) (single (two ls i)) (far-one T i r l (here r p))),
        )

    degrees-among : over us (λ x. sum_at ls x (unvisited ls us)) ≤ sum (length ls) (unvisited ls us) + sum (length ls) (unvisited ls us)
    degrees-among =
        let w = unvisited ls us in
        omega (
          arith,
          exchange ls (loopless T) us (λ x i. w i),
          sum-add (length ls) w w,
          sum-le (length ls) (λ i. count us (one ls i) * w i + count us (two ls i) * w i) (λ i. w i + w i)
              (λ i l. omega (arith, mul-le-mul_right (w i) (single (one ls i)), mul-le-mul_right (w i) (single (two ls i)))),
        )

    -- while a site is untaken, the first that is found is untaken and has at most one unvisited link
    pub never_stuck : (r : ℕ) → 1 ≤ count us r → (1 ≤ count us (first ls us us)) × (sum_at ls (first ls us us) (unvisited ls us) ≤ 1)
    never_stuck r p = elim (first_or_none ls us us) [
      | inl f ↦ f
      | inr h ↦ absurd (omega (
        arith,
        few_links r p,
        degrees-among,
        over-one us,
        over-mul us 2 (λ x. 1),
        over-le us (λ x. 2 * 1) (λ x. sum_at ls x (unvisited ls us)) (λ x q. omega (arith, h x q)),
      ))
    ]
