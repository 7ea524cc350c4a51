-- Cutting at one site: afterwards no link is heavy there, and whatever is balanced and fits, in any number of parts, still fits.
-- By the lemma of sums: what a link may keep is what the other links at the site have together.
use Rattle.std.specs.Prelude.{◌≡◌, refl, ◌≢◌, ◌↔◌, List, [], ◌∷◌, length}
use Rattle.std.proofs.Common.{sym}
use Rattle.std.proofs.Math.Path.{ap}
use Prim.Native.Nat.{ℕ, ◌+◌, ◌-◌, ◌*◌, ◌≤◌, ◌<◌, min}
use native.Mathlib.Omega.{arith}
use Rattle.std.proofs.Math.Decide.{dec_le}
use Rattle.std.proofs.Math.Nat.{mul-le-mul_left}
use Rattle.lists.specs.Numbers.{pick}
use Rattle.model.specs.Flows.{Links, Tree, Multiflow, Fits, Below, at, sum_at, others, load}
use Rattle.model.specs.Trimming.{Heavy, Light, Balanced, cut_at}
use Rattle.model.specs.declared.Pair.{Pair}
use Rattle.lists.specs.Sums.{pick_same, pick_other, pick_cases, cases, same?, sum-mul, sum_le_but, sum_ge, sum-min}
use Rattle.theory_trees.specs.Trees.{at-le, others-add}
use Rattle.theory_trees.specs.Sites.{at-site, sum_at-same}
use Rattle.theory_trees.specs.Loads.{Avoids}
use Rattle.theory_trees.proofs.Loads.{double}

module _ (ls : Links) (v : ℕ) where
  light_others : (t : ℕ → ℕ) → Light ls v t ↔ ((j : ℕ) → j < length ls → at ls v j ≡ 1 → t j ≤ others ls v j t)
  light_others t = (λ h j l a. omega (arith, h j l a, others-add ls v j t l a), λ h j l a. omega (arith, h j l a, others-add ls v j t l a))

  -- "light" says that no link at v is heavy
  pub light_iff_none_heavy : (t : ℕ → ℕ) → Light ls v t ↔ ((j : ℕ) → j < length ls → at ls v j ≡ 1 → ¬ Heavy ls t v j)
  light_iff_none_heavy t = (
    λ h j l a b. omega (arith, (light_others t).0 h j l a),
    λ h. (light_others t).1 (λ j l a. cases (dec_le (t j) (others ls v j t)) (λ p. p) (λ p. absurd (h j l a (omega arith)))),
  )

  -- capacities that are the same on the links of v are as light there
  pub light_same : (r s : ℕ → ℕ) → ((i : ℕ) → i < length ls → at ls v i ≡ 1 → s i ≡ r i) → Light ls v r → Light ls v s
  light_same r s h b j l a = omega (arith, h j l a, b j l a, sum_at-same ls v s r h)

-- ---- the cut at an inner site

to-min : (a b : ℕ) (P : ℕ → Type 0) → P a → P b → P (min a b)
to-min a b P p q = cases (dec_le a b)
    (λ h. let e : min a b ≡ a = omega arith in rw e p)
    (λ h. let e : min a b ≡ b = omega arith in rw e q)

module _ (ls : Links) (terminal : ℕ → ℕ) (v : ℕ) where
  pub cut_at-le : (c : ℕ → ℕ) (j : ℕ) → cut_at ls terminal v c j ≤ c j
  unfolding cut_at
  cut_at-le c j =
      let m = min (c j) (sum_at ls v c - c j) in
      pick_cases (λ r. r ≤ c j) (terminal v) 1 (c j) (pick (at ls v j) 1 m (c j))
      (λ e. omega arith)
      (λ d. pick_cases (λ r. r ≤ c j) (at ls v j) 1 m (c j) (λ e. omega arith) (λ e. omega arith))

  -- a cut changes no link away from v
  pub cut_at_away : (c : ℕ → ℕ) (j : ℕ) → at ls v j ≢ 1 → cut_at ls terminal v c j ≡ c j
  unfolding cut_at
  cut_at_away c j d = rw (pick_other d) (pick_cases (λ r. r ≡ c j) (terminal v) 1 (c j) (c j) (λ e. refl) (λ e. refl))

  -- nor any link at a terminal
  pub cut_at-terminal : (c : ℕ → ℕ) (j : ℕ) → terminal v ≡ 1 → cut_at ls terminal v c j ≡ c j
  unfolding cut_at
  cut_at-terminal c j m = pick_same m (c j) (pick (at ls v j) 1 (min (c j) (sum_at ls v c - c j)) (c j))

  -- at an inner site: the lesser of what the link had and what the others had
  pub cut_at-at : (c : ℕ → ℕ) (j : ℕ) → terminal v ≢ 1 → j < length ls → at ls v j ≡ 1 → cut_at ls terminal v c j ≡ min (c j) (others ls v j c)
  unfolding cut_at
  cut_at-at c j m l a = rw (pick_other m, pick_same a) (omega (arith, others-add ls v j c l a))

  -- a link that is not heavy stays
  pub cut_at_stays : (c : ℕ → ℕ) (j : ℕ) → j < length ls → (at ls v j ≡ 1 → terminal v ≢ 1 → c j + c j ≤ sum_at ls v c) → cut_at ls terminal v c j ≡ c j
  cut_at_stays c j l h = same? (at ls v j) 1
      (λ a. same? (terminal v) 1 (cut_at-terminal c j) (λ m. omega (arith, h a m, cut_at-at c j m l a, others-add ls v j c l a)))
      (cut_at_away c j)

  -- a link at v, other than link j, is one of the others
  pub other-le : (c : ℕ → ℕ) (i j : ℕ) → i < length ls → i ≢ j → at ls v i ≡ 1 → c i ≤ others ls v j c
  unfolding others
  other-le c i j l d a = omega (arith, rw (pick_other d, a) at (sum_ge (length ls) i (λ x. pick x j 0 (at ls v x * c x)) l))

  -- after the cut no link at v is heavy
  pub a-cut-leaves-none-heavy : (c : ℕ → ℕ) → terminal v ≢ 1 → Light ls v (cut_at ls terminal v c)
  unfolding others
  a-cut-leaves-none-heavy c m = (light_others ls v r).1 (λ j l a. omega (
    arith,
    cut_at-at c j m l a,
    sum-min (length ls) (r j) (λ i. pick i j 0 (at ls v i * r i)) (λ i. pick i j 0 (at ls v i * c i)) (part j l a),
  ))
    where
      r : ℕ → ℕ
      r = cut_at ls terminal v c

      part : (j : ℕ) → j < length ls → at ls v j ≡ 1 → (i : ℕ) → i < length ls → min (r j) (pick i j 0 (at ls v i * c i)) ≤ pick i j 0 (at ls v i * r i)
      part j l a i k = same? i j
          (λ e. simp (pick_same {A = ℕ} e) (omega arith))
          (λ d. simp (pick_other {A = ℕ} d) (same? (at ls v i) 1
          (λ b. rw b (omega (arith, cut_at-at c i m k b, cut_at-at c j m l a, other-le c j i l (λ e. d (sym e)) a)))
          (λ b. let z : at ls v i ≡ 0 = omega (arith, at-le ls v i) in rw z (omega arith))))

  -- whatever is balanced at v and fits in k times the capacities fits in k times the cut capacities
  pub a_cut_keeps_what_is_balanced : (k : ℕ) (c f : ℕ → ℕ) → (terminal v ≢ 1 → Light ls v f)
      → Below ls f (λ j. k * c j) → Below ls f (λ j. k * cut_at ls terminal v c j)
  unfolding sum_at
  a_cut_keeps_what_is_balanced k c f bal fits j l = same? (terminal v) 1
      (λ m. rw (cut_at-terminal c j m) (fits j l))
      (λ m. same? (at ls v j) 1
      (λ a. rw (cut_at-at c j m l a) (to-min (c j) (others ls v j c) (λ r. f j ≤ k * r) (fits j l) (rest m a)))
      (λ d. rw (cut_at_away c j d) (fits j l)))
    where
      rest : terminal v ≢ 1 → at ls v j ≡ 1 → f j ≤ k * others ls v j c
      rest m a = omega (
        arith,
        bal m j l a,
        ap (λ x. k * x) (others-add ls v j c l a),
        sum-mul (length ls) k (λ i. at ls v i * c i),
        rw a at (sum_le_but (length ls) j (λ i. at ls v i * f i) (λ i. k * (at ls v i * c i)) l
            (λ i p _. omega (arith, mul-le-mul_left (at ls v i) (fits i p)))),
      )

-- ---- multiflows

module _ {ls : Links} {n : ℕ} (T : Tree ls n) (terminal : ℕ → ℕ) where
  avoids : (es : List Pair) → Multiflow ls n terminal es → (v : ℕ) → terminal v ≢ 1 → Avoids n v es
  avoids [] h v m = tt
  avoids (e ∷ es) h v m =
      let r = h.0 in
      ((r.first-site, r.second-site, (λ q. m (rw q at r.first-terminal)), (λ q. m (rw q at r.second-terminal))), avoids es h.1 v m)

  -- the loads of a multiflow leave no inner site with a heavy link
  pub loads_are_balanced : (es : List Pair) → Multiflow ls n terminal es → Balanced ls terminal (load ls es)
  loads_are_balanced es h v m j l a = double T v j (at-site ls T.ends j l a) l a es (avoids es h v m)

  -- a multiflow that fits, in parts of any size, fits the cut capacities
  pub a_cut_keeps_every_flow : (es : List Pair) → Multiflow ls n terminal es → (v parts : ℕ) (c : ℕ → ℕ)
      → Fits ls parts c es → Fits ls parts (cut_at ls terminal v c) es
  a_cut_keeps_every_flow es h v parts c = a_cut_keeps_what_is_balanced ls terminal v parts c (load ls es) (loads_are_balanced es h v)
