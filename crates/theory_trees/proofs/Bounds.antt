-- What fits: a multiflow that fits the given capacities fits the balanced ones, which alone decide what fits and bound its total.
use Rattle.std.specs.Prelude.{◌≡◌, refl, ◌≢◌, ◌↔◌, length}
use Rattle.std.proofs.Common.{sym, ◌∙◌}
use Rattle.std.proofs.Math.Path.{ap}
use mathlib.Core.List.{List, [], ◌∷◌}
use Prim.Native.Nat.{ℕ, ◌+◌, ◌*◌, ◌≤◌, ◌<◌}
use native.Mathlib.Omega.{arith}
use Rattle.std.proofs.Math.Nat.{mul-le-mul_left, le_of_mul-le-mul_left}
use Rattle.lists.specs.Numbers.{is}
use Rattle.model.specs.Flows.{Links, Site, Tree, Route, Multiflow, Below, Fits, sites, sum_at, separates, load, total, at_terminals}
use Rattle.model.specs.Trimming.{Greatest}
use Rattle.model.specs.declared.Pair.{Pair}
use Rattle.lists.specs.Sums.{same?, is_same, is-other}
use Rattle.theory_trees.specs.Trees.{separates_comm, sum_at_linear, local}
use Rattle.theory_trees.specs.Sites.{sites-site, sites_once, sum_at_mono, sum_at-same, sum_at-mul, sum_at-none}
use Rattle.lists.specs.Places.{over_add, over-mul, over-eq, over-le, over-is}
use Rattle.theory_trees.proofs.Cutting.{loads_are_balanced}
use Rattle.theory_trees.proofs.Greatest.{greatest_keeps_what_is_balanced}
use Rattle.theory_trees.specs.Bounds.{Fills}

module _ {ls : Links} {n : ℕ} (T : Tree ls n) (terminal : ℕ → ℕ) where
  -- ---- what fits

  -- a multiflow that fits the given capacities, in parts of any size, fits the balanced ones
  pub what_fits_fits_the_balanced : {c t : ℕ → ℕ} → Greatest ls terminal c t → (es : List Pair) → Multiflow ls n terminal es
      → (parts : ℕ) → Fits ls parts c es → Fits ls parts t es
  what_fits_fits_the_balanced g es h parts = greatest_keeps_what_is_balanced T terminal g parts (load ls es) (loads_are_balanced T terminal es h)

  -- where the balanced capacities are greater, more multiflows fit: what fits goes by them alone
  pub greater_balanced_fit_more : {c d t u : ℕ → ℕ} → Greatest ls terminal c t → Greatest ls terminal d u → Below ls t u
      → (es : List Pair) → Multiflow ls n terminal es → (parts : ℕ) → Fits ls parts c es → Fits ls parts d es
  greater_balanced_fit_more g h b es m parts f j l =
      omega (arith, what_fits_fits_the_balanced g es m parts f j l, mul-le-mul_left parts (b j l), mul-le-mul_left parts (h.below j l))

  -- and a multiflow that fills the balanced capacities t fits no capacities whose balanced ones are lower somewhere
  full_multiflow_fits_greater : {c d t u : ℕ → ℕ} → Greatest ls terminal c t → Greatest ls terminal d u → (es : List Pair) → Multiflow ls n terminal es
      → (parts : ℕ) → 1 ≤ parts → Fills ls parts t es → (Fits ls parts c es → Fits ls parts d es) → Below ls t u
  full_multiflow_fits_greater {c = c} g h es m parts p full f j l =
      let fits-c : Fits ls parts c es = λ i k. omega (arith, full i k, mul-le-mul_left parts (g.below i k)) in
      le_of_mul-le-mul_left {k = parts} (omega (arith, full j l, what_fits_fits_the_balanced h es m parts (f fits-c) j l)) p

  -- so, where the balanced capacities can be filled, the same multiflows fit two lists of capacities just if their balanced capacities agree
  pub the_same_multiflows_fit_iff_the_balanced_agree : {c d t u : ℕ → ℕ} → Greatest ls terminal c t → Greatest ls terminal d u
      → (es fs : List Pair) → Multiflow ls n terminal es → Multiflow ls n terminal fs → (parts : ℕ) → 1 ≤ parts → Fills ls parts t es → Fills ls parts u fs
      → ((gs : List Pair) → Multiflow ls n terminal gs → (k : ℕ) → Fits ls k c gs ↔ Fits ls k d gs) ↔ ((j : ℕ) → j < length ls → t j ≡ u j)
  the_same_multiflows_fit_iff_the_balanced_agree g h es fs m m' parts p full full' = (
    λ same j l. omega (
      arith,
      full_multiflow_fits_greater g h es m parts p full (same es m parts).0 j l,
      full_multiflow_fits_greater h g fs m' parts p full' (same fs m' parts).1 j l,
    ),
    λ agree gs v k. (
      greater_balanced_fit_more g h (λ j l. omega (arith, agree j l)) gs v k,
      greater_balanced_fit_more h g (λ j l. omega (arith, agree j l)) gs v k,
    ),
  )

  -- ---- the total

  -- of the links at terminals, an entry's path uses one at each of its own
  uses : (e : Pair) → Route ls n terminal e → (w : ℕ) → Site n w
      → is (terminal w) 1 * sum_at ls w (λ i. separates ls i e.first e.second) ≡ is w e.first * 1 + is w e.second * 1
  uses e r w p =
      let a = e.first in
      let b = e.second in
      let d = r.different in
      let d' : b ≢ a = λ q. d (sym q) in
      let turn = sum_at-same ls b (λ i. separates ls i a b) (λ i. separates ls i b a) (λ i l o. separates_comm ls i a b) in
      same? w a
      (λ q. rw (q, r.first-terminal, is_same {u = 1} refl, is_same {u = a} refl, is-other d)
      (omega (arith, local T a b r.first-site r.second-site, is-other d')))
      (λ wa. same? w b
      (λ q. rw (q, r.second-terminal, is_same {u = 1} refl, is_same {u = b} refl, is-other d')
      (omega (arith, turn, local T b a r.second-site r.first-site, is-other d)))
      (λ wb. rw (is-other wa, is-other wb) (same? (terminal w) 1
      (λ m. rw (sum_at-none ls w (λ i. separates ls i a b) (λ i l o. r.free w i p m wa wb l o)) (omega arith))
      (λ m. rw (is-other m) (omega arith)))))

  -- twice the total of a multiflow is its load at the terminals
  pub twice_total : (es : List Pair) → Multiflow ls n terminal es → 2 * total es ≡ at_terminals ls n terminal (load ls es)
  unfolding at_terminals load total
  twice_total [] h = omega (
    arith,
    over-eq (sites n) (λ w. is (terminal w) 1 * sum_at ls w (load ls [])) (λ w. 0 * 0) (λ w q. rw (sum_at-none ls w (load ls []) (λ i l o. refl)) (omega arith)),
    over-mul (sites n) 0 (λ w. 0),
  )
  twice_total (e ∷ es) h =
      let r = h.0 in
      let a = e.first in
      let b = e.second in
      let own : ℕ → ℕ = λ w. is w a * 1 + is w b * 1 in
      let rest : ℕ → ℕ = λ w. is (terminal w) 1 * sum_at ls w (load ls es) in
      omega (
        arith,
        twice_total es h.1,
        over-eq (sites n) (λ w. is (terminal w) 1 * sum_at ls w (load ls (e ∷ es))) (λ w. e.amount * own w + rest w)
            (λ w q. omega (
              arith,
              ap (λ z. is (terminal w) 1 * z) (sum_at_linear ls w e.amount (λ i. separates ls i a b) (load ls es)),
              ap (λ z. e.amount * z) (uses e r w (sites-site n w q)),
            )),
        over_add (sites n) (λ w. e.amount * own w) rest,
        over-mul (sites n) e.amount own,
        ap (λ z. e.amount * z) (over_add (sites n) (λ w. is w a * 1) (λ w. is w b * 1)),
        ap (λ z. e.amount * z) (rw (sites_once n a r.first-site) at (over-is (sites n) a (λ w. 1))),
        ap (λ z. e.amount * z) (rw (sites_once n b r.second-site) at (over-is (sites n) b (λ w. 1))),
      )

  -- so twice the total of a multiflow that fits is at most the balanced capacities at the terminals, in parts
  pub the_balanced_bound_the_total : {c t : ℕ → ℕ} → Greatest ls terminal c t → (es : List Pair) → Multiflow ls n terminal es → (parts : ℕ)
      → Fits ls parts c es → 2 * total es ≤ parts * at_terminals ls n terminal t
  unfolding at_terminals
  the_balanced_bound_the_total {t = t} g es h parts f =
      let fits : (w : ℕ) → sum_at ls w (load ls es) ≤ parts * sum_at ls w t
      = λ w. rw (sum_at-mul ls w parts t) at (sum_at_mono ls w (load ls es) (λ j. parts * t j) (λ j l a. what_fits_fits_the_balanced g es h parts f j l)) in
      omega (
        arith,
        twice_total es h,
        over-le (sites n) (λ w. is (terminal w) 1 * sum_at ls w (load ls es)) (λ w. parts * (is (terminal w) 1 * sum_at ls w t))
            (λ w q. omega (arith, mul-le-mul_left (is (terminal w) 1) (fits w))),
        over-mul (sites n) parts (λ w. is (terminal w) 1 * sum_at ls w t),
      )

  -- a multiflow that fills the balanced capacities reaches the bound
  pub a_full_multiflow_reaches_the_bound : (t : ℕ → ℕ) (es : List Pair) → Multiflow ls n terminal es → (parts : ℕ)
      → Fills ls parts t es → 2 * total es ≡ parts * at_terminals ls n terminal t
  unfolding at_terminals
  a_full_multiflow_reaches_the_bound t es h parts f =
      let full : (w : ℕ) → sum_at ls w (load ls es) ≡ parts * sum_at ls w t
      = λ w. sum_at-same ls w (load ls es) (λ j. parts * t j) (λ j l a. f j l) ∙ sum_at-mul ls w parts t in
      omega (
        arith,
        twice_total es h,
        over-eq (sites n) (λ w. is (terminal w) 1 * sum_at ls w (load ls es)) (λ w. parts * (is (terminal w) 1 * sum_at ls w t))
            (λ w q. rw (full w) (omega arith)),
        over-mul (sites n) parts (λ w. is (terminal w) 1 * sum_at ls w t),
      )

  -- and then no multiflow that fits, in parts of any size, has a greater total: total fs / k is at most total es / parts
  pub a_full_multiflow_has_the_greatest_total : {c t : ℕ → ℕ} → Greatest ls terminal c t → (es : List Pair) → Multiflow ls n terminal es → (parts : ℕ)
      → Fills ls parts t es
      → (fs : List Pair) → Multiflow ls n terminal fs → (k : ℕ) → Fits ls k c fs → parts * total fs ≤ k * total es
  a_full_multiflow_has_the_greatest_total {t = t} g es h parts full fs h' k fits = omega (
    arith,
    mul-le-mul_left parts (the_balanced_bound_the_total g fs h' k fits),
    ap (λ z. k * z) (a_full_multiflow_reaches_the_bound t es h parts full),
  )
