-- The loads of a plan in whole circuits: halved amounts, whose loads are even at every inner site, since no site passes on an odd number of the links
-- that separate two other sites.
use Rattle.std.specs.Prelude.{◌≡◌, refl, ◌≢◌}
use Rattle.std.proofs.Common.{ap}
use mathlib.Core.List.{List, [], ◌∷◌}
use Prim.Native.Nat.{ℕ, ◌+◌, ◌*◌, ◌/◌, ◌%◌, ◌≤◌}
use native.Mathlib.Omega.{arith}
use Rattle.std.proofs.Math.ListN.{length}
use Rattle.lists.specs.Numbers.{Each}
use Rattle.lists.specs.Sums.{is-other, same?, differ_triangle, differ_comm, sum-add}
use Rattle.model.specs.Flows.{Links, Site, Tree, Multiflow, at, sum_at, side, separates, load, total, at_terminals}
use Rattle.model.specs.Whole.{Even, WholePlan, WholeLoads}
use Rattle.model.specs.declared.Pair.{Pair}
use Rattle.theory_trees.specs.Trees.{at-le, separates_triple, sum_at_linear, local}
use Rattle.theory_trees.specs.Sites.{sum_at-none}
use Rattle.theory_trees.proofs.Cutting.{loads_are_balanced}
use Rattle.theory_trees.proofs.Bounds.{twice_total}
use Rattle.theory_whole.specs.Sums.{sum_even}
use Rattle.theory_whole.specs.PlanLoads.{halved}

-- of three sites a link separates none, or one from the two others
even_part : (a p q r : ℕ) {q' p' : ℕ} → a ≤ 1 → q' + r + p ≤ 2 → p ≤ q' + r → q ≤ r + p' → r ≤ q + p → q' ≡ q → p' ≡ p → (a * p + a * q + a * r) % 2 ≡ 0
even_part a p q r l h i j k e f = same? a 0
    (λ z. rw z (omega arith))
    (λ z. let o : a ≡ 1 = omega arith in rw o (omega arith))

even_sum : (k p q : ℕ) {s : ℕ} → s ≡ k * p + q → p % 2 ≡ 0 → q % 2 ≡ 0 → s % 2 ≡ 0
even_sum k p q e f g =
    let half : p ≡ 2 * (p / 2) = omega arith in
    omega (arith, ap (λ z. k * z) half)

module _ (ls : Links) (n : ℕ) (terminal : ℕ → ℕ) where
  pub halved_routes : (es : List Pair) → Multiflow ls n terminal es → Multiflow ls n terminal (halved es)
  unfolding halved
  halved_routes [] h = tt
  halved_routes (e ∷ es) h = let r = h.0 in (
    record {
      first-site = r.first-site;
      second-site = r.second-site;
      first-terminal = r.first-terminal;
      second-terminal = r.second-terminal;
      different = r.different;
      free = r.free;
    },
    halved_routes es h.1,
  )

pub halved-total : (es : List Pair) → Each (λ e. Even e.amount) es → total es ≡ 2 * total (halved es)
unfolding halved total
halved-total [] h = refl
halved-total (e ∷ es) h = omega (arith, h.0.1, halved-total es h.1)

halved-load : (ls : Links) (es : List Pair) → Each (λ e. Even e.amount) es → (j : ℕ) → load ls es j ≡ 2 * load ls (halved es) j
unfolding halved load
halved-load ls [] h j = refl
halved-load ls (e ∷ es) h j =
    let twice : e.amount ≡ 2 * (e.amount / 2) = omega (arith, h.0.1) in
    omega (arith, ap (λ z. z * separates ls j e.first e.second) twice, halved-load ls es h.1 j)

module _ {ls : Links} {n : ℕ} (T : Tree ls n) (terminal : ℕ → ℕ) where
  -- no site passes on an odd number of the links that separate two other sites
  even_cut : (v x y : ℕ) → Site n v → Site n x → Site n y → x ≢ v → y ≢ v → sum_at ls v (λ i. separates ls i x y) % 2 ≡ 0
  unfolding sum_at separates
  even_cut v x y pv px py dx dy =
      let m = length ls in
      let xy : ℕ → ℕ = λ i. at ls v i * separates ls i x y in
      let vx : ℕ → ℕ = λ i. at ls v i * separates ls i v x in
      let vy : ℕ → ℕ = λ i. at ls v i * separates ls i v y in
      let parts = sum_even m (λ i. xy i + vx i + vy i) (λ i l.
      let s = side ls i in
      even_part (at ls v i) (separates ls i x y) (separates ls i v x) (separates ls i v y) (at-le ls v i)
      (separates_triple T i x v y l px pv py)
      (differ_triangle (s x) (s v) (s y)) (differ_triangle (s v) (s y) (s x)) (differ_triangle (s v) (s x) (s y))
      (differ_comm (s x) (s v)) (differ_comm (s y) (s x))) in
      omega (
        arith,
        local T v x pv px,
        local T v y pv py,
        is-other dx,
        is-other dy,
        parts,
        sum-add m (λ i. xy i + vx i) vy,
        sum-add m xy vx,
      )

  even_load : (v : ℕ) → Site n v → terminal v ≢ 1 → (es : List Pair) → Multiflow ls n terminal es → sum_at ls v (load ls es) % 2 ≡ 0
  unfolding load
  even_load v p m [] h = omega (arith, sum_at-none ls v (λ j. 0) (λ j l a. refl))
  even_load v p m (e ∷ es) h =
      let r = h.0 in
      let x = e.first in
      let y = e.second in
      even_sum e.amount (sum_at ls v (λ i. separates ls i x y)) (sum_at ls v (load ls es))
      (sum_at_linear ls v e.amount (λ i. separates ls i x y) (load ls es))
      (even_cut v x y p r.first-site r.second-site (λ q. m (rw q at r.first-terminal)) (λ q. m (rw q at r.second-terminal)))
      (even_load v p m es h.1)

  -- the loads of a plan in whole circuits, in circuits: they are whole loads, and bring its total to the terminals
  pub plan_loads : {c : ℕ → ℕ} (es : List Pair) → WholePlan ls n terminal c es
      → WholeLoads ls n terminal c (load ls (halved es)) × (total es ≡ at_terminals ls n terminal (load ls (halved es)))
  plan_loads es w =
      let l = load ls (halved es) in
      let h = halved_routes ls n terminal es w.routes in (
        record {
          below = λ j k. omega (arith, halved-load ls es w.even j, w.fits j k);
          balanced = loads_are_balanced T terminal (halved es) h;
          even = λ v p m. (sum_at ls v l / 2, omega (arith, even_load v p m (halved es) h));
        },
        omega (arith, halved-total es w.even, twice_total T terminal (halved es) h),
      )
