-- When a plan drawn by hand loads a link above twice its capacity, and when it fits: by the sum over the links that are so loaded.
use Rattle.std.specs.Prelude.{◌≡◌, ◌≢◌, ◌↔◌, List, ℕ, ◌*◌, length}
use Rattle.std.proofs.Math.Decide.{dec_lt}
use native.Mathlib.Omega.{arith}
use Rattle.lists.specs.Numbers.{less}
use Rattle.lists.specs.Sums.{cases, same?, sum-some, sum_ge, less_one, less_none}
use Rattle.model.specs.Flows.{Links, Fits, load}
use Rattle.model.specs.declared.Pair.{Pair}
use Rattle.theory_verdicts.specs.HandPlan.{overloaded}
use Rattle.theory_verdicts.specs.Loads.{Overloaded}

module _ (ls : Links) (c : ℕ → ℕ) (es : List Pair) where
  pub an_overloaded_link_counts : (overloaded ls c es ≢ 0) ↔ Overloaded ls c es
  unfolding overloaded
  an_overloaded_link_counts = (
    λ d. let w = sum-some (length ls) (λ j. less (2 * c j) (load ls es j)) (omega arith) in
        record {
          link = w.0;
          inside = w.1;
          over = cases (dec_lt (2 * c w.0) (load ls es w.0)) (λ l. l) (λ l. absurd (omega (
            arith,
            w.2,
            less_none l,
          )));
        },
    λ o z. omega (arith, sum_ge (length ls) o.link (λ j. less (2 * c j) (load ls es j)) o.inside, less_one o.over),
  )

  -- where none does, the plan fits, in halves
  pub without_an_overloaded_link_it_fits : overloaded ls c es ≡ 0 → Fits ls 2 c es
  without_an_overloaded_link_it_fits z j l = cases (dec_lt (2 * c j) (load ls es j))
      (λ o. absurd (an_overloaded_link_counts.1 (record { link = j; inside = l; over = o }) z))
      (λ o. omega arith)

  pub what_fits_overloads_nothing : Fits ls 2 c es → overloaded ls c es ≡ 0
  what_fits_overloads_nothing f = same? (overloaded ls c es) 0
      (λ z. z)
      (λ d. let o = an_overloaded_link_counts.0 d in absurd (omega (arith, o.over, f o.link o.inside)))
