-- Any site with at most one unvisited link at each step (document 02, Card 3): such runs are just the inward orders.
use Rattle.std.specs.Prelude.{◌≡◌, ◌↔◌}
use Rattle.std.proofs.Math.Path.{refl, sym, ap₂, fun_ext}
use mathlib.Core.List.{List, [], ◌∷◌}
use Prim.Native.Nat.{ℕ, ◌*◌, ◌≤◌}
use native.Mathlib.Omega.{arith}
use Rattle.std.proofs.Math.Decide.{dec_le}
use Rattle.lists.specs.Numbers.{count}
use Rattle.model.specs.Flows.{Links, Site, sites, one, two}
use Rattle.model.specs.Trimming.{unvisited, remove, Inward, InwardOrder}
use Rattle.lists.specs.Sums.{is_same, is-other, same?, cases}
use Rattle.theory_trees.specs.Sites.{sites_once, sites-site, sites-single}
use Rattle.theory_trees.specs.Orders.{remove-count}
use Rattle.theory_trees.specs.Runs.{Run}

module _ (ls : Links) where
  alike : (us vs : List ℕ) → ((x : ℕ) → count us x ≡ count vs x) → unvisited ls us ≡ unvisited ls vs
  unfolding unvisited
  alike us vs h = fun_ext (λ i. ap₂ ◌*◌ (h (one ls i)) (h (two ls i)))

  -- a run takes what was still to be taken
  run_takes : (order us : List ℕ) → Run ls us order → (x : ℕ) → count us x ≡ count order x
  unfolding count
  run_takes [] us h x = rw h refl
  run_takes (v ∷ vs) us h x = omega (arith, remove-count us v x h.0.0, run_takes vs (remove v us) h.1 x)

  run_is_inward : (order us : List ℕ) → ((x : ℕ) → count us x ≤ 1) → Run ls us order → Inward ls order
  unfolding count
  run_is_inward [] us single h = tt
  run_is_inward (v ∷ vs) us single h =
      let was : (x : ℕ) → _ = λ x. remove-count us v x h.0.0 in (
        omega (arith, was v, run_takes vs (remove v us) h.1 v, single v, is_same {u = v} refl),
        rw (alike (v ∷ vs) us (λ x. sym (run_takes (v ∷ vs) us h x))) h.0.1,
        run_is_inward vs (remove v us) (λ x. omega (arith, was x, single x)) h.1,
      )

  nothing_left : (us : List ℕ) → ((x : ℕ) → count us x ≡ 0) → us ≡ []
  unfolding count
  nothing_left [] h = refl
  nothing_left (u ∷ us) h = absurd (omega (arith, h u, is_same {u = u} refl))

  inward_is_run : (order us : List ℕ) → ((x : ℕ) → count us x ≡ count order x) → Inward ls order → Run ls us order
  unfolding count
  inward_is_run [] us same h = nothing_left us same
  inward_is_run (v ∷ vs) us same h =
      let here : 1 ≤ count us v = omega (arith, same v, is_same {u = v} refl) in (
        (here, rw (alike us (v ∷ vs) same) h.1),
        inward_is_run vs (remove v us) (λ x. omega (arith, same x, remove-count us v x here)) h.2,
      )

  inward_takes_once : (order : List ℕ) → Inward ls order → (x : ℕ) → count order x ≤ 1
  unfolding count
  inward_takes_once [] h x = omega arith
  inward_takes_once (v ∷ vs) h x = same? v x
      (λ e. rw (← e) (omega (arith, h.0, is_same {u = v} refl)))
      (λ d. omega (arith, is-other d, inward_takes_once vs h.2 x))

  -- the runs over the sites 1 .. n are just the inward orders of these sites
  pub runs_are_the_inward_orders : (n : ℕ) (order : List ℕ)
      → Run ls (sites n) order ↔ (InwardOrder ls n order × ((x : ℕ) → 1 ≤ count order x → Site n x))
  runs_are_the_inward_orders n order = (
    λ h. let takes = run_takes order (sites n) h in (
      record {
        inward = run_is_inward order (sites n) (sites-single n) h;
        all = λ x p. omega (arith, takes x, sites_once n x p);
      },
      λ x p. sites-site n x (omega (arith, takes x)),
    ),
    λ h. inward_is_run order (sites n)
        (λ x. cases (dec_le 1 (count (sites n) x))
        (λ p. omega (arith, sites_once n x (sites-site n x p), h.0.all x (sites-site n x p), inward_takes_once order h.0.inward x))
        (λ p. cases (dec_le 1 (count order x))
        (λ q. absurd (p (omega (arith, sites_once n x (h.1 x q)))))
        (λ q. omega arith)))
        h.0.inward,
  )
