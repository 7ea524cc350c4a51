-- The pair list of trimmed sizes is a plan that fits and loads each link with just twice its trimmed size; so the same plans fit two lists of sizes just if
-- their trimmed sizes agree. Without marks every pair of different ends is free, so a plan is what document 01 calls one.
use Rattle.std.specs.Prelude.{◌≡◌, ◌↔◌, ◌≢◌, List, ℕ, ◌≤◌, ◌<◌, length}
use Rattle.std.proofs.Common.{arith}
use Rattle.lists.specs.Numbers.{look, Each}
use Rattle.lists.specs.Sums.{same?}
use Rattle.model.specs.Flows.{Links, Site, Tree, Route, Fits}
use Rattle.model.specs.Trimming.{Greatest, balanced}
use Rattle.model.specs.Parts.{pair_list_of_parts}
use Rattle.model.specs.declared.Pair.{Pair}
use Rattle.theory_trees.proofs.Greatest.{balanced_is_greatest}
use Rattle.theory_trees.specs.Leaves.{Outer}
use Rattle.theory_trees.proofs.Leaves.{outer_route}
use Rattle.theory_trees.proofs.Bounds.{the_same_multiflows_fit_iff_the_balanced_agree}
use Rattle.lists.specs.Tallies.{each_map}
use Rattle.theory_walk.proofs.PartsTheorem.{pair_list_of_parts_is_sound}
use Rattle.theory_walk.specs.Sound.{Sound}
use Rattle.demands.specs.Printed.{IsPlan}

-- an entry joins two different ends (01: each pair of different ends); `end` is 1 at an end
pub record JoinsEnds (n : ℕ) (end : ℕ → ℕ) (e : Pair) : Type 0 where
  pub first-site : Site n e.first
  pub second-site : Site n e.second
  pub first-end : end e.first ≡ 1
  pub second-end : end e.second ≡ 1
  pub different : e.first ≢ e.second

module _ {ls : Links} {n : ℕ} (T : Tree ls n) (terminal : ℕ → ℕ) where
  -- where each end has one link, a plan is amounts for pairs of different ends, whichever
  pub without_marks_every_pair_of_ends_is_free : Outer ls n terminal → (fs : List Pair) → Each (JoinsEnds n terminal) fs ↔ IsPlan ls n terminal fs
  without_marks_every_pair_of_ends_is_free O fs = (
    each_map (JoinsEnds n terminal) (Route ls n terminal)
        (λ e h. outer_route T terminal O e h.first-site h.second-site h.first-end h.second-end h.different) fs,
    each_map (Route ls n terminal) (JoinsEnds n terminal) (λ e r. record {
      first-site = r.first-site;
      second-site = r.second-site;
      first-end = r.first-terminal;
      second-end = r.second-terminal;
      different = r.different;
    }) fs,
  )

  -- the sizes c trimmed, and their pair list
  module _ (c : List ℕ) where
    abbrev pub trimmed_to : ℕ → ℕ
    trimmed_to = look (balanced ls n terminal c)

    abbrev pub full_plan : List Pair
    full_plan = pair_list_of_parts ls n trimmed_to terminal

    pub trimmed_is_greatest : Greatest ls terminal (look c) trimmed_to
    trimmed_is_greatest = balanced_is_greatest T terminal c

    pub full_plan_is_sound : Sound ls n terminal trimmed_to full_plan
    full_plan_is_sound = pair_list_of_parts_is_sound T terminal trimmed_to trimmed_is_greatest.balanced

    pub full_plan_fits : Fits ls 2 (look c) full_plan
    full_plan_fits j l = omega (arith, full_plan_is_sound.loads j l, trimmed_is_greatest.below j l)

  pub same_plans_fit_iff_trimmed_agree : (c d : List ℕ)
      → ((fs : List Pair) → IsPlan ls n terminal fs → (k : ℕ) → 1 ≤ k → Fits ls k (look c) fs ↔ Fits ls k (look d) fs)
      ↔ ((j : ℕ) → j < length ls → trimmed_to c j ≡ trimmed_to d j)
  same_plans_fit_iff_trimmed_agree c d =
      let of_c = full_plan_is_sound c in
      let of-d = full_plan_is_sound d in
      let of-multiflows = the_same_multiflows_fit_iff_the_balanced_agree T terminal (trimmed_is_greatest c) (trimmed_is_greatest d)
      (full_plan c) (full_plan d) of_c.routes of-d.routes 2 (omega arith) of_c.loads of-d.loads in (
        λ same. of-multiflows.0 (λ fs m k. same? k 0
            (λ z. rw z (λ f j l. omega (arith, f j l), λ f j l. omega (arith, f j l)))
            (λ z. same fs m k (omega arith))),
        λ agree fs h k _. of-multiflows.1 agree fs h k,
      )
