-- What is told of the lines of a plan decides the verdict: a fault, then a load above twice its capacity, then the total against the largest.
use Rattle.std.specs.Prelude.{◌≡◌, ◌≢◌, List, ℕ, eqb, length}
use Rattle.std.proofs.Math.Path.{sym}
use Rattle.std.proofs.Common.{◌∙◌, arith}
use Rattle.lists.specs.Numbers.{look}
use Rattle.lists.specs.Sums.{pick_same, pick_other, same?}
use Rattle.model.specs.Flows.{Links, total}
use Rattle.model.specs.TextRefusals.{refused_in}
use Rattle.theory_verdicts.specs.HandPlan.{Account, faulty, entries, overloaded, largest_total}
use Rattle.theory_verdicts.proofs.Loads.{an_overloaded_link_counts}
use Rattle.verdicts.specs.Outcome.{judged_as, verdict}
use Rattle.plan_accounts.specs.Progress.{Comes}
use Rattle.plan_accounts.specs.Loaded.{Loaded}
use Rattle.plan_accounts.specs.declared.Accounted.{Accounted}

module _ (ls : Links) (n : ℕ) (terminal : ℕ → ℕ) (c : List ℕ) (r : Accounted) where
  pub a_fault_is_the_verdict : (w : Account) → Comes ls w r → r.number ≢ 0 → refused_in 2 r.number r.line ≡ verdict ls n terminal c w
  unfolding verdict
  a_fault_is_the_verdict (faulty k l) h d = rw (h.0, h.1)
  a_fault_is_the_verdict (entries es) h d = absurd (d h.0)

  module _ (long : length c ≡ length ls) (none : r.number ≡ 0) where
    pub an_overload_is_the_verdict : (w : Account) → Comes ls w r → Loaded c r.load → refused_in 2 21 0 ≡ verdict ls n terminal c w
    unfolding verdict
    an_overload_is_the_verdict (faulty k l) h o = absurd (h.2 (sym h.0 ∙ none))
    an_overload_is_the_verdict (entries es) h o = sym (pick_other ((an_overloaded_link_counts ls (look c) es).1 (record {
      link = o.link;
      inside = omega (arith, o.inside);
      over = omega (arith, o.over, h.2 o.link);
    })) _ _)

    pub the_total_is_the_verdict : (w : Account) → Comes ls w r → (Loaded c r.load → ⊥)
        → judged_as r.total (eqb r.total (largest_total ls n terminal c)) ≡ verdict ls n terminal c w
    unfolding verdict
    the_total_is_the_verdict (faulty k l) h fits = absurd (h.2 (sym h.0 ∙ none))
    the_total_is_the_verdict (entries es) h fits = same? (overloaded ls (look c) es) 0
        (λ z. rw h.1 (sym (pick_same z _ _)))
        (λ d. let o = (an_overloaded_link_counts ls (look c) es).0 d in
        absurd (fits (record { link = o.link; inside = omega (arith, o.inside); over = omega (arith, o.over, h.2 o.link) })))
