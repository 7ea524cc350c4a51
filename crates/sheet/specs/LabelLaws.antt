-- The parents tell what is joined, and are kept by joining: each link more makes two roots one, so they hold the labels of the links from the last one on.
use Rattle.std.specs.Prelude.{Bool, true, false, ◌↔◌, ◌≡◌, refl, ℕ, zero, suc, ◌+◌, ◌≤◌, eqb}
use mathlib.Core.List.{List, [], ◌∷◌, ◌++◌, reverse, reverse_aux-append}
use Rattle.std.proofs.Common.{sym, ap, ◌∙◌, arith, eqb-true, eq-eqb, ne_eqb}
use Rattle.std.proofs.lemmas.Bool.{eqb-false}
use Rattle.lists.specs.Numbers.{is, look, upfrom}
use Rattle.lists.specs.Places.{length-upfrom}
use Rattle.lists.specs.Sums.{is_one, is_same, is_iff}
use Rattle.model.specs.Limits.{PLACES}
use Rattle.model.specs.Flows.{Links, label, joined}
use Rattle.theory_trees.proofs.Fresh.{joined_reversed}
use Rattle.tree_labels.specs.Labels.{alike}
use Rattle.tree_parents.specs.Parents.{Root, linked, Joins, Settled}
use Rattle.tree_parents.specs.Roots.{own-lower, own-tells, labels_same}
use Rattle.sheet.specs.Sheet.{all_joined}
use Rattle.sheet.specs.Held.{LabelsOf}

-- two equations that hold together are tested alike
test_iff : (a b c d : ℕ) → (a ≡ b) ↔ (c ≡ d) → eqb a b ≡ eqb c d
test_iff a b c d h = by (eqb c d) refl
  where
    by : (t : Bool) → eqb c d ≡ t → eqb a b ≡ eqb c d
    by true e = eq-eqb a b (h.1 (eqb-true c d e)) ∙ sym e
    by false e = ne_eqb a b (λ z. eqb-false c d e (h.0 z)) ∙ sym e

-- labels that are the same just where those of the links are tell what the links join
tell : (ls : Links) (a b p q : ℕ) → is p q ≡ is (label (reverse ls) a) (label (reverse ls) b) → eqb (joined ls a b) 1 ≡ eqb p q
unfolding joined
tell ls a b p q same = test_iff (is (label ls a) (label ls b)) 1 p q (
  (λ e. is_one (same ∙ is_same ((joined_reversed ls a b).1 (is_one e)))),
  (λ e. is_same ((joined_reversed ls a b).0 (is_one (sym same ∙ is_same e)))),
)

-- so do the roots of two sites
pub roots_tell : {ls : Links} {parents : List ℕ} → LabelsOf ls parents → {a b p q : ℕ} → Root parents a p → Root parents b q
    → eqb (joined ls a b) 1 ≡ eqb p q
roots_tell {ls} h {a} {b} {p} {q} A B = tell ls a b p q (is_iff p q (label (reverse ls) a) (label (reverse ls) b)
    (λ e. sym (A.same _ h.tells) ∙ ap (label (reverse ls)) e ∙ B.same _ h.tells)
    (λ e. h.tells.apart p q A.own B.own (A.same _ h.tells ∙ e ∙ sym (B.same _ h.tells))))

-- and the labels, once they are settled: sites are all joined to site 1 just if their labels are alike
pub alike-tells : {ls : Links} {parents labels : List ℕ} → LabelsOf ls parents → Settled parents labels → (b m : ℕ) → b + m ≤ PLACES
    → all_joined ls (upfrom b m) ≡ alike labels (upfrom b m)
unfolding all_joined alike upfrom
alike-tells h s b zero l = refl
alike-tells {ls} {parents} {labels} h s b (suc m) l = rw (
  tell ls 1 b (look labels 1) (look labels b)
      (labels_same s (label (reverse ls)) h.tells 1 b (omega (arith, h.long)) (omega (arith, h.long))),
  alike-tells h s (suc b) m (omega arith),
)

-- the parents before the first link
pub own_labels : LabelsOf [] (upfrom 0 PLACES)
unfolding label
own_labels = record { long = length-upfrom 0 PLACES; lower = own-lower PLACES; tells = own-tells PLACES (λ x. x) (λ x. refl) }

-- the parents with one link more
pub labels_join : {ls : Links} {parents after : List ℕ} {a b : ℕ} → LabelsOf ls parents → Joins parents after a b → LabelsOf (ls ++ ((a, b) ∷ [])) after
unfolding label linked
labels_join {ls} {a = a} {b = b} h j = record {
  long = j.long ∙ h.long;
  lower = j.lower;
  tells = rw (reverse_aux-append ls ((a, b) ∷ []) []) (j.tells (label (reverse ls)) h.tells);
}
