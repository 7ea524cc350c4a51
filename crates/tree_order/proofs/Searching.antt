-- The search for the lowest site does not start over: below the highest site taken so far only one site can have come into reach,
-- the other end of the link over which the last was taken.
use mathlib.Core.Path.{◌≡◌, refl, sym, ◌∙◌}
use mathlib.Core.Logic.{◌≢◌}
use mathlib.Core.List.{List}
use Prim.Native.Nat.{ℕ, ◌≤◌, ◌<◌, max}
use native.Mathlib.Omega.{arith}
use native.Mathlib.Decide.{dec_lt}
use lib.Seq.{get_or-set_same, get_or-set_other}
use lib.ListN.{length, set}
use Rattle.lists.specs.Numbers.{look}
use Rattle.model.specs.Flows.{Site}
use Rattle.lists.specs.Sums.{cases, same?}
use Rattle.tree_order.specs.Steps.{Behind, Onward}
use Rattle.tree_order.specs.declared.Search.{Search}

pub behind_start : {n : ℕ} {keys : List ℕ} → 1 ≤ n → Behind n keys record { from = 1; back = 0 }
behind_start h = record {
  site = (omega arith, h);
  others = λ x p l d. absurd (omega arith);
  known = λ d. absurd (d refl);
}

module _ {n v : ℕ} {keys : List ℕ} {s : Search} (b : Behind n keys s) (q : Site n v) (low : look keys v < 131072)
    (below : (x : ℕ) → Site n x → 1 ≤ x → x < v → 131072 ≤ look keys x) where
  -- no other site up to the highest taken so far had a key below 131072
  none_other : (x : ℕ) → Site n x → x < max s.from v → x ≢ v → 131072 ≤ look keys x
  none_other x p l d = cases (dec_lt x v)
      (λ h. below x p p.0 h)
      (λ h. b.others x p (omega arith) (λ e. let k = b.others v q (omega arith) (λ z. d (e ∙ sym z)) in omega arith))

  behind_next : (after : List ℕ) (w : ℕ) (r : Search) → look after v ≡ 131072 → ((x : ℕ) → x ≢ v → x ≢ w → look after x ≡ look keys x)
      → (w ≢ 0 → Site n w) → Onward s v w (look after w) r → Behind n after r
  behind_next after w r gone stay site o = record {
    site = let f = b.site in omega (arith, o.from, f, q);
    others = λ x p l d. same? x v (λ e. rw e (omega arith)) (λ e. same? x w
        (λ z. rw z (o.back.none (same? r.back 0 (λ y. y) (λ y. absurd (d (z ∙ sym (o.back.some y).0)))) (omega arith) (omega arith)))
        (λ z. rw (stay x e z) (none_other x p (omega (arith, o.from)) e)));
    known = λ d. let k = o.back.some d in (rw k.0 (site (λ z. d (k.0 ∙ z))), rw k.0 k.1, rw k.0 k.2);
  }

  module _ (long : n < length keys) where
    here : look (set keys v 131072) v ≡ 131072
    here = get_or-set_same keys v 131072 0 (omega arith)

    -- v is taken alone
    pub behind_alone : (r : Search) → Onward s v 0 (look (set keys v 131072) 0) r → Behind n (set keys v 131072) r
    behind_alone r o = behind_next (set keys v 131072) 0 r here (λ x d e. get_or-set_other keys v x 131072 0 d) (λ d. absurd (d refl)) o

    -- v is taken over a link to w
    pub behind_over : (w y : ℕ) (r : Search) → Site n w → w ≢ v → let after = set (set keys v 131072) w y in Onward s v w (look after w) r → Behind n after r
    behind_over w y r p d o = behind_next (set (set keys v 131072) w y) w r
        (get_or-set_other (set keys v 131072) w v y 0 (λ z. d (sym z)) ∙ here)
        (λ x e f. get_or-set_other (set keys v 131072) w x y 0 f ∙ get_or-set_other keys v x 131072 0 e)
        (λ _. p) o
