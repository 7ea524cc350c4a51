-- A place in a list that stands in an array: what lies behind it, and the place some halves on.
use mathlib.Core.Path.{◌≡◌, refl, ap, ◌∙◌}
use mathlib.Core.List.{[], ◌∷◌}
use Prim.Native.Nat.{ℕ, ◌+◌, ◌-◌, ◌≤◌, ◌<◌}
use native.Mathlib.Omega.{arith}
use lib.Seq.{slice}
use Rattle.model.specs.Pairing.{Halves, put, halves}
use native.Mathlib.Decide.{dec_lt}
use Rattle.lists.specs.Sums.{pick_same, pick_other, pick_cases, same?, cases}
use Rattle.theory_walk.specs.Halves.{Filled, put-filled}
use Rattle.pairing_halves.specs.declared.Place.{Place}
use Rattle.pairing_halves.specs.Arrays.{entry, opened, rest, Stands, Lies, onward}
use Rattle.pairing_halves.proofs.Arrays.{stands_end, front_entry, front_rest, front_positive}
use Rattle.pairing_halves.specs.Splits.{put_some}

opened-filled : (g : ℕ) (l : Halves) → Filled l → Filled (opened g l)
unfolding opened
opened-filled g [] f = tt
opened-filled g (h ∷ l) f = put-filled h.0 (h.1 - g) l f.1

pub opened-none : (l : Halves) → Filled l → opened 0 l ≡ l
unfolding opened
opened-none [] f = refl
opened-none (h ∷ l) f = let e : h.1 - 0 ≡ h.1 = omega arith in rw e (put_some h.0 h.1 l f.0)

-- the start of a list
pub lies_start : {a : Halves} {b e : ℕ} → Stands a b e → Lies a (record { at = b; gone = 0 }) e
lies_start s = record { stands = s; partly = λ l. front_positive s l }

pub onward-at : (f : Place) (amount m : ℕ) → f.at ≤ (onward f amount m).at
unfolding onward
onward-at f amount m =
    pick_cases (λ (g : Place). f.at ≤ g.at) (f.gone + m) amount (record { at = f.at + 1; gone = 0 }) (record { at = f.at; gone = f.gone + m })
    (λ _. omega arith) (λ _. omega arith)

module _ {a : Halves} {f : Place} {e : ℕ} (p : Lies a f e) where
  pub rest-filled : Filled (rest a f e)
  rest-filled = opened-filled f.gone (slice f.at e a) p.stands.filled

  pub rest_end : e ≤ f.at → rest a f e ≡ []
  unfolding opened
  rest_end l = ap (opened f.gone) (stands_end p.stands l)

  -- a list with halves in it has an entry there
  pub rest_some : 1 ≤ halves (rest a f e) → f.at < e
  unfolding halves
  rest_some h = cases (dec_lt f.at e) (λ l. l) (λ n. absurd (let z = ap halves (rest_end (omega arith)) in omega arith))

  module _ (l : f.at < e) where
    -- what the entry there still has
    abbrev pub still : ℕ
    still = (entry a f.at).1 - f.gone

    pub rest-front : rest a f e ≡ ((entry a f.at).0, still) ∷ slice (f.at + 1) e a
    unfolding opened
    rest-front = ap (opened f.gone) (front_entry p.stands l) ∙ put_some (entry a f.at).0 still (slice (f.at + 1) e a) (omega (arith, p.partly l))

    pub onward_lies : (m : ℕ) → m ≤ still → Lies a (onward f (entry a f.at).1 m) e
    unfolding onward
    onward_lies m h = same? (f.gone + m) (entry a f.at).1
        (λ q. rw (pick_same q) (lies_start (front_rest p.stands l)))
        (λ d. rw (pick_other d) (record { stands = p.stands; partly = λ _. omega (arith, p.partly l) }))

    pub onward-rest : (m : ℕ) → m ≤ still → rest a (onward f (entry a f.at).1 m) e ≡ put (entry a f.at).0 (still - m) (slice (f.at + 1) e a)
    unfolding onward opened put
    onward-rest m h = same? (f.gone + m) (entry a f.at).1
        (λ q. let none : still - m ≡ 0 = omega arith in
        rw (pick_same q, none) (opened-none (slice (f.at + 1) e a) (front_rest p.stands l).filled))
        (λ d. let less : (entry a f.at).1 - (f.gone + m) ≡ still - m = omega arith in
        rw (pick_other d, front_entry p.stands l, less))
