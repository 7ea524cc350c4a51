-- A line of a range sheet read with its low size and with its high size (document 02, Card 11) is the same, but for the capacity of a link, which is no larger
-- with its low size. By the cases of a kind.
use Rattle.std.specs.Prelude.{Bool, true, false, cond, List, ◌≡◌, refl, ℕ, ◌≤◌, eqb, leb, length, Option, Some, None, Result, Ok, Err}
use Rattle.std.proofs.Common.{arith, leb-true}
use Rattle.model.specs.Edition.{ranges_low, ranges_high}
use Rattle.model.specs.Text.{bytes}
use Rattle.model.specs.declared.Sizing.TheVariants.{Low, High}
use Rattle.sheet_kinds.specs.LineKinds.{same, fields, field, checked, fault_of, link_form, judged}
use Rattle.sheet_kinds.specs.LineKinds.{size_of, capacity_of, link_of, sized_link, link_line, kind_of, kind}
use Rattle.sheet_kinds.specs.declared.Line.{Line}
use Rattle.sheet_kinds.specs.declared.Line.TheVariants.{Site, Link}

-- the same line, but for the capacity of a link, which is no larger in the first
abbrev pub LineAlike : Result Line ℕ → Result Line ℕ → Type 0
LineAlike (Ok (Site a e m)) w = w ≡ Ok (Site a e m)
LineAlike (Ok (Link a e b f c)) w = (d : ℕ) × (w ≡ Ok (Link a e b f d)) × (c ≤ d)
LineAlike (Err n) w = w ≡ Err n

capacity-alike : (a b : ℕ) (x y : Option ℕ) → LineAlike (link_of a b (capacity_of Low x y)) (link_of a b (capacity_of High x y))
unfolding capacity_of
capacity-alike a b None y = refl
capacity-alike a b (Some x) None = refl
capacity-alike a b (Some x) (Some y) = by (leb x y) refl
  where
    by : (t : Bool) → leb x y ≡ t → LineAlike (link_of a b (cond t (Ok x) (Err 19))) (link_of a b (cond t (Ok y) (Err 19)))
    by true e = (y, refl, leb-true x y e)
    by false e = refl

same_line : (w : Result Line ℕ) → LineAlike w w
same_line (Ok (Site a e m)) = refl
same_line (Ok (Link a e b f c)) = (c, refl, omega arith)
same_line (Err n) = refl

pub kinds_alike : (l : List ℕ) → LineAlike (kind ranges_low l) (kind ranges_high l)
unfolding kind kind_of link_line sized_link judged
kinds_alike l = by (same (field (fields l) 0) (bytes "L")) (eqb (fault_of (checked (link_form Low) (fields l))) 0) _ _ _ _
    (capacity-alike (length (field (fields l) 1)) (length (field (fields l) 2)) (size_of _ (field (fields l) 3)) (size_of _ (field (fields l) 4)))
  where
    by : (t u : Bool) (v w x y : Result Line ℕ) → LineAlike v w → LineAlike (cond t (cond u v x) y) (cond t (cond u w x) y)
    by true true v w x y h = h
    by true false v w x y h = same_line x
    by false u v w x y h = same_line y
