-- Lists of the code, with zeros behind them, and the names that two of them hold.
use Rattle.std.specs.Prelude.{List, [], ◌∷◌, ◌++◌, map, ◌≡◌, get_or, set, replicate}
use Rattle.std.proofs.Common.{append_assoc, ◌∙◌, add-zero, zero-add, arith}
use Rattle.std.proofs.Math.Path.{refl, sym}
use Prim.Native.Nat.{ℕ, zero, suc, ◌+◌, ◌-◌, ◌<◌}
use Rattle.std.proofs.Math.ListN.{length, length-append, get_or-map}
use Rattle.std.proofs.lemmas.List.{set_at}
use Rattle.lists.specs.Numbers.{look}
use Rattle.lists.specs.Places.{look-zeros}
use Rattle.sheet_names.specs.Names.{ranges}
use Rattle.sheet.specs.Reading.{padded}

module _ (n : ℕ) (l : List ℕ) where
  -- an element more, in the first free place
  pub padded_more : (a : ℕ) → length l < n → set (padded n l) (length l) a ≡ padded n (l ++ (a ∷ []))
  unfolding padded
  padded_more a h =
      let free : n - length l ≡ suc (n - length (l ++ (a ∷ []))) = omega (arith, length-append l (a ∷ [])) in
      rw free
      (set_at l 0 (replicate (n - length (l ++ (a ∷ []))) 0) a (length l) refl ∙ sym (append_assoc l (a ∷ []) (replicate (n - length (l ++ (a ∷ []))) 0)))

-- zeros behind a list change nothing that is looked up
pub look-padded : (n : ℕ) (l : List ℕ) (i : ℕ) → look (padded n l) i ≡ look l i
unfolding padded
look-padded n l i = behind l (n - length l) i
  where
    behind : (l : List ℕ) (m i : ℕ) → look (l ++ replicate m 0) i ≡ look l i
    behind [] m i = look-zeros m i
    behind (a ∷ l) m zero = refl
    behind (a ∷ l) m (suc i) = behind l m i

-- ---- names in two lists

ranges_are : (starts ends : List ℕ) (i : ℕ) (rs : List (ℕ × ℕ))
    → ((j : ℕ) → j < length rs → (look starts (i + j) ≡ (get_or rs j (0, 0)).0) × (look ends (i + j) ≡ (get_or rs j (0, 0)).1))
    → ranges starts ends i (length rs) ≡ rs
unfolding ranges
ranges_are starts ends i [] h = refl
ranges_are starts ends i (r ∷ rs) h =
    let here = rw add-zero at (h 0 (omega arith)) in
    let later : (j : ℕ) → j < length rs → (look starts (suc i + j) ≡ (get_or rs j (0, 0)).0) × (look ends (suc i + j) ≡ (get_or rs j (0, 0)).1)
    = λ j l. let e : i + suc j ≡ suc i + j = omega arith in rw e at (h (suc j) (omega arith)) in
    rw (here.0, here.1, ranges_are starts ends (suc i) rs later)

-- the names of a network, from its lists
pub names_are : (n : ℕ) (rs : List (ℕ × ℕ)) → ranges (padded n (map (λ r. r.0) rs)) (padded n (map (λ r. r.1) rs)) 0 (length rs) ≡ rs
names_are n rs =
    ranges_are (padded n (map (λ r. r.0) rs)) (padded n (map (λ r. r.1) rs)) 0 rs (λ j l. (at_place (λ r. r.0) refl j l, at_place (λ r. r.1) refl j l))
  where
    at_place : (f : ℕ × ℕ → ℕ) → f (0, 0) ≡ 0 → (j : ℕ) → j < length rs → look (padded n (map f rs)) (0 + j) ≡ f (get_or rs j (0, 0))
    at_place f e j l = rw zero-add (look-padded n (map f rs) j ∙ (rw e at (get_or-map f rs j (0, 0))))
