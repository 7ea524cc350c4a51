-- The look-up of a name: what is found has the same name, and where nothing is found no site has it. By induction over the names.
use Rattle.std.specs.Prelude.{Option, Some, None, Bool, true, false, cond, ◌≡◌, length, get_or}
use Rattle.std.proofs.Common.{true≢false, sym, ◌∙◌, arith, zero-add}
use mathlib.Core.List.{List, [], ◌∷◌, ◌++◌}
use Rattle.std.proofs.Math.Path.{refl, ap}
use Prim.Native.Nat.{ℕ, zero, suc, ◌+◌, ◌<◌}
use Rattle.lists.specs.Numbers.{look}
use Rattle.text_fields.specs.Fields.{same, capitals, SameName, same_name}
use Rattle.text_fields.specs.FieldLaws.{same_are_equal, equal_are_same, not_same}
use Rattle.sheet_names.specs.Names.{part, lookup_from, ranges, name_at}

-- what a look-up says of a name, the names given being those of the sites from k up: the number of a site of that name, or that none has it
abbrev pub Says : List ℕ → List (ℕ × ℕ) → ℕ → List ℕ → Option ℕ → Type 0
Says s rs k f (Some v) = (i : ℕ) × (v ≡ k + i) × (i < length rs) × SameName (name_at s rs i) f
Says s rs k f None = (i : ℕ) → i < length rs → ¬ (SameName (name_at s rs i) f)

module _ (s f : List ℕ) where
  says_more : (r : ℕ × ℕ) (rs : List (ℕ × ℕ)) (k : ℕ) (w : Option ℕ) → (¬ (SameName (part s r) f)) → Says s rs (suc k) f w → Says s (r ∷ rs) k f w
  says_more r rs k (Some v) d h = (suc h.0, omega arith, omega arith, h.3)
  says_more r rs k None d h = next
    where
      next : (i : ℕ) → i < length (r ∷ rs) → ¬ (SameName (name_at s (r ∷ rs) i) f)
      next zero l = d
      next (suc i) l = h i (omega arith)

  says_by : (r : ℕ × ℕ) (rs : List (ℕ × ℕ)) (k : ℕ) (w : Option ℕ) (t : Bool) → same_name (part s r) f ≡ t → Says s rs (suc k) f w
      → Says s (r ∷ rs) k f (cond t (Some k) w)
  says_by r rs k w true e h = (0, omega arith, omega arith, same_are_equal (capitals (part s r)) (capitals f) e)
  says_by r rs k w false e h = says_more r rs k w (λ z. true≢false (sym (equal_are_same (capitals (part s r))) ∙ ap (same (capitals (part s r))) z ∙ e)) h

  -- a look-up says what is so
  pub lookup_says : (rs : List (ℕ × ℕ)) (k : ℕ) → Says s rs k f (lookup_from s rs k f)
  unfolding lookup_from
  lookup_says [] k = λ i l. absurd (omega arith)
  lookup_says (r ∷ rs) k = says_by r rs k (lookup_from s rs (suc k) f) (same_name (part s r) f) refl (lookup_says rs (suc k))

  -- the first site of a name is found
  pub first_is_found : (rs : List (ℕ × ℕ)) (k i : ℕ) → i < length rs → SameName (name_at s rs i) f → ((j : ℕ) → j < i → ¬ (SameName (name_at s rs j) f))
      → lookup_from s rs k f ≡ Some (k + i)
  unfolding lookup_from
  first_is_found [] k i l e d = absurd (omega arith)
  first_is_found (r ∷ rs) k zero l e d = rw (e, equal_are_same (capitals f)) (ap Some (omega arith))
  first_is_found (r ∷ rs) k (suc i) l e d =
      rw (not_same (capitals (part s r)) (capitals f) (d 0 (omega arith)))
      (first_is_found rs (suc k) i (omega arith) e (λ j b. d (suc j) (omega arith)) ∙ ap Some (omega arith))

-- ---- names in two lists

pub length-ranges : (starts ends : List ℕ) (i n : ℕ) → length (ranges starts ends i n) ≡ n
unfolding ranges
length-ranges starts ends i zero = refl
length-ranges starts ends i (suc n) = ap suc (length-ranges starts ends (suc i) n)

-- the range at a place
ranges-at : (starts ends : List ℕ) (b n i : ℕ) → i < n → get_or (ranges starts ends b n) i (0, 0) ≡ (look starts (b + i), look ends (b + i))
unfolding ranges
ranges-at starts ends b zero i l = absurd (omega arith)
ranges-at starts ends b (suc n) zero l = let here : b + 0 ≡ b = omega arith in rw here
ranges-at starts ends b (suc n) (suc i) l = let here : b + suc i ≡ suc b + i = omega arith in rw here (ranges-at starts ends (suc b) n i (omega arith))

pub range_at : (starts ends : List ℕ) (n i : ℕ) → i < n → get_or (ranges starts ends 0 n) i (0, 0) ≡ (look starts i, look ends i)
range_at starts ends n i l = rw zero-add at (ranges-at starts ends 0 n i l)

-- one range more
pub ranges_more : (starts ends : List ℕ) (b n : ℕ) → ranges starts ends b (n + 1) ≡ ranges starts ends b n ++ ((look starts (b + n), look ends (b + n)) ∷ [])
unfolding ranges
ranges_more starts ends b zero = let here : b + 0 ≡ b = omega arith in rw here
ranges_more starts ends b (suc n) =
    let here : b + suc n ≡ suc b + n = omega arith in
    let more : suc n + 1 ≡ suc (n + 1) = omega arith in
    rw (here, more) (ap (λ r. (look starts b, look ends b) ∷ r) (ranges_more starts ends (suc b) n))
