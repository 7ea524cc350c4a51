-- Lists with one element more.
use Rattle.std.specs.Prelude.{List, [], ◌∷◌, ◌++◌, ℕ, ◌<◌, length, get_or}
use Rattle.std.proofs.Common.{arith, length-append}
use Rattle.std.proofs.Math.ListN.{get_or-append}
use Rattle.std.proofs.Math.Seq.{get_or-append_seam}
use Rattle.lists.specs.Sums.{same?}

-- what holds of each element, and of the one more, holds of each element with it
pub one_more : {A : Type 0} (P : ℕ → A → Type 0) (l : List A) (a d : A) → ((i : ℕ) → i < length l → P i (get_or l i d)) → P (length l) a
    → (i : ℕ) → i < length (l ++ (a ∷ [])) → P i (get_or (l ++ (a ∷ [])) i d)
one_more P l a d h k i b = same? i (length l)
    (λ e. rw (e, get_or-append_seam l a [] d) k)
    (λ e. rw (get_or-append l (a ∷ []) d i (omega (arith, length-append l (a ∷ [])))) (h i (omega (arith, length-append l (a ∷ [])))))
