-- Laws of the words: a place and a cause, each written piece by piece.
use mathlib.Core.Path.{◌≡◌, ◌∙◌}
use mathlib.Core.Logic.{◌≢◌}
use mathlib.Core.List.{[], ◌∷◌, ◌++◌, append_assoc}
use Prim.Native.Nat.{ℕ}
use Rattle.model.specs.Text.{bytes}
use Rattle.lists.specs.Sums.{pick_same, pick_other}
use Rattle.text_writers.specs.Fields.{decimal}
use Rattle.report_causes.specs.CauseWords.{place, cause}

-- ---- where the fault is

pub no_line : (l : ℕ) → l ≡ 0 → place l ≡ bytes "the sheet: "
unfolding place
no_line l e = pick_same e _ _

-- a word, the number of the line, and a space
pub some-line : (l : ℕ) → l ≢ 0 → place l ≡ bytes "line " ++ ((decimal l ++ (58 ∷ [])) ++ (32 ∷ []))
unfolding place
some-line l d = pick_other d _ _ ∙ rw (append_assoc (decimal l) (58 ∷ []) (32 ∷ []))

-- ---- what is wrong

-- a number without a cause
pub no_cause : (n : ℕ) → n ≢ 1 → n ≢ 2 → n ≢ 3 → n ≢ 4 → n ≢ 5 → n ≢ 6 → n ≢ 7 → n ≢ 8 → n ≢ 9 → n ≢ 10 → n ≢ 11 → n ≢ 12 → n ≢ 13
    → n ≢ 17 → n ≢ 18 → n ≢ 19 → cause n ≡ bytes "a cause without words"
unfolding cause
no_cause n a b c d e f g h i j k l m o p q =
    pick_other a _ _ ∙ pick_other b _ _ ∙ pick_other c _ _ ∙ pick_other d _ _ ∙ pick_other e _ _ ∙ pick_other f _ _
    ∙ pick_other g _ _ ∙ pick_other h _ _ ∙ pick_other i _ _ ∙ pick_other j _ _ ∙ pick_other k _ _ ∙ pick_other l _ _ ∙ pick_other m _ _
    ∙ pick_other o _ _ ∙ pick_other p _ _ ∙ pick_other q _ _
