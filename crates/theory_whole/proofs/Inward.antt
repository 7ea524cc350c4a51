-- The way inward: what is kept while the sites are taken one by one, and what holds of the intervals in the end. By an invariant: every site that is
-- taken has its values by those of its children, `most` is the sum over the children taken so far, and `top` is the one of them with the greatest `high`.
use Rattle.std.specs.Prelude.{◌≡◌, ℕ, ◌-◌, ◌<◌, length, get_or, set}
use Rattle.std.proofs.Math.Path.{sym, fun_ext}
use Rattle.std.proofs.Common.{◌∙◌, get_or-set_same, get_or-set_other}
use mathlib.Core.List.{List, []}
use Rattle.lists.specs.Sums.{same?}
use Rattle.model.specs.WholeLoads.{put}
use Rattle.theory_whole.specs.Inward.{put_other, put_same}

-- a list that is written into is such an array
pub look-set : (l : List ℕ) (x y : ℕ) → x < length l → (λ z. get_or (set l x y) z 0) ≡ put (λ z. get_or l z 0) x y
look-set l x y h = fun_ext (λ z. same? z x
    (λ e. rw e (get_or-set_same l x y 0 h ∙ sym (put_same (λ z. get_or l z 0) x y)))
    (λ d. get_or-set_other l x z y 0 d ∙ sym (put_other (λ z. get_or l z 0) y d)))
