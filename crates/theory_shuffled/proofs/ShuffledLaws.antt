-- What is shuffled stands in both lists; and two lists of which each holds the elements of the other, none of them twice, are shuffled.
use Rattle.std.specs.Prelude.{List, [], ◌∷◌, ◌≡◌, refl, ℕ}
use Rattle.std.proofs.Common.{sym, ap, subst, ◌∙◌, arith}
use Rattle.lists.specs.Tallies.{tally, tally-append}
use Rattle.theory_shuffled.specs.Shuffled.{Shuffled, none, next}
use Rattle.theory_shuffled.specs.ShuffledLaws.{Apart, apart-put, shuffled_is_covered}

-- what stands apart stays apart where it is shuffled: no two elements meet in the other list whose likes do not meet in the one
pub apart_shuffled : {A : Type 0} (Same Meet : A → A → Type 0) → ((a b : A) → Meet a b → Meet b a)
    → ((a b c d : A) → Same a b → Same c d → Meet b d → Meet a c) → {xs ys : List A} → Shuffled Same xs ys → Apart Meet xs → Apart Meet ys
apart_shuffled Same Meet turn carry none p = tt
apart_shuffled Same Meet turn carry (next {a = a} {b = b} front back s e h) p =
    subst (Apart Meet) (sym e) (apart-put Meet turn b front back
    (λ c z m. let k = shuffled_is_covered Same h c z in p.0 k.0 k.1 (carry a b k.0 c s k.2 m))
    (apart_shuffled Same Meet turn carry h p.1))

-- and what is counted is counted alike
pub tally_shuffled : {A : Type 0} (Same : A → A → Type 0) (g : A → ℕ) → ((a b : A) → Same a b → g a ≡ g b) → {xs ys : List A} → Shuffled Same xs ys
    → tally g xs ≡ tally g ys
unfolding tally
tally_shuffled Same g same none = refl
tally_shuffled Same g same (next {a = a} {b = b} {xs = xs} front back s e h) =
    let rest = tally_shuffled Same g same h in
    sym (ap (tally g) e ∙ omega (arith, same a b s, rest, tally-append g front (b ∷ back), tally-append g front back))
