-- Lines held against a form: the fields one by one, the fault of a line that is not formed, and the rules one by one.
use Rattle.std.specs.Prelude.{Bool, false, ◌&&◌, List, [], ◌∷◌, ◌⊎◌, ◌≢◌, ◌≡◌, refl, ℕ, ◌+◌, ◌≤◌, ◌<◌, eqb, length, Ok, Err}
use Rattle.std.proofs.Common.{inl, inr, add-one}
use Rattle.std.proofs.Math.Seq.{slice, slice-cons}
use Rattle.text_fields.specs.Fields.{same, field, all}
use Rattle.text_grammar.specs.Grammar.{Check, checked, fault_of}
use Rattle.text_grammar.specs.declared.Form.{Form}
use Rattle.text_grammar.specs.declared.Broken.TheVariants.{Letter, Count, Name, Digits, Number}
use Rattle.lists.specs.Sums.{contradiction}

-- a test of the fields from field k on, before field `to`, by field k
pub part_step : (p : List ℕ → Bool) (fs : List (List ℕ)) (k to : ℕ) → k < to → to ≤ length fs
    → all p (slice k to fs) ≡ (p (field fs k) && all p (slice (k + 1) to fs))
unfolding all
part_step p fs k to h l = rw (slice-cons k to fs [] h l, add-one k)

-- a line is formed, or it is not and has a fault
pub formed_or_faulty : (c : Check) → (c ≡ Ok tt) ⊎ ((c ≢ Ok tt) × (eqb (fault_of c) 0 ≡ false))
unfolding fault_of
formed_or_faulty (Ok u) = inl refl
formed_or_faulty (Err Letter) = inr (λ e. contradiction cc, refl)
formed_or_faulty (Err Count) = inr (λ e. contradiction cc, refl)
formed_or_faulty (Err Name) = inr (λ e. contradiction cc, refl)
formed_or_faulty (Err Digits) = inr (λ e. contradiction cc, refl)
formed_or_faulty (Err Number) = inr (λ e. contradiction cc, refl)

-- a line with another letter
pub another_letter : (form : Form) (fs : List (List ℕ)) → same (field fs 0) (form.letter ∷ []) ≡ false → checked form fs ≡ Err Letter
unfolding checked
another_letter form fs e = rw e
