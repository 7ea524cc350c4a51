-- `coming_of` meets its contract, by its tests.
use mir.Val.{bool_byte}
use Rattle.std.proofs.Common.{◌≡◌, ℕ, true, false, eqb, sym, ap, ◌∙◌, arith}
use Rattle.std.proofs.lemmas.Bool.Decides.{nat_tests}
use Rattle.lists.specs.Numbers.{is}
use Rattle.lists.specs.Sums.{same?, is_same, is-other, pick_same, pick_other}
use Rattle.whole_notes.proofs.coming_of.Goals as goal
use Rattle.whole_notes.proofs.coming_of.Goals.{then-on-eq1, else-on-eq1}

byte_is : (u v : ℕ) → bool_byte (eqb u v) ≡ is u v
byte_is u v = same? u v
    (λ e. let t : eqb u v ≡ true = grind (arith, nat_tests) in ap bool_byte t ∙ sym (is_same e))
    (λ e. let t : eqb u v ≡ false = grind (arith, nat_tests) in ap bool_byte t ∙ sym (is-other e))

pub returns : goal.returns
returns c = elim c.if-on-eq1.branch [
  | then-on-eq1 w ↦ c.from.ensures ∙ ap bool_byte w.from-is ∙ byte_is c.args.top c.args.v ∙ sym (pick_same w.if-on-eq1.true _ _)
  | else-on-eq1 w ↦ c.from.ensures ∙ ap bool_byte w.from-is ∙ byte_is c.args.on 1 ∙ is-other w.if-on-eq1.false ∙ sym (pick_other w.if-on-eq1.false _ _)
]
