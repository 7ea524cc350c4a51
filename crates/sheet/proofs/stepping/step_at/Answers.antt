-- `step_at`: the ending and the number of the line, then its heading or its kind.
use Rattle.std.proofs.Common.{◌≡◌, List, ℕ, ◌+◌, length, sym, ap, subst, ◌∙◌}
use Rattle.model.specs.declared.Edition.{Edition}
use Rattle.text_lines.specs.Lines.{line_at}
use Rattle.sheet_kinds.specs.LineKinds.{kind}
use Rattle.sheet_kinds.specs.FormedLines.{Formed, kinds_are_formed}
use Rattle.sheet_scan.specs.Scan.{scanned}
use Rattle.sheet_scan.specs.declared.Scanned.{Scanned}
use Rattle.sheet.specs.Sheet.{heading_step}
use Rattle.sheet.specs.StepCases.{unended_step, first_step, later_step}
use Rattle.sheet.proofs.stepping.step_at.Goals as goal

-- the end of the line, and its kind
end_is : (ed : Edition) (s : List ℕ) (at : ℕ) {found : Scanned} → found ≡ scanned ed s at → found.end ≡ at + length (line_at s at)
unfolding scanned
end_is ed s at e = ap (λ f. f.end) e

kind-is : (ed : Edition) (s : List ℕ) (at : ℕ) {found : Scanned} → found ≡ scanned ed s at → found.line ≡ kind ed (line_at s at)
unfolding scanned
kind-is ed s at e = ap (λ f. f.line) e

pub returns-then-found-sheet : goal.returns-then-found-sheet
returns-then-found-sheet c = λ net h. sym (unended_step _ _ _ _ _ (rw (end_is _ _ _ c.requires.3) at c.if-found-sheet.true))

pub returns-then-number-eq1 : goal.returns-then-number-eq1
returns-then-number-eq1 c = λ net h. c.heading_step.ensures ∙ ap (heading_step _) c.line-line.ensures.bytes
    ∙ sym (first_step _ _ _ _ _ (rw (end_is _ _ _ c.requires.3) at c.if-found-sheet.false) c.if-number-eq1.true)

pub record_step-requires : goal.record_step-requires
record_step-requires c =
    let l = line_at c.args.sheet.now c.args.at in (
      c.requires.0,
      c.requires.1,
      rw (end_is _ _ _ c.requires.3) at c.if-found-sheet.false,
      subst (Formed c.args.edition.size l) (sym (kind-is _ _ _ c.requires.3)) (kinds_are_formed c.args.edition l),
    )

pub returns : goal.returns
returns c = λ net h. c.record_step.ensures net h
    ∙ rw (kind-is _ _ _ c.requires.3) (sym (later_step _ _ _ _ _ (rw (end_is _ _ _ c.requires.3) at c.if-found-sheet.false) c.if-number-eq1.false))
