-- `split` meets its contract: a turn at a tab notes one place more, and at the end the last place is noted.
use Rattle.std.proofs.Common.{◌≡◌, ◌+◌, set, refl, sym, ◌∙◌, arith, length, length-set}
use Rattle.text_grammar.specs.SplitLaws.{split-from-start, split_at_tab, split-at-other, split-at-end}
use Rattle.text_grammar.proofs.split.Goals as goal
use Rattle.text_grammar.proofs.split.Goals.{then-b-eq9, else-b-eq9}

pub loop-i-init : goal.loop-i-init
loop-i-init c = (omega arith, refl, split-from-start c.args.line.now)

pub loop-i-preserved : goal.loop-i-preserved
loop-i-preserved c =
    let line = c.args.line.now in
    let l = c.loop-i in
    elim c.if-b-eq9.branch [
      | then-b-eq9 w ↦
          let marked : c.if-b-eq9.end ≡ set l.end l.count l.i = w.end-is ∙ w.mark.ensures in
          let counted : c.if-b-eq9.count ≡ l.count + 1 = w.count-is in (
            omega arith,
            rw marked (length-set l.end l.count l.i ∙ l.invariant.1),
            rw (marked, counted) (l.invariant.2 ∙ split_at_tab line l.end l.count l.i (omega arith) w.if-b-eq9.true),
          )
      | else-b-eq9 w ↦ (
        omega arith,
        rw w.end-is l.invariant.1,
        rw (w.end-is, w.count-is) (l.invariant.2 ∙ split-at-other line l.end l.count l.i (omega arith) w.if-b-eq9.false),
      )
    ]

pub returns : goal.returns
returns c =
    let line = c.args.line.now in
    let l = c.loop-i in
    let whole : length line ≡ l.i = omega arith in
    rw (c.mark-2.ensures, whole) (sym (l.invariant.2 ∙ split-at-end line l.end l.count l.i (omega arith)))
