-- The next member: what is left of a word begins with its lowest bit, and where nothing is left the next word is looked at.
use Rattle.std.proofs.Common.{length, rules, Fits, w64, sym, ◌∙◌, arith}
use Rattle.std.proofs.Math.Path.{ap}
use Rattle.tree_sets.proofs.Steps.{still_next, still_later, still_end}
use Rattle.tree_sets.proofs.MembersIterator.next.Goals as goal

pub returns-then-self-eq-WORDS-clause-steps : goal.returns-then-self-eq-WORDS-clause-steps
returns-then-self-eq-WORDS-clause-steps c =
    let l = c.loop-self in
    let none = still_end l.self-inside.words.now l.self-inside.word l.self-inside.left c.loop-self-test.true (omega arith) in
    (sym c.self.view_is ∙ l.invariant.same ∙ none, none)

pub loop-self-preserved : goal.loop-self-preserved
loop-self-preserved c =
    let l = c.loop-self in
    record {
      inside = omega arith;
      words = l.invariant.words;
      same = l.invariant.same ∙ still_later l.self-inside.words.now l.self-inside.word l.self-inside.left c.loop-self-test.true (omega arith);
    }

pub returns-clause-steps : goal.returns-clause-steps
returns-clause-steps c =
    let l = c.loop-self in
    let fits : Fits w64 l.self-inside.left = search rules in
    sym c.self.view_is ∙ l.invariant.same ∙ still_next l.self-inside.words.now l.self-inside.word l.self-inside.left c.loop-self-test.false fits.fits l.invariant.inside

pub returns-clause-goes : goal.returns-clause-goes
returns-clause-goes c =
    let shorter = ap length (returns-clause-steps c) in
    record { on = λ _. (tt, tt, omega arith); keeps = tt; rests = λ _. tt }
