-- `Set::insert` meets its contract: `|` with a power of two sets just one bit.
use mathlib.Core.Path.{◌≡◌}
use borrow.Author.Rules.{rules}
use lib.ListN.{length}
use Rattle.model.specs.Limits.{WORDS}
use Rattle.tree_sets.proofs.Words.{insert_out, insert_in}
use Rattle.tree_sets.proofs.Set.insert.Statement.{statement}
use Rattle.tree_sets.proofs.Set.insert.Tie as tie

returns : tie.Need-returns-then-m-ge-SITES
returns c =
    let s = c.before.args in
    let l : length s.self.words ≡ WORDS = search rules in
    λ j. insert_out s.self s.m j l c.if-m-ge-SITES.true

returns-2 : tie.Need-returns
returns-2 c =
    let s = c.before.before.args in
    let l : length s.self.words ≡ WORDS = search rules in
    λ j. insert_in s.self s.m j l c.before.if-m-ge-SITES.false

pub insert_spec : {M : Type 1} → statement M
insert_spec = tie.close (tie.spec returns (λ c. search rules) (λ c. search rules) (λ c. search rules) (λ c. search rules) (λ c. search rules) returns-2)
