-- `open`: each test leads to the answer of its cause.
use Rattle.std.proofs.Common.{sym, ◌∙◌}
use Rattle.tree.specs.Steps.{told, denied}
use Rattle.log_pairs.specs.Found.{place_of, may_grow}
use Rattle.log_steps.proofs.Laws.{measured, raising, answered_15, answered_16, growing, opened}
use Rattle.log_steps.proofs.open.Goals as goal

pub overfills-full-requires : goal.overfills-full-requires
overfills-full-requires c = let s = c.requires in measured s.0 s.2 s.1 c.between-path.result c.between-path.ensures

pub returns-then-full : goal.returns-then-full
returns-then-full c =
    let s = c.requires in
    answered_15 s.0 s.2 s.1 c.between-path.result c.between-path.ensures (told c.overfills-full.result c.overfills-full.ensures (cc))

pub returns-then-unwrap_or-eq-OPEN : goal.returns-then-unwrap_or-eq-OPEN
returns-then-unwrap_or-eq-OPEN c =
    let s = c.requires in
    let fits = denied c.overfills-full.result c.overfills-full.ensures (cc) in
    let place = place_of _ _ _ _ c.find-place.result c.find-place.ensures in
    answered_16 s.0 s.2 s.1 c.between-path.result c.between-path.ensures fits place (sym c.unwrap_or.ensures ∙ c.if-unwrap_or-eq-OPEN.true)

pub raise-requires : goal.raise-requires
raise-requires c = let s = c.requires in raising s.0 s.2 s.1 c.between-path.result c.between-path.ensures

pub grow-requires : goal.grow-requires
grow-requires c =
    let s = c.requires in
    let fits = denied c.overfills-full.result c.overfills-full.ensures (cc) in
    let place = place_of _ _ _ _ c.find-place.result c.find-place.ensures in
    may_grow c.args.pairs.now _ _ _ c.find-place.result c.find-place.ensures
    (growing s.0 s.2 s.1 c.between-path.result c.between-path.ensures fits place (λ e. c.if-unwrap_or-eq-OPEN.false (c.unwrap_or.ensures ∙ e)))

pub returns : goal.returns
returns c =
    let s = c.requires in
    let fits = denied c.overfills-full.result c.overfills-full.ensures (cc) in
    let place = place_of _ _ _ _ c.find-place.result c.find-place.ensures in
    opened s.0 s.2 s.1 c.between-path.result c.between-path.ensures fits place (λ e. c.if-unwrap_or-eq-OPEN.false (c.unwrap_or.ensures ∙ e))
    c.raise.ensures c.grow.ensures
