-- `both_ways`: each step cuts at one site more of the way along the order and back.
use Rattle.std.proofs.Common.{◌≡◌, ◌*◌, ◌<◌, ℕ, List, [], ◌∷◌, length, take, refl, sym, ap, ◌∙◌, arith, add-one}
use Rattle.std.proofs.Math.Path.{ap₂}
use Rattle.std.proofs.Math.Seq.{take-suc, take_all}
use Rattle.lists.specs.Numbers.{look}
use Rattle.trimming_passes.specs.Steps.{InPlaces, both_ways, cut_first}
use Rattle.trimming_passes.proofs.Laws.{both_ways_balance, first-none, first_more, length_both_ways, on_the_way, in_places_on_the_way, places-enough}
use Rattle.trimming_passes.proofs.both_ways.Goals as goal

-- the way along the order and back
abbrev way : ℕ → List ℕ → List ℕ
way n order = both_ways (take n order)

long : (n : ℕ) (order : List ℕ) → InPlaces n (take n order) → length (way n order) ≡ 2 * n
long n order places = length_both_ways n order (places-enough n order places)

pub loop-i-init : goal.loop-i-init
loop-i-init c =
    let tree = c.args.chains.now.tree in
    record { long = refl; kept = c.requires.1; so_far = first-none tree.one.now tree.two.now (look c.args.ends.now) c.requires.1.placed.seconds c.args.capacity.now }

pub cut-requires : goal.cut-requires
cut-requires c =
    let n = c.args.chains.now.tree.sites in
    let order = c.args.order.now in
    let enough = places-enough n order c.requires.0 in
    (rw c.there_and_back.ensures (in_places_on_the_way n order enough c.loop-i.i (omega arith) c.requires.0), c.loop-i.invariant.kept)

pub loop-i-preserved : goal.loop-i-preserved
loop-i-preserved c =
    let tree = c.args.chains.now.tree in
    let n = tree.sites in
    let order = c.args.order.now in
    let terminal = look c.args.ends.now in
    let i = c.loop-i.i in
    let before = c.args.capacity.now in
    let enough = places-enough n order c.requires.0 in
    let site = ap (look order) c.there_and_back.ensures ∙ on_the_way n order enough i (omega arith) in
    let seconds = c.requires.1.placed.seconds in
    let more : i < length (way n order) = omega (arith, long n order c.requires.0) in
    record {
      long = c.cut.auto.capacity ∙ c.loop-i.invariant.long;
      kept = c.cut.ensures.1;
      so_far = c.cut.ensures.0
          ∙ ap₂ (λ v l. cut_first tree.one.now tree.two.now terminal (v ∷ []) l) site c.loop-i.invariant.so_far
          ∙ first_more tree.one.now tree.two.now terminal seconds (take i (way n order)) (look (way n order) i ∷ []) before c.requires.1.each
          ∙ ap (λ vs. cut_first tree.one.now tree.two.now terminal vs before) (rw (add-one i) (sym (take-suc (way n order) i 0 more)));
    }

pub returns : goal.returns
returns c =
    let tree = c.args.chains.now.tree in
    let n = tree.sites in
    let order = c.args.order.now in
    let terminal = look c.args.ends.now in (
      c.loop-i.invariant.so_far
          ∙ ap (λ vs. cut_first tree.one.now tree.two.now terminal vs c.args.capacity.now) (take_all c.loop-i.i (way n order) (omega (arith, long n order c.requires.0)))
          ∙ both_ways_balance tree.one.now tree.two.now terminal c.requires.1.placed.seconds (take n order) c.args.capacity.now,
      c.loop-i.invariant.kept,
    )
