-- `all_links` meets its contract: each turn brings the links from one site more.
use Rattle.std.proofs.Common.{◌≡◌, ◌-◌, ◌++◌, ap, ◌∙◌, arith}
use Rattle.book_numbers.specs.Held.{fan_of}
use Rattle.book_numbers.specs.Laws.{first_fans, fans_none, fans_more, fans_all, held_none}
use Rattle.book_numbers.proofs.all_links.Goals as goal

pub loop-a-init : goal.loop-a-init
loop-a-init c = let e = c.none-all.ensures in (held_none c.none-all.result e.0 ∙ fans_none _, omega (arith, e.0), e.1)

pub loop-a-preserved : goal.loop-a-preserved
loop-a-preserved c =
    let top = c.loop-a in
    let f = c.fan-all.ensures in (
      f.0 ∙ ap (λ l. l ++ fan_of top.a (c.args.n - top.a)) top.invariant.0 ∙ fans_more c.args.n top.a (omega arith),
      omega (arith, f.1, top.invariant.1),
      f.2,
    )

pub returns : goal.returns
returns c =
    let i = c.loop-a.invariant in
    let e : c.loop-a.a - 1 ≡ c.args.n = omega arith in
    (i.0 ∙ ap (first_fans c.args.n) e ∙ fans_all c.args.n, omega arith, i.2)
