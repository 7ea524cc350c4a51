-- `has_ten` meets its contract: one byte more, by its test.
use Rattle.std.proofs.Common.{◌≡◌, ◌+◌, ◌-◌, ◌<◌, take, drop, get_or, length-take, get_or-take, get_or-drop, ◌∙◌, arith}
use Rattle.text_lines.specs.LineLaws.{no_ten_more}
use Rattle.text_lines.proofs.has_ten.Goals as goal

pub loop-b-preserved : goal.loop-b-preserved
loop-b-preserved c =
    let s = c.args.sheet.now in
    let at = c.args.at in
    let i = c.loop-b.b-index in
    let below : i < at + 8 - at = omega (arith, length-take (at + 8 - at) (drop at s)) in
    let byte : get_or (take (at + 8 - at) (drop at s)) i 0 ≡ get_or s (at + i) 0 = get_or-take (at + 8 - at) (drop at s) i 0 below ∙ get_or-drop at s i 0 in
    rw byte (no_ten_more s at i c.loop-b.any c.loop-b.invariant)
