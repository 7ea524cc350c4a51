-- `inward`: at first no site is taken, and then one site more.
use Rattle.std.proofs.Common.{◌≡◌, ◌<◌, arith}
use Rattle.std.proofs.Math.Seq.{get_or-take}
use Rattle.whole_notes.specs.declared.Note.{Note}
use Rattle.whole_notes.specs.Notes.{blank}
use Rattle.whole_loops.proofs.Laws.{joined_ready, inward_none, inward_turn}
use Rattle.whole_loops.proofs.inward.Goals as goal

is_blank : (e : Note)
    → (e.least ≡ 0) × ((e.most ≡ 0) × ((e.low ≡ 0) × ((e.high ≡ 0) × ((e.top ≡ 0) × ((e.goal ≡ 0) × ((e.load ≡ 0) × ((e.owner ≡ 0) × (e.on ≡ 0))))))))
    → e ≡ blank
is_blank e (a, (b, (c, (d, (f, (g, (h, (j, k)))))))) =
    λ i. record { least = a i; most = b i; low = c i; high = d i; top = f i; goal = g i; load = h i; owner = j i; on = k i }

pub loop-v-init : goal.loop-v-init
loop-v-init c =
    let a = c.args in
    rw (is_blank c.default-notes.result c.default-notes.ensures) (inward_none a.order.now a.parent.now a.above.now a.ends.now)

pub joined-requires : goal.joined-requires
joined-requires c =
    let a = c.args in
    let i = c.loop-v.v-index in
    let more : i < a.n = omega arith in
    joined_ready c.requires a.ends.now i more c.loop-v.invariant (get_or-take a.n a.order.now i 0 more) _ c.from-p.result c.taken-done.result c.taken-done.ensures

pub loop-v-preserved : goal.loop-v-preserved
loop-v-preserved c =
    let a = c.args in
    let i = c.loop-v.v-index in
    let more : i < a.n = omega arith in
    inward_turn c.requires a.ends.now i more c.loop-v.invariant (get_or-take a.n a.order.now i 0 more) c.from-p.ensures c.from-in-loop-v.ensures c.from.ensures
    c.taken-done.result c.joined.result c.taken-done.ensures c.joined.ensures
