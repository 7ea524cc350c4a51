-- `put_halves` meets its contract: the two blocks are all of the part, and the byte stands behind them.
use Rattle.std.proofs.Common.{◌≡◌, refl, sym, ◌∙◌, List, ℕ, ◌+◌, ◌-◌, ◌≤◌, length, take, drop, append_assoc, length-take, length-drop, arith}
use borrow.Rule.Slice.PartMut.{put_mid}
use Rattle.std.proofs.lemmas.List.{drop-drop}
use Rattle.std.proofs.lemmas.List.Edits.{sets, sets-eq}
use Rattle.std.proofs.Math.Seq.{length-sets}
use Rattle.text_writers.specs.Writing.{halved}
use Rattle.text_writers.proofs.put_halves.Goals as goal

-- bytes copied to a place are written there
copied : (l v : List ℕ) (at k : ℕ) → length v ≡ k → at + k ≤ length l → put_mid at k l v ≡ sets l at v
copied l v at k e h =
    let fit : at + length v ≤ length l = omega arith in
    let rest = drop (at + length v) l in
    rw (← e, drop-drop (length v) at l) (sym (sets-eq v l at fit ∙ append_assoc (take at l) v rest))

pub returns : goal.returns
returns g c =
    let l = c.args.buf.now in
    let p = c.args.part.now in
    let at = c.args.at in
    let n = g.row.N in
    let low = take n p in
    let high = drop (length p - n) p in
    let front = sets l at low in
    let back = at + length p - n in
    let first = rw c.unwrap.ensures at c.first_chunk.ensures.cases in
    let last = rw c.unwrap-2.ensures at c.last_chunk.ensures.cases in
    let e : c.copy_from_slice.new.self ≡ low = c.copy_from_slice.ensures.after ∙ first.same in
    let f : c.copy_from_slice-2.new.self ≡ high = c.copy_from_slice-2.ensures.after ∙ last.1.same in
    let one = copied l low at (at + n - at) (omega (arith, length-take n p)) (omega arith) in
    let two = copied front high back (at + length p - back) (omega (arith, length-drop (length p - n) p)) (omega (arith, length-sets l at low)) in
    rw (e, f, one, two) (halved {m = front} {n = sets front back high} p at n c.args.stop (omega arith) (omega arith) refl refl)
