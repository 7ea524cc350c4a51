-- A number and a name fit the buffer.
use Rattle.std.proofs.Common.{[], ◌∷◌, arith, sym, length-append, length-take-le}
use Rattle.order.proofs.Lines.{number_is_short}
use Rattle.order.proofs.write_site.Goals as goal

pub put_number-next-requires : goal.put_number-next-requires
put_number-next-requires g c = omega (arith, number_is_short c.args.site (omega arith))

pub put_bytes-length-requires : goal.put_bytes-length-requires
put_bytes-length-requires g c =
    omega (arith, c.requires, c.put_number-next.ensures.next, number_is_short c.args.site (omega arith), length-append c.args.name.now (10 ∷ []))

pub slice_bounds-text-end : goal.slice_bounds-text-end
slice_bounds-text-end g c =
    omega (arith, c.requires, c.put_number-next.ensures.next, number_is_short c.args.site (omega arith), c.put_bytes-length.ensures.next, length-append c.args.name.now (10 ∷ []))

pub slice_bounds-write-end : goal.slice_bounds-write-end
slice_bounds-write-end g c =
    sym (length-take-le _ _
    (omega (arith, c.requires, c.put_number-next.ensures.next, number_is_short c.args.site (omega arith), c.put_bytes-length.ensures.next, length-append c.args.name.now (10 ∷ []))))
