-- `put_entry` meets its contract: the sizes are those at place s.
use mathlib.Core.Path.{◌≡◌, refl, sym, ap, ◌∙◌}
use Prim.Native.Nat.{◌-◌, ◌≤◌}
use native.Mathlib.Omega.{arith}
use lib.ListN.{length}
use lib.Seq.{length-take-le}
use Rattle.text_writers.specs.Writing.{same_size}
use Rattle.tree.specs.Offer.{links}
use Rattle.theory_book.specs.Numbered.{word}
use Rattle.book_lines.specs.Written.{line_if}
use Rattle.book_lines.specs.Laws.{few_by_number}
use Rattle.book_lines.proofs.put_entry.Statement.{statement}
use Rattle.book_lines.proofs.put_entry.Tie as tie

-- there are as many sizes as links
enough : (c : tie.After-sizes-sizes) → length c.before.before.before.before.args.one.now ≤ length c.sizes-sizes.result
enough c = let J = c.before.before.before.before.requires.1 in omega (arith, J.most, J.firsts, c.sizes-sizes.ensures.1)

put-sized-requires : tie.Need-put_sized-requires
put-sized-requires c κs =
    let s = c.before.before.before.before.before.before in
    let made = c.before.before.sizes-sizes in
    (s.requires.0, few_by_number s.requires.1 (length s.args.one.now) s.args.s _ refl made.ensures.0)

returns : tie.Need-returns
returns c =
    let s = c.before.before.before.before.before.before.before.before.before in
    let put = c.before.before.put_sized.ensures in
    let made = c.before.before.before.before.before.sizes-sizes in
    let ls = links s.args.one.now s.args.two.now in
    let number : length s.args.one.now ≡ s.args.n - 1 = omega (arith, s.requires.1.firsts) in
    let same = ap (line_if s.args.n ls) (made.ensures.0 ∙ ap (λ k. word 3 k s.args.s) number) in
    record { wrote = rw same at put.wrote; short = put.short }

pub put_entry_spec : {M : Type 1} → statement M
put_entry_spec =
    tie.close
    (tie.spec
    (λ c κs. let J = c.before.before.before.requires.1 in omega (arith, J.most, J.firsts))
    (λ c. enough c.before)
    (λ c. let made = c.before.before in
    sym (length-take-le (length made.before.before.before.before.args.one.now) made.sizes-sizes.result (enough made)))
    put-sized-requires
    (λ c. same_size c.before.before.put_sized.ensures.wrote)
    returns)
