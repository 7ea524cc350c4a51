-- `last_word` meets its contract: there are eight bytes, or not.
use Rattle.std.proofs.Common.{◌≡◌, ◌-◌, ◌≤◌, ◌<◌, drop, length, ap, ◌∙◌, arith, w64}
use Rattle.std.specs.Int.{from_le_bytes}
use borrow.Author.Tests.{lt-ltb, le-ltb}
use Rattle.text_fields.specs.Fields.{last_word, word}
use Rattle.text_fields.specs.Capitals.{length-caseless}
use Rattle.text_fields.specs.Words.{word-without, eight_bytes}
use Rattle.text_fields.proofs.last_word.Goals as goal

pub returns-in-Some : goal.returns-in-Some
unfolding last_word
returns-in-Some c =
    let s = c.args.s.now in
    let at = length s - 8 in
    let enough : 8 ≤ length s = omega (arith, c.in-Some.ensures) in
    let bytes : c.in-Some.last.now ≡ drop at s = c.in-Some.ensures.cases.1.same in
    let read : c.from_le_bytes.result ≡ word s at = c.from_le_bytes.ensures ∙ ap (from_le_bytes w64) bytes ∙ eight_bytes s at in
    rw (length-caseless s, le-ltb _ _ enough, read) (word-without s at (λ k. omega (arith, c.type_inv.s k)))

pub returns-in-None : goal.returns-in-None
unfolding last_word
returns-in-None c =
    let short : length c.args.s.now < 8 = omega (arith, c.in-None.ensures) in
    rw (length-caseless c.args.s.now, lt-ltb _ _ short)
