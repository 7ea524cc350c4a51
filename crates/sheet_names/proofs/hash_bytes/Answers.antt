-- `hash_bytes`: each turn takes one byte, and after the last the value is the hash.
use Rattle.std.proofs.Common.{◌+◌, ◌*◌, mod-lt, sym, ◌∙◌, arith}
use Rattle.sheet_names.specs.TableLaws.{hash_step, hash-end}
use Rattle.sheet_names.proofs.hash_bytes.Goals as goal

pub loop-byte-preserved : goal.loop-byte-preserved
loop-byte-preserved c = record {
  below = mod-lt (c.loop-byte.value * 31 + c.from.result) (omega arith);
  so_far = rw c.from.ensures (c.loop-byte.invariant.so_far ∙ hash_step c.loop-byte.value c.args.name.now c.loop-byte.byte-index (omega arith));
}

pub returns : goal.returns
returns c = sym (c.loop-byte.invariant.so_far ∙ hash-end c.loop-byte.value c.args.name.now c.loop-byte.byte-index (omega arith))
