-- `hash_bytes`: the hash is that of the bytes from the place reached on, after those that make the value.
use Rattle.std.proofs.Common.{◌≡◌, ◌<◌, drop}
use Rattle.text_fields.specs.Fields.{caseless}
use Rattle.sheet_names.specs.Names.{HASHES, hash_from}
use Rattle.sheet_names.proofs.hash_bytes.Given as goal

abbrev pub invariant-loop-byte : goal.invariant-loop-byte
invariant-loop-byte l = record {
  below : l.value < HASHES;
  so_far : hash_from 0 (caseless l.name) ≡ hash_from l.value (drop l.byte-index (caseless l.name));
}
