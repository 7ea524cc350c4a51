-- `hash`: there are fewer than eight bytes, or the last eight are hashed.
use Rattle.std.proofs.Common.{◌≡◌, ◌%◌, ◌<◌, List, ℕ}
use borrow.Author.Tests.{lt-ltb, le-ltb}
use Rattle.sheet_names.specs.Names.{HASHES, hash}
use Rattle.sheet_names.specs.TableLaws.{hash-below}
use Rattle.sheet_names.proofs.hash.Goals as goal

below : {h : ℕ} (f : List ℕ) → h ≡ hash f → h < HASHES
below f e = rw e (hash-below f)

pub returns-then-name-lt8 : goal.returns-then-name-lt8
unfolding hash
returns-then-name-lt8 c =
    let value : c.hash_bytes.result ≡ hash c.args.name.now = rw (lt-ltb _ _ c.if-name-lt8.true) c.hash_bytes.ensures in
    record { value = value; below = below c.args.name.now value }

pub returns : goal.returns
unfolding hash
returns c =
    let value : c.last_word.result % 1531 ≡ hash c.args.name.now = rw (le-ltb _ _ c.if-name-lt8.false, c.last_word.ensures) in
    record { value = value; below = below c.args.name.now value }
