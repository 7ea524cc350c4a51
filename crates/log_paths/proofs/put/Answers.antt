-- `put`: one bit of one word is set.
use Rattle.std.proofs.Common.{arith}
use Rattle.log_paths.proofs.Words.{put-row}
use Rattle.log_paths.proofs.put.Goals as goal

pub returns : goal.returns
returns c =
    let a = c.args in
    let s = c.requires in
    rw c.single_word.ensures (put-row a.rows.now a.site a.j (omega arith) s.2 s.3)
