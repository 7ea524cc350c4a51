-- `put_three` meets its contract: the digits are a list of three bytes.
use Rattle.text_commas.specs.Commas.{three}
use Rattle.text_commas.proofs.put_three.Goals as goal

pub put_bytes-requires : goal.put_bytes-requires
unfolding three
put_bytes-requires c = c.requires

pub returns : goal.returns
unfolding three
returns c = c.put_bytes.ensures
