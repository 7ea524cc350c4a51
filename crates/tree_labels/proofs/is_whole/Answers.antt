-- `is_whole` meets its contract: the test of the places decides.
use Rattle.std.proofs.Common.{rules}
use Rattle.std.proofs.Math.Path.{refl}
use Rattle.std.proofs.lemmas.Bool.{le-leb, lt-leb, le-ltb}
use Rattle.tree_labels.specs.Labels.{whole}
use Rattle.tree_labels.specs.LabelPlaces.{all_tested}
use Rattle.tree_labels.proofs.is_whole.Goals as goal
use Rattle.tree_labels.proofs.is_whole.Goals.{then-sites-lt2-via-then-sites-lt2, then-sites-lt2-via-else-sites-lt2+then-labels-sites}

pub returns-then-sites-lt2 : goal.returns-then-sites-lt2
unfolding whole
returns-then-sites-lt2 c = elim c.then-sites-lt2.branch [
  | then-sites-lt2-via-then-sites-lt2 w ↦ rw (lt-leb _ _ w.if-sites-lt2.true) refl
  | then-sites-lt2-via-else-sites-lt2+then-labels-sites w ↦ rw (le-leb _ _ w.if-sites-lt2.false, le-ltb _ _ w.if-labels-sites.true) refl
]

pub returns : goal.returns
returns c = all_tested c.args.labels.now c.args.sites c.all.result c.if-sites-lt2.false c.if-labels-sites.false (search rules)
