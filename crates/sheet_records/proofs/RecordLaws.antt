-- Names and records that are the same, turned round and chained.
use Rattle.std.specs.Prelude.{List, ◌≡◌, ℕ}
use Rattle.std.proofs.Common.{inl, inr, sym, ◌∙◌}
use Rattle.text_records.specs.Records.{Record}
use Rattle.sheet_kinds.specs.LineKinds.{field, mark}
use Rattle.sheet_records.specs.SameRecords.{SameNames, SameRecord, same-site, same-link}
use Rattle.sheet_records.specs.RecordLaws.{a_site_is_no_link}

pub names_turned : (a b c d : List ℕ) → SameNames a b c d → SameNames c d a b
names_turned a b c d (inl e) = inl (sym e.0, sym e.1)
names_turned a b c d (inr e) = inr (sym e.1, sym e.0)

pub names_chained : (a b c d x y : List ℕ) → SameNames a b c d → SameNames c d x y → SameNames a b x y
names_chained a b c d x y (inl e) (inl g) = inl (e.0 ∙ g.0, e.1 ∙ g.1)
names_chained a b c d x y (inl e) (inr g) = inr (e.0 ∙ g.0, e.1 ∙ g.1)
names_chained a b c d x y (inr e) (inl g) = inr (e.0 ∙ g.1, e.1 ∙ g.0)
names_chained a b c d x y (inr e) (inr g) = inl (e.0 ∙ g.1, e.1 ∙ g.0)

-- the same letter is the same mark
pub same-mark : (r q : Record) → field r 0 ≡ field q 0 → mark r ≡ mark q
unfolding mark
same-mark r q e = rw e

pub record_turned : (r q : Record) → SameRecord r q → SameRecord q r
record_turned r q (same-site a b letter name) = same-site b a (sym letter) (sym name)
record_turned r q (same-link a b names size reserve) = same-link b a (names_turned _ _ _ _ names) (sym size) (sym reserve)

pub record_chained : (r q p : Record) → SameRecord r q → SameRecord q p → SameRecord r p
record_chained r q p (same-site a b letter name) (same-site c d letter' name') = same-site a d (letter ∙ letter') (name ∙ name')
record_chained r q p (same-site a b letter name) (same-link c d names size reserve) = absurd (a_site_is_no_link q b c)
record_chained r q p (same-link a b names size reserve) (same-site c d letter name) = absurd (a_site_is_no_link q c b)
record_chained r q p (same-link a b names size reserve) (same-link c d names' size' reserve') =
    same-link a d (names_chained _ _ _ _ _ _ names names') (size ∙ size') (reserve ∙ reserve')
