-- What Card 8 changed in reading (document 02): a sheet that is not headed as edition 2 is read as it was; one that is was refused with 2 at line 1, or with 1
-- if longer than 16,384 bytes. A planner from before the card knows edition 1 alone. By the heading, which has one digit.
use Rattle.std.specs.Prelude.{true, ◌≡◌, ℕ}
use mathlib.Core.List.{List, [], ◌∷◌}
use Rattle.model.specs.Edition.{edition1}
use Rattle.model.specs.declared.Edition.{Edition}
use Rattle.text_lines.specs.Lines.{line_at}
use Rattle.sheet_kinds.specs.LineKinds.{fields, is_heading}

-- line 1 is the heading of an edition
abbrev pub Headed : Edition → List ℕ → Type 0
Headed ed s = is_heading ed (fields (line_at s 0)) ≡ true

-- the editions that a planner from before Card 8 knows
abbrev pub editions_before : List Edition
editions_before = edition1 ∷ []

-- ---- the edition of a sheet

-- ---- limits

-- ---- before the card
