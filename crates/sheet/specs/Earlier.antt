-- Reading by other kinds of lines and another look-up of names: what the sentences of document 02 about what was before are said with (Cards 1, 4, 5, 7 and
-- 9).
-- Today's reading is the one by `kind` and `lookup`.
use Rattle.std.specs.Prelude.{Option, Some, None, Err, cond, ◌&&◌, List, [], ◌∷◌, ◌≡◌, refl, ℕ, zero, suc, ◌+◌, eqb, leb, ltb, length, drop, Result, Ok}
use Rattle.model.specs.declared.Edition.{Edition}
use Rattle.text_fields.specs.Fields.{same}
use Rattle.text_lines.specs.Lines.{line_length, line_at, after_line, has_line}
pub use Rattle.sheet_kinds.specs.LineKinds.{kind}
pub use Rattle.sheet_kinds.specs.BareNames.{kind_bare}
unfoldable pub use Rattle.sheet_kinds.specs.Numbering.{kind_by, fault_before}
pub use Rattle.sheet_kinds.specs.Unmarked.{kind_unmarked}
pub use Rattle.sheet_kinds.specs.Unreserved.{kind_unreserved}
use Rattle.sheet_kinds.specs.declared.Line.{Line}
use Rattle.sheet_kinds.specs.declared.Line.TheVariants as line
use Rattle.sheet.specs.Sheet.{Stepped, refusal, Network, empty, Read, refused, accepted, site_step, link_step, heading_step, record_step, added, and_then, finish, part, lookup}

-- what a line of a sheet of an edition is
abbrev pub Kinds : Type 0
Kinds = Edition → List ℕ → Result Line ℕ

-- the kinds from before Card 1, by which every fault of form is 2
abbrev pub kind_before : Kinds
kind_before = kind_by fault_before

-- a look-up of a name among the names of a sheet
abbrev pub Lookup : Type 0
Lookup = List ℕ → List (ℕ × ℕ) → List ℕ → Option ℕ

-- the look-up from before Card 4, by the bytes of a name: the number of the first site whose name has them
unfoldable pub lookup_bytes_from : List ℕ → List (ℕ × ℕ) → ℕ → List ℕ → Option ℕ
lookup_bytes_from s [] k f = None
lookup_bytes_from s (r ∷ rs) k f = cond (same (part s r) f) (Some k) (lookup_bytes_from s rs (suc k) f)

abbrev pub lookup_bytes : Lookup
lookup_bytes s names f = lookup_bytes_from s names 1 f

-- what a later line adds, by a look-up
module _ (find : Lookup) (ed : Edition) (s : List ℕ) (net : Network) (k at : ℕ) where
  unfoldable pub record_by : Result Line ℕ → Stepped
  record_by (Ok (line.Site a e m)) = site_step ed k (length net.names) (at + a, at + e) m (find s net.names (part s (at + a, at + e)))
  record_by (Ok (line.Link a e b f size)) =
      link_step k net.links size (find s net.names (part s (at + a, at + e))) (find s net.names (part s (at + b, at + f)))
  record_by (Err n) = Err (refusal n k)

pub record_by_the_look_up : (ed : Edition) (s : List ℕ) (net : Network) (k at : ℕ) (w : Result Line ℕ)
    → record_by lookup ed s net k at w ≡ record_step ed s net k at w
unfolding record_by record_step
record_by_the_look_up ed s net k at (Ok (line.Site a e m)) = refl
record_by_the_look_up ed s net k at (Ok (line.Link a e b f size)) = refl
record_by_the_look_up ed s net k at (Err n) = refl

-- reading by kinds of lines and a look-up
module _ (kinds : Kinds) (find : Lookup) (ed : Edition) (s : List ℕ) where
  unfoldable pub step_by : Network → ℕ → ℕ → Stepped
  step_by net k at =
      let line = line_at s at in
      cond (ltb (at + line_length (drop at s)) (length s))
      (cond (eqb k 1) (heading_step ed line) (record_by find ed s net k at (kinds ed line)))
      (Err (refusal 2 k))

  unfoldable pub read_lines_by : ℕ → ℕ → ℕ → Network → Read
  read_lines_by zero k at net = accepted net
  read_lines_by (suc fuel) k at net =
      cond (has_line s at)
      (and_then (added net (step_by net k at)) (λ next. read_lines_by fuel (suc k) (after_line s at) next))
      (accepted net)

  unfoldable pub read_as_by : Read
  read_as_by = cond (leb 1 (length s) && leb (length s) ed.bytes) (and_then (read_lines_by (length s) 1 0 empty) finish) (refused 1 0)
