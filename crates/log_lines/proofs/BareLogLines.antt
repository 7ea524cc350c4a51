-- Lines of a log from before Card 9: a name of digits alone was a name like any other. Document 02, Card 9 ("and in logs").
use Rattle.std.specs.Prelude.{List, ◌⊎◌, ◌≡◌, ℕ}
use Rattle.std.proofs.Common.{inl, inr, ⊎_elim, ap}
use Rattle.model.specs.Text.{bytes}
use Rattle.text_fields.specs.Fields.{same, fields, field}
use Rattle.text_grammar.specs.Grammar.{BareName}
use Rattle.sheet_kinds.specs.BareNames.{checked_as_before}
use Rattle.log_lines.specs.LogLines.{log_form, judged, booking, line_as, log_line}
use Rattle.log_lines.specs.FaultyLogLines.{Broken}
use Rattle.log_lines.specs.BareLogLines.{log_line_bare}

-- a line is what it was, or a name of it is of digits alone
pub a_log_line_is_as_before_or_bare : (l : List ℕ) → (log_line_bare l ≡ log_line l) ⊎ Broken BareName l
unfolding log_line_bare log_line line_as
a_log_line_is_as_before_or_bare l =
    let opens = same (field (fields l) 0) (bytes "+") in
    ⊎_elim (λ e. inl (ap (λ c. judged c (booking opens (fields l))) e)) (λ h. inr (record { opens = opens; rule = h }))
    (checked_as_before (log_form opens) (fields l))
