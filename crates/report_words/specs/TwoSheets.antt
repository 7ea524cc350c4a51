-- The words of a refusal where two sheets are read: they tell which sheet is meant. Its line is that of `TwoTexts`, with the sheet in the place of the text.
-- Document 02, Card 10 (a refusal names its sheet, 1 or 2; 18 names 0).
use Rattle.std.specs.Prelude.{List, [], ◌∷◌, ◌++◌, ℕ}
use Rattle.lists.specs.Numbers.{pick}
use Rattle.model.specs.Text.{bytes}
use Rattle.text_writers.specs.Fields.{decimal}
use Rattle.report_causes.specs.CauseWords.{place, cause}

-- which sheet, and where in it: a line, or the sheet as a whole
unfoldable pub sheet_place : ℕ → ℕ → List ℕ
sheet_place x l = bytes "sheet " ++ pick l 0 ((decimal x ++ bytes ":") ++ bytes " ") ((decimal x ++ bytes ",") ++ (bytes " " ++ place l))

-- the whole line: what 18 means is said of both sheets
unfoldable pub words_of_sheets : ℕ → ℕ → ℕ → List ℕ
words_of_sheets x number l = pick x 0 (cause number ++ (10 ∷ [])) (sheet_place x l ++ (cause number ++ (10 ∷ [])))
