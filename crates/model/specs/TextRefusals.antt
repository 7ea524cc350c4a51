-- Refusals of one of two texts, and what is told of an outcome that may be one: the text (1, 2, or 0 for both together), the number of the cause and its line;
-- success is text 0, number 0 and line 0. Document 01 on a second text read with the sheet.
use Rattle.std.specs.Prelude.{ℕ, Result, Ok, Err}
use Rattle.model.specs.declared.Refusal.{Refusal}
use Rattle.model.specs.declared.TextRefusal.{TextRefusal}

-- text t refused for the cause of number n, at line k
abbrev pub refused_in : {A : Type 0} → ℕ → ℕ → ℕ → Result A TextRefusal
refused_in t n k = Err (record { text = t; number = n; line = k })

-- a refusal, told as that of text t
abbrev pub in_text : Refusal → ℕ → TextRefusal
in_text r t = record { text = t; number = r.number; line = r.line }

-- the text, the number and the line that are told
abbrev pub text_of : {A : Type 0} → Result A TextRefusal → ℕ
text_of (Ok x) = 0
text_of (Err r) = r.text

abbrev pub number : {A : Type 0} → Result A TextRefusal → ℕ
number (Ok x) = 0
number (Err r) = r.number

abbrev pub line_of : {A : Type 0} → Result A TextRefusal → ℕ
line_of (Ok x) = 0
line_of (Err r) = r.line
