-- Refusals, and what is told of an outcome that may be one: the number of the cause and its line; success is number 0 and line 0.
-- Document 01, the table of causes and the lines below it.
use Rattle.std.specs.Prelude.{ℕ, Result, Ok, Err}
use Rattle.model.specs.declared.Refusal.{Refusal}

-- refused for the cause of number n, at line k
abbrev pub refused_as : {A : Type 0} → ℕ → ℕ → Result A Refusal
refused_as n k = Err (record { number = n; line = k })

-- the number and the line that are told
abbrev pub number : {A : Type 0} → Result A Refusal → ℕ
number (Ok x) = 0
number (Err r) = r.number

abbrev pub line_of : {A : Type 0} → Result A Refusal → ℕ
line_of (Ok x) = 0
line_of (Err r) = r.line
