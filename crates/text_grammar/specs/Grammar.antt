-- The grammar of a line: its fields as places, and the first rule of a form that they break.
-- Document 01, "The network sheet": a letter, then names, then numbers. Cards add forms, and numbers for the faults (02, Card 9: no bare numbers as names).
use Rattle.std.specs.Prelude.{Bool, true, false, cond, not, ◌&&◌, List, [], ◌∷◌, ◌⊎◌, ◌≡◌, ℕ, ◌+◌, ◌≤◌, ◌<◌, leb, length, replicate, Result, Ok, Err, Option, Some, None}
use Rattle.std.proofs.lemmas.List.Edits.{sets}
use Rattle.std.proofs.Math.Seq.{slice}
use Rattle.text_fields.specs.Fields.{same, fields, field, all, digits_alone, is_name, is_number, value}
use Rattle.text_grammar.specs.declared.Fields.{Fields}
use Rattle.text_grammar.specs.declared.Form.{Form}
use Rattle.text_grammar.specs.declared.Broken.{Broken}
use Rattle.text_grammar.specs.declared.Broken.TheVariants.{Letter, Count, Name, Digits, Number}
use Rattle.text_grammar.specs.declared.Rule.{Rule}
use Rattle.text_grammar.specs.declared.Rule.TheVariants as rule

-- ---- fields as places

-- the most fields that a form has
abbrev pub FIELDS : ℕ
FIELDS = 5

-- where fields end, parted by one byte, the first of them starting at a place
unfoldable pub ends : ℕ → List (List ℕ) → List ℕ
ends at [] = []
ends at (f ∷ fs) = (at + length f) ∷ ends (at + length f + 1) fs

-- the fields of a line: where the first FIELDS of them end, and how many there are
unfoldable pub split : List ℕ → Fields
split l = record { end = sets (replicate FIELDS 0) 0 (ends 0 (fields l)); count = length (fields l) }

-- ---- forms

-- a form has no more fields than are held as places
pub record Fits (form : Form) : Type 0 where
  pub least : 1 + form.names + form.least ≤ FIELDS
  pub most : 1 + form.names + form.most ≤ FIELDS

-- what a line is found to be: formed, or the first rule that it breaks
abbrev pub Check : Type 0
Check = Result (Unit {0}) Broken

-- not of digits alone
abbrev pub is_lettered : List ℕ → Bool
is_lettered f = not (digits_alone f)

-- what a field that keeps a rule is
abbrev pub keeps : Rule → List ℕ → Bool
keeps rule.Name = is_name
keeps rule.Lettered = is_lettered
keeps rule.Number = is_number

-- the fields after the letter: fields 1 to n are names; none of them is of digits alone; the others are numbers
unfoldable pub checked_fields : ℕ → List (List ℕ) → Check
checked_fields n fs =
    cond (all is_name (slice 1 (1 + n) fs))
    (cond (all is_lettered (slice 1 (1 + n) fs))
    (cond (all is_number (slice (1 + n) (length fs) fs)) (Ok tt) (Err Number)) (Err Digits)) (Err Name)

-- the first rule that fields break: the first is the letter alone; there are neither too few nor too many; names are names; none of them is of digits alone;
-- numbers are numbers
unfoldable pub checked : Form → List (List ℕ) → Check
checked form fs =
    cond (same (field fs 0) (form.letter ∷ []))
    (cond (leb (1 + form.names + form.least) (length fs) && leb (length fs) (1 + form.names + form.most))
    (checked_fields form.names fs)
    (Err Count)) (Err Letter)

-- the number of the fault (Card 1: 2 no known letter, 10 wrong number of fields, 11 bad name, 12 badly written number; Card 9: 17 name of digits only)
abbrev pub number_of : Broken → ℕ
number_of Letter = 2
number_of Count = 10
number_of Name = 11
number_of Digits = 17
number_of Number = 12

-- and 0 for a line that is formed
unfoldable pub fault_of : Check → ℕ
fault_of (Ok u) = 0
fault_of (Err b) = number_of b

-- ---- the rules of a form, in their order: what holds of fields that break one of them

-- the letter is that of the form, and the number of fields is not
pub record WrongCount (form : Form) (fs : List (List ℕ)) : Type 0 where
  pub letter : field fs 0 ≡ form.letter ∷ []
  pub count : (length fs < 1 + form.names + form.least) ⊎ (1 + form.names + form.most < length fs)

-- the letter and the number of fields are those of the form
pub record RightCount (form : Form) (fs : List (List ℕ)) : Type 0 where
  pub letter : field fs 0 ≡ form.letter ∷ []
  pub enough : 1 + form.names + form.least ≤ length fs
  pub no_more : length fs ≤ 1 + form.names + form.most

-- the letter and the number of fields are right, and some name is no name
pub record BadName (form : Form) (fs : List (List ℕ)) : Type 0 where
  pub counted : RightCount form fs
  pub at : ℕ
  pub after_the_letter : 1 ≤ at
  pub among_the_names : at ≤ form.names
  pub bad : is_name (field fs at) ≡ false

-- the letter and the number of fields are right, names are names, and some one of them is of digits alone (02, Card 9)
pub record BareName (form : Form) (fs : List (List ℕ)) : Type 0 where
  pub counted : RightCount form fs
  pub names_are_names : (k : ℕ) → 1 ≤ k → k ≤ form.names → is_name (field fs k) ≡ true
  pub at : ℕ
  pub after_the_letter : 1 ≤ at
  pub among_the_names : at ≤ form.names
  pub bare : digits_alone (field fs at) ≡ true

-- the letter, the number of fields and the names are right, no name is of digits alone, and some number is no number
pub record BadNumber (form : Form) (fs : List (List ℕ)) : Type 0 where
  pub counted : RightCount form fs
  pub names_are_names : (k : ℕ) → 1 ≤ k → k ≤ form.names → is_name (field fs k) ≡ true
  pub none_is_bare : (k : ℕ) → 1 ≤ k → k ≤ form.names → digits_alone (field fs k) ≡ false
  pub at : ℕ
  pub after_the_names : form.names < at
  pub within : at < length fs
  pub bad : is_number (field fs at) ≡ false

-- ---- numbers within a limit

-- the value of a string of digits, if it is at most `most`
unfoldable pub size_of : ℕ → List ℕ → Option ℕ
size_of most s = cond (leb (value s) most) (Some (value s)) None
