-- What a line of a network sheet is: the heading of an edition, and below it a site, a link or a fault, by its fields held against the forms.
-- Document 01, "The network sheet"; 02, Card 5 (the reserve of a link), Card 7 (the mark of a site), Card 8 (editions), Card 9 (no bare numbers as names),
-- Card 11 (the low and the high size of a link).
use Rattle.std.specs.Prelude.{Bool, cond, ◌&&◌, List, [], ◌∷◌, ◌⊎◌, ◌≡◌, ℕ, ◌+◌, eqb, length, Ok, Result, Err}
use Rattle.sheet_kinds.specs.declared.Line.{Line}
use Rattle.sheet_kinds.specs.declared.Line.TheVariants.{Site, Link}
use Rattle.model.specs.Text.{bytes}
use Rattle.model.specs.declared.Edition.{Edition}
use Rattle.model.specs.declared.Sizing.{Sizing}
use Rattle.model.specs.declared.Sizing.TheVariants.{Reserved, Low, High}
use Rattle.text_grammar.specs.declared.Form.{Form}
use Rattle.text_grammar.specs.Grammar.{Check}
unfoldable pub use Rattle.text_fields.specs.Fields.{same, push, fields, all, is_name, is_number, value_from}
pub use Rattle.text_fields.specs.Fields.{field, is_digit, digits_alone, is_letter_or_digit, value}
unfoldable pub use Rattle.text_grammar.specs.Grammar.{checked_fields, checked, fault_of, size_of}
unfoldable pub use Rattle.sheet_sizes.specs.Sizes.{capacity_of}
pub use Rattle.sheet_sizes.specs.Sizes.{taken, paired}

-- the word of a heading: `ranges` where link lines give a low and a high size (02, Card 11)
abbrev pub heading_word : Sizing → List ℕ
heading_word Reserved = bytes "network"
heading_word Low = bytes "ranges"
heading_word High = bytes "ranges"

-- the heading of an edition: its word, tab, the edition's digit
unfoldable pub is_heading : Edition → List (List ℕ) → Bool
is_heading ed fs = eqb (length fs) 2 && same (field fs 0) (heading_word ed.sizing) && same (field fs 1) (ed.digit ∷ [])

-- the letter of a site, tab, name
abbrev pub site_form : ℕ → Form
site_form letter = record { letter = letter; names = 1; least = 0; most = 0 }

-- the letter is `N`; and `T` of a marked site (02, Card 7)
abbrev pub plain_form : Form
plain_form = site_form 78

abbrev pub marked_form : Form
marked_form = site_form 84

-- the least numbers of a link line
abbrev pub least_numbers : Sizing → ℕ
least_numbers Reserved = 1
least_numbers Low = 2
least_numbers High = 2

-- `L`, tab, name, tab, name, tab, size; and, where channels are held back, tab, reserve (02, Card 5). On a range sheet (02, Card 11): low size, tab, high size
abbrev pub link_form : Sizing → Form
link_form z = record { letter = 76; names = 2; least = least_numbers z; most = 2 }

-- the fields have the form of a site, marked or not, and of a link
abbrev pub IsSite : List (List ℕ) → Type 0
IsSite fs = (checked plain_form fs ≡ Ok tt) ⊎ (checked marked_form fs ≡ Ok tt)

abbrev pub IsLink : Sizing → List (List ℕ) → Type 0
IsLink z fs = checked (link_form z) fs ≡ Ok tt

-- a line that is formed, or its fault
unfoldable pub judged : {A : Type 0} → Check → Result A ℕ → Result A ℕ
judged c line = cond (eqb (fault_of c) 0) line (Err (fault_of c))

-- a line as a site with a letter and a mark
unfoldable pub site_line : ℕ → ℕ → List (List ℕ) → Result Line ℕ
site_line letter mark fs = judged (checked (site_form letter) fs) (Ok (Site 2 (2 + length (field fs 1)) mark))

-- the mark of a site line (02, Card 7: letter `T`): 1 marked, 0 not
unfoldable pub mark : List (List ℕ) → ℕ
mark fs = cond (same (field fs 0) (bytes "T")) 1 0

-- the size and the reserve of a link line; a line without a fifth field has an empty one here, of value 0 (02, Card 5: without it the reserve is 0)
abbrev pub size : List (List ℕ) → ℕ
size fs = value (field fs 3)

abbrev pub reserve : List (List ℕ) → ℕ
reserve fs = value (field fs 4)

-- the low and the high size of a link line of a range sheet (02, Card 11)
abbrev pub low : List (List ℕ) → ℕ
low fs = value (field fs 3)

abbrev pub high : List (List ℕ) → ℕ
high fs = value (field fs 4)

-- the capacity of a link line
abbrev pub capacity : Sizing → List (List ℕ) → ℕ
capacity z fs = taken z (value (field fs 3)) (value (field fs 4))

-- the line of a link whose names have a and b bytes, by its capacity
abbrev pub link_of : ℕ → ℕ → Result ℕ ℕ → Result Line ℕ
link_of a b (Ok c) = Ok (Link 2 (2 + a) (3 + a) (3 + a + b) c)
link_of a b (Err n) = Err n

-- a line of the form of a link, with its capacity, or its fault
unfoldable pub sized_link : Edition → List (List ℕ) → Result Line ℕ
sized_link ed fs =
    link_of (length (field fs 1)) (length (field fs 2)) (capacity_of ed.sizing (size_of ed.size (field fs 3)) (size_of ed.size (field fs 4)))

-- a line as a link
unfoldable pub link_line : Edition → List (List ℕ) → Result Line ℕ
link_line ed fs = judged (checked (link_form ed.sizing) fs) (sized_link ed fs)

-- what a line below the heading is, by its fields: a link where the first is `L`, a marked site where it is `T`, else a site
unfoldable pub kind_of : Edition → List (List ℕ) → Result Line ℕ
kind_of ed fs =
    cond (same (field fs 0) (bytes "L")) (link_line ed fs)
    (cond (same (field fs 0) (bytes "T")) (site_line 84 1 fs) (site_line 78 0 fs))

-- what a line of a sheet of an edition is, below the heading (01: a site, a link or a fault)
unfoldable pub kind : Edition → List ℕ → Result Line ℕ
kind ed l = kind_of ed (fields l)
