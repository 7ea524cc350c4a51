-- The capacity that the two numbers of a link line give, or the number of its refusal.
-- Document 02, Card 5 (the reserve of a link), Card 11 (the low and the high size of a link).
use Rattle.std.specs.Prelude.{cond, ℕ, ◌-◌, leb, Option, Some, None, Result, Ok, Err}
use Rattle.model.specs.declared.Sizing.{Sizing}
use Rattle.model.specs.declared.Sizing.TheVariants.{Reserved, Low, High}

-- the capacity that two numbers give: the usable size (02, Card 5: size minus reserve); on a range sheet the low, or the high size
abbrev pub taken : Sizing → ℕ → ℕ → ℕ
taken Reserved a b = a - b
taken Low a b = a
taken High a b = b

-- the capacity that two numbers within the limit give: 13 where the reserve is above the size; 19 where the low size is above the high one
abbrev pub paired : Sizing → ℕ → ℕ → Result ℕ ℕ
paired Reserved a b = cond (leb b a) (Ok (a - b)) (Err 13)
paired Low a b = cond (leb a b) (Ok a) (Err 19)
paired High a b = cond (leb a b) (Ok b) (Err 19)

-- the capacity that two numbers give, each within the limit or above it: 3 where either is above, then 13 or 19
unfoldable pub capacity_of : Sizing → Option ℕ → Option ℕ → Result ℕ ℕ
capacity_of z None b = Err 3
capacity_of z (Some a) None = Err 3
capacity_of z (Some a) (Some b) = paired z a b
