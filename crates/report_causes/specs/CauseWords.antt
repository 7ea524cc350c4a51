-- Where the fault of a refusal is, and what is wrong, in words.
-- Document 01, the table of causes, and 02, Card 1, in plain words; a further refusal is a further line of `cause`.
use Rattle.std.specs.Prelude.{List, ◌++◌, ℕ}
use Rattle.model.specs.Limits.{SIZE}
use Rattle.model.specs.Edition.{edition1, edition2}
use Rattle.lists.specs.Numbers.{pick}
use Rattle.model.specs.Text.{bytes}
use Rattle.text_writers.specs.Fields.{decimal}
use Rattle.text_commas.specs.Commas.{grouped}

-- the limits of both editions (02, Card 8)
unfoldable pub either : ℕ → ℕ → List ℕ
either one two = grouped one ++ (bytes " (edition 2: " ++ (grouped two ++ bytes ")"))

-- where the fault is: a line, or the sheet as a whole (01: line 0)
unfoldable pub place : ℕ → List ℕ
place l = pick l 0 (bytes "the sheet: ") (bytes "line " ++ (decimal l ++ bytes ": "))

-- what is wrong, by the number of the refusal
unfoldable pub cause : ℕ → List ℕ
cause n =
    pick n 1 (bytes "no bytes, or more than " ++ either edition1.bytes edition2.bytes)
    (pick n 2 (bytes "wrong heading, letter or line ending")
    (pick n 3 (bytes "size or reserve above " ++ grouped SIZE)
    (pick n 4 (bytes "more sites than " ++ either edition1.sites edition2.sites)
    (pick n 5 (bytes "name already given to a site")
    (pick n 6 (bytes "link to a name not given on a line above")
    (pick n 7 (bytes "link whose sites are already joined by links above, or are one site")
    (pick n 8 (bytes "fewer than two sites, or not all sites are joined")
    (pick n 9 (bytes "answer longer than the buffer or list for it")
    (pick n 10 (bytes "wrong number of fields")
    (pick n 11 (bytes "a name is not 1 to 12 letters or digits")
    (pick n 12 (bytes "a number is not written in decimal without a leading zero")
    (pick n 13 (bytes "reserve above the size")
    (pick n 17 (bytes "name of digits only")
    (pick n 18 (bytes "the two sheets do not share one link")
    (pick n 19 (bytes "low size above the high size")
    (bytes "a cause without words"))))))))))))))))
