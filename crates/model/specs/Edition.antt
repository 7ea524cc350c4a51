-- The editions of the sheet, each with its limits. Document 01, "The network sheet": the limits go with the sheet's edition; 02, Cards 8 and 11.
use Rattle.std.specs.Prelude.{List, [], ◌∷◌}
use Rattle.model.specs.Limits.{BYTES, SITES, SIZE}
use Rattle.model.specs.declared.Edition.{Edition}
use Rattle.model.specs.declared.Sizing.TheVariants.{Reserved, Low, High}

-- edition 1, headed `network`, tab, `1`: 16,384 bytes, 256 sites, size at most 1,000,000
abbrev pub edition1 : Edition
edition1 = record { sizing = Reserved; digit = 49; bytes = 16384; sites = 256; size = SIZE }

-- edition 2, headed `network`, tab, `2` (02, Card 8): 24,576 bytes, 384 sites
abbrev pub edition2 : Edition
edition2 = record { sizing = Reserved; digit = 50; bytes = BYTES; sites = SITES; size = SIZE }

-- the editions that this planner knows
abbrev pub editions : List Edition
editions = edition1 ∷ edition2 ∷ []

-- the edition by whose limits a tree is offered: the largest (02, Card 8: a function that is offered a tree takes up to 384 sites)
abbrev pub largest : Edition
largest = edition2

-- a range sheet, headed `ranges`, tab, `1` (02, Card 11), by edition 2's limits: its low sizes taken, and its high sizes taken
abbrev pub ranges_low : Edition
ranges_low = record { sizing = Low; digit = 49; bytes = BYTES; sites = SITES; size = SIZE }

abbrev pub ranges_high : Edition
ranges_high = record { sizing = High; digit = 49; bytes = BYTES; sites = SITES; size = SIZE }
