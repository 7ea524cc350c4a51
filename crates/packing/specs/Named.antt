-- The number that tells where a name stands, taken apart, gives the name of a site: so many bytes of the sheet from that offset on, for every sheet and every
-- number. Nothing is lost: a name lies on the sheet, which has at most BYTES bytes.
use Rattle.std.specs.Prelude.{List, ℕ, take, drop}
use Rattle.packing.specs.Packed.{unpacked_offset, unpacked_length}

-- the part of a sheet that a value tells
abbrev pub told_part : List ℕ → ℕ → List ℕ
told_part s value = take (unpacked_length value) (drop (unpacked_offset value) s)
