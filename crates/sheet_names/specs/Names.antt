-- The names of sites as ranges of the sheet, the look-up of a name, and the table of hashes by which the code looks it up.
-- Document 01, "The network sheet" (a name given above), and 02, Card 4 (names in either case).
use Rattle.std.specs.Prelude.{Option, Some, None, cond, List, [], ◌∷◌, ◌≢◌, ◌≡◌, ℕ, zero, suc, ◌+◌, ◌-◌, ◌*◌, ◌%◌, ◌≤◌, ◌<◌, min, ltb, length, get_or, take, drop, set}
use Rattle.std.specs.Borrow.{Bor}
use Rattle.lists.specs.Numbers.{look}
use Rattle.model.specs.Limits.{PLACES, SITES}
use Rattle.text_fields.specs.Fields.{SameName, same_name, caseless, last_word}

-- the part of the sheet from start to end
abbrev pub part : List ℕ → ℕ × ℕ → List ℕ
part s r = take (r.1 - r.0) (drop r.0 s)

-- the offset at which that part starts; one without bytes starts where it ends
abbrev pub part_start : List ℕ → ℕ × ℕ → ℕ
part_start s r = min r.0 (min r.1 (length s))

-- q is the part of a lent sheet from start to end: it has the part's bytes, and they are those of the sheet itself
-- (01: a part of the caller's sheet slice, not a copy)
pub record IsPart (sheet : Bor (List ℕ)) (r : ℕ × ℕ) (q : Bor (List ℕ)) : Type 0 where
  pub bytes : q.now ≡ part sheet.now r
  pub place : q.ref_ptr ≡ (sheet.ref_ptr.0, sheet.ref_ptr.1 + part_start sheet.now r)

-- the number of the first site whose name is the same as f, the names given being those of the sites from k up
unfoldable pub lookup_from : List ℕ → List (ℕ × ℕ) → ℕ → List ℕ → Option ℕ
lookup_from s [] k f = None
lookup_from s (r ∷ rs) k f = cond (same_name (part s r) f) (Some k) (lookup_from s rs (suc k) f)

abbrev pub lookup : List ℕ → List (ℕ × ℕ) → List ℕ → Option ℕ
lookup s names f = lookup_from s names 1 f

-- the ranges whose starts and ends stand in two lists, n of them from place i on
unfoldable pub ranges : List ℕ → List ℕ → ℕ → ℕ → List (ℕ × ℕ)
ranges starts ends i zero = []
ranges starts ends i (suc n) = (look starts i, look ends i) ∷ ranges starts ends (suc i) n

-- the name at place i of a list of names
abbrev pub name_at : List ℕ → List (ℕ × ℕ) → ℕ → List ℕ
name_at s rs i = part s (get_or rs i (0, 0))

-- ---- the table of hashes

-- the number of hashes
abbrev pub HASHES : ℕ
HASHES = 4 * SITES

-- the places of the table: one for each hash, and behind those one for each site
abbrev pub TABLE : ℕ
TABLE = HASHES + PLACES

-- the hash of a few bytes, after those that make h
unfoldable pub hash_from : ℕ → List ℕ → ℕ
hash_from h [] = h
hash_from h (b ∷ bs) = hash_from ((h * 31 + b) % HASHES) bs

-- the hash of a name, a number below HASHES: that of its last eight caseless bytes (1531 is the greatest prime below HASHES), or of all of fewer
unfoldable pub hash : List ℕ → ℕ
hash f = cond (ltb (length f) 8) (hash_from 0 (caseless f)) (last_word (caseless f) % 1531)

-- the table with one site more, whose name has the hash h: it is the newest with that hash, and the one that was comes before it
abbrev pub entered : List ℕ → ℕ → ℕ → List ℕ
entered table h site = set (set table (HASHES + site) (look table h)) h site

-- v is the newest of the first n sites whose names have the hash h, or 0 where there is none
pub record Newest (s : List ℕ) (names : List (ℕ × ℕ)) (h n v : ℕ) : Type 0 where
  pub within : v ≤ n
  pub own : 1 ≤ v → hash (name_at s names (v - 1)) ≡ h
  pub after : (i : ℕ) → v ≤ i → i < n → hash (name_at s names i) ≢ h

-- no two sites have the same name
abbrev pub Different : List ℕ → List (ℕ × ℕ) → Type 0
Different s names = (j : ℕ) → j < length names → (i : ℕ) → i < j → ¬ (SameName (name_at s names i) (name_at s names j))

-- names that are different, each of them a range that lies on the sheet
pub record Distinct (s : List ℕ) (names : List (ℕ × ℕ)) : Type 0 where
  pub different : Different s names
  pub on_sheet : (i : ℕ) → i < length names → ((get_or names i (0, 0)).0 ≤ (get_or names i (0, 0)).1) × ((get_or names i (0, 0)).1 ≤ length s)

-- a table of such names: at every hash the newest site with it, and for every site the newest before it with the same hash
pub record Indexes (s : List ℕ) (names : List (ℕ × ℕ)) (table : List ℕ) : Type 0 where
  pub distinct : Distinct s names
  pub long : length table ≡ TABLE
  pub newest : (h : ℕ) → h < HASHES → Newest s names h (length names) (look table h)
  pub older : (i : ℕ) → i < length names → Newest s names (hash (name_at s names i)) i (look table (HASHES + (i + 1)))
