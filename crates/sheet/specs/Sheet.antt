-- The network sheet: from its bytes to the network and the names, or to the number and line of its refusal.
-- Document 01, "The network sheet"; 02, Card 7 (marks), Card 8 (editions). What a line by itself is stands in `LineKinds`.
use Rattle.std.specs.Prelude.{Option, Some, None, Result, Ok, Err, Bool, true, cond, ◌&&◌, List, [], ◌∷◌, ◌++◌, ℕ, zero, suc, ◌+◌, eqb, leb, ltb, length, get_or, drop}
use Rattle.model.specs.Flows.{Links, sites, ends, joined}
use Rattle.model.specs.Edition.{edition1}
use Rattle.model.specs.declared.Edition.{Edition}
use Rattle.model.specs.declared.Refusal.{Refusal}
use Rattle.text_lines.specs.Lines.{line_length, line_at, after_line, has_line}
use Rattle.sheet_kinds.specs.LineKinds.{fields, is_heading, kind}
use Rattle.sheet_kinds.specs.declared.Line.{Line}
use Rattle.sheet_kinds.specs.declared.Line.TheVariants as line
use Rattle.sheet.specs.declared.stepping.Step.{Step}
use Rattle.sheet.specs.declared.stepping.Step.TheVariants.{Nothing, Site, Link}
-- a part of the sheet, and the look-up of a name
pub use Rattle.sheet_names.specs.Names.{part, lookup}
unfoldable pub use Rattle.sheet_names.specs.Names.{lookup_from}
unfoldable pub use Rattle.text_fields.specs.Fields.{capitals}

-- ---- the network read so far

-- the names as ranges of the sheet and the marks (1 marked, 0 not), in the order of the site lines; the links and their capacities in the order of the
-- link lines
pub record Network : Type 0 where
  pub names : List (ℕ × ℕ)
  pub marks : List ℕ
  pub links : Links
  pub capacities : List ℕ

abbrev pub empty : Network
empty = record { names = []; marks = []; links = []; capacities = [] }

-- one site more, with its mark
abbrev pub with_site : Network → ℕ × ℕ → ℕ → Network
with_site net r mark = record {
  names = net.names ++ (r ∷ []);
  marks = net.marks ++ (mark ∷ []);
  links = net.links;
  capacities = net.capacities;
}

-- one link more, with its capacity
abbrev pub with_link : Network → ℕ × ℕ → ℕ → Network
with_link net l capacity = record {
  names = net.names;
  marks = net.marks;
  links = net.links ++ (l ∷ []);
  capacities = net.capacities ++ (capacity ∷ []);
}

-- what reading comes to: refused with number and line, or the network
pub data Read : Type 0 where
  refused : ℕ → ℕ → Read
  accepted : Network → Read

-- ---- what a line adds to the network read so far: the line at offset `at`, with number k

-- a refusal with a number and a line
abbrev pub refusal : ℕ → ℕ → Refusal
refusal n k = record { number = n; line = k }

-- what a line adds, or its refusal
abbrev pub Stepped : Type 0
Stepped = Result Step Refusal

-- a site line, marked or not, by what the look-up of its name found: 5 where the name is given
abbrev pub site_by : ℕ → ℕ × ℕ → ℕ → Option ℕ → Stepped
site_by k r mark (Some v) = Err (refusal 5 k)
site_by k r mark None = Ok (Site r.0 r.1 mark)

-- a site line after n sites: 4 where they are as many as the edition allows, then 5
unfoldable pub site_step : Edition → ℕ → ℕ → ℕ × ℕ → ℕ → Option ℕ → Stepped
site_step ed k n r mark found = cond (leb ed.sites n) (Err (refusal 4 k)) (site_by k r mark found)

-- a link line, by what the look-ups of its names found: 6 where one is not given above, then 7 where its sites are joined by links above, or are one site
unfoldable pub link_step : ℕ → Links → ℕ → Option ℕ → Option ℕ → Stepped
link_step k ls size None w = Err (refusal 6 k)
link_step k ls size (Some a) None = Err (refusal 6 k)
link_step k ls size (Some a) (Some b) = cond (eqb (joined ls a b) 1) (Err (refusal 7 k)) (Ok (Link a b size))

-- line 1 is the edition's heading
unfoldable pub heading_step : Edition → List ℕ → Stepped
heading_step ed l = cond (is_heading ed (fields l)) (Ok Nothing) (Err (refusal 2 1))

-- a later line is a site or a link
unfoldable pub record_step : Edition → List ℕ → Network → ℕ → ℕ → Result Line ℕ → Stepped
record_step ed s net k at (Ok (line.Site a e m)) = site_step ed k (length net.names) (at + a, at + e) m (lookup s net.names (part s (at + a, at + e)))
record_step ed s net k at (Ok (line.Link a e b f size)) =
    link_step k net.links size (lookup s net.names (part s (at + a, at + e))) (lookup s net.names (part s (at + b, at + f)))
record_step ed s net k at (Err n) = Err (refusal n k)

-- 2 for a line that no byte 10 ends, before any other fault
unfoldable pub step_of : Edition → List ℕ → Network → ℕ → ℕ → Stepped
step_of ed s net k at =
    let line = line_at s at in
    cond (ltb (at + line_length (drop at s)) (length s))
    (cond (eqb k 1) (heading_step ed line) (record_step ed s net k at (kind ed line)))
    (Err (refusal 2 k))

-- the network with what a line adds, or its refusal
abbrev pub added : Network → Stepped → Read
added net (Ok Nothing) = accepted net
added net (Ok (Site a e m)) = accepted (with_site net (a, e) m)
added net (Ok (Link a b size)) = accepted (with_link net (a, b) size)
added net (Err r) = refused r.number r.line

-- a line read
unfoldable pub read_line : Edition → List ℕ → Network → ℕ → ℕ → Read
read_line ed s net k at = added net (step_of ed s net k at)

-- ---- the sheet

-- go on with the network, or stay refused
unfoldable pub and_then : Read → (Network → Read) → Read
and_then (refused n k) f = refused n k
and_then (accepted net) f = f net

-- the lines from offset `at` on, the first of them line k; the lowest line with a fault decides. fuel: at least the bytes left
unfoldable pub read_lines : Edition → List ℕ → ℕ → ℕ → ℕ → Network → Read
read_lines ed s zero k at net = accepted net
read_lines ed s (suc fuel) k at net =
    cond (has_line s at)
    (and_then (read_line ed s net k at) (λ next. read_lines ed s fuel (suc k) (after_line s at) next))
    (accepted net)

-- all sites of a list are joined to site 1
unfoldable pub all_joined : Links → List ℕ → Bool
all_joined ls [] = true
all_joined ls (x ∷ xs) = eqb (joined ls 1 x) 1 && all_joined ls xs

-- after the last line: 8 where there are under two sites, or not all are joined
unfoldable pub finish : Network → Read
finish net =
    let n = length net.names in
    cond (leb 2 n && all_joined net.links (sites n)) (accepted net) (refused 8 0)

-- a sheet read as one of an edition: 1 where it has no bytes or more than the edition allows, before anything else
unfoldable pub read_as : Edition → List ℕ → Read
read_as ed s =
    cond (leb 1 (length s) && leb (length s) ed.bytes) (and_then (read_lines ed s (length s) 1 0 empty) finish) (refused 1 0)

-- ---- its edition

-- the edition of a sheet, of those that are known: the one whose heading is line 1. Any other sheet is measured by edition 1, which every planner knows (02,
-- Card 8)
unfoldable pub edition_of : List Edition → List ℕ → Edition
edition_of [] s = edition1
edition_of (ed ∷ known) s = cond (is_heading ed (fields (line_at s 0))) ed (edition_of known s)

-- a sheet read by a planner that knows some editions: as one of its edition, which line 1 chooses before anything else
abbrev pub read_sheet : List Edition → List ℕ → Read
read_sheet known s = read_as (edition_of known s) s

-- ---- its ends

-- the list of the ends of a network: place v holds 1 where site v has just one link or is marked (01: end; 02, Card 7)
abbrev pub ends_of : Network → List ℕ
ends_of net = ends net.links (length net.names) net.marks

-- ---- names by number

-- the range of the name of site k (01: the bytes of its own `N` line; 02, Card 7: or `T` line); an empty one for a number without a site, or over a sheet
-- that is refused
unfoldable pub range_in : ℕ → Read → ℕ × ℕ
range_in k (refused n l) = (0, 0)
range_in zero (accepted net) = (0, 0)
range_in (suc k) (accepted net) = get_or net.names k (0, 0)

unfoldable pub name_range : List Edition → List ℕ → ℕ → ℕ × ℕ
name_range known s k = range_in k (read_sheet known s)

-- the bytes of that name
abbrev pub name_of : List Edition → List ℕ → ℕ → List ℕ
name_of known s k = part s (name_range known s k)
