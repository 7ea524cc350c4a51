-- The outcome of the exchange between two regions, for any two sheets and any two lent lists: sheet, number, line, the answer for each, and the lists after.
-- Document 02, Card 10 (refusals: causes of the first sheet, of the second, 18, 9) and Card 3 (a lent list keeps its values on any refusal, and past the
-- answer).
use Rattle.std.specs.Prelude.{cond, List, ◌++◌, ℕ, leb, length, drop, Result, Ok, Err}
use Rattle.model.specs.TextRefusals.{refused_in, text_of}
use Rattle.model.specs.declared.Edition.{Edition}
use Rattle.model.specs.declared.TextRefusal.{TextRefusal}
use Rattle.sheet.specs.Sheet.{Network, Read, refused, accepted, read_sheet}
use Rattle.theory_regions.specs.Regions.{Given}
use Rattle.theory_regions.specs.Sharing.{Sharing, apart, sharing}
use Rattle.exchanges.specs.Shared.{sharing_in, shown, given_to}
use Rattle.exchanges.specs.declared.Answer.{Answer}
use Rattle.exchanges.specs.declared.Answers.{Answers}
-- the papers' sheet, number and line for each outcome
pub use Rattle.model.specs.TextRefusals.{number, line_of}

-- the outcome of an exchange: the answer for each region, or a refusal of one of two sheets; 18 names sheet 0
abbrev pub Outcome : Type 0
Outcome = Result Answers TextRefusal

-- both regions answered
abbrev pub both_of : Answer → Answer → Outcome
both_of u v = Ok (record { first = u; second = v })

-- the sheet that is told
abbrev pub sheet_of : Outcome → ℕ
sheet_of = text_of

-- the answer for each region: on a refusal the counts and the sums are 0
abbrev pub none : Answer
none = record { count = 0; sum = 0 }

abbrev pub first_of : Outcome → Answer
first_of (Ok both) = both.first
first_of (Err r) = none

abbrev pub second_of : Outcome → Answer
second_of (Ok both) = both.second
second_of (Err r) = none

-- the outcome, and the lent lists after
pub record Exchanged : Type 0 where
  pub outcome : Outcome
  pub first : List ℕ
  pub second : List ℕ

-- refused: both lists keep their values
abbrev pub refusal : ℕ → ℕ → ℕ → List ℕ → List ℕ → Exchanged
refusal x k line l m = record { outcome = refused_in x k line; first = l; second = m }

-- what a region is told of what it is given, and its list after: the trimmed sizes, in sheet order; the places after them keep their values
abbrev pub told : Given → Answer
told u = record { count = length u.sizes; sum = u.sum }

abbrev pub filled : Given → List ℕ → List ℕ
filled u l = u.sizes ++ drop (length u.sizes) l

-- both answers: 9 with the first region whose list has fewer places than it has links
unfoldable pub deliver : Given → Given → List ℕ → List ℕ → Exchanged
deliver u v l m =
    cond (leb (length u.sizes) (length l))
    (cond (leb (length v.sizes) (length m))
    (record { outcome = both_of (told u) (told v); first = filled u l; second = filled v m })
    (refusal 2 9 0 l m))
    (refusal 1 9 0 l m)

-- two networks, by whether they share one link: 18 where they do not
unfoldable pub exchange_over : Network → Network → List ℕ → List ℕ → Sharing → Exchanged
exchange_over net other l m apart = refusal 0 18 0 l m
exchange_over net other l m (sharing p q) =
    deliver (given_to net p.shared (shown other q.shared)) (given_to other q.shared (shown net p.shared)) l m

-- two sheets that are read: all causes of the first, then of the second
unfoldable pub exchange_read : List ℕ → List ℕ → List ℕ → List ℕ → Read → Read → Exchanged
exchange_read s t l m (refused k line) r = refusal 1 k line l m
exchange_read s t l m (accepted net) (refused k line) = refusal 2 k line l m
exchange_read s t l m (accepted net) (accepted other) = exchange_over net other l m (sharing_in s net t other)

-- the exchange between the regions of the sheets s and t, their trimmed sizes into the lent lists l and m
unfoldable pub exchanged : List Edition → List ℕ → List ℕ → List ℕ → List ℕ → Exchanged
exchanged known s t l m = exchange_read s t l m (read_sheet known s) (read_sheet known t)
