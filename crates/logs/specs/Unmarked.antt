-- What Card 7 changed in a log (document 02): where every end has one link, a log is answered as by the rule from before, which gave 6 unless the names were
-- those of two different ends. Since then no end stands between two others.
use Rattle.std.specs.Prelude.{Option, Some, None, Bool, cond, ◌&&◌, not, List, [], map, ℕ, eqb, Result, Ok, Err}
use Rattle.std.proofs.Math.Bool.{false}
use Rattle.model.specs.Booking.{pair}
use Rattle.model.specs.declared.Request.{Request}
use Rattle.model.specs.declared.Request.TheVariants as request
use Rattle.text_lines.specs.Lines.{line_at}
use Rattle.sheet.specs.Sheet.{part, lookup}
use Rattle.log_lines.specs.declared.Booking.{Booking}
use Rattle.log_requests.specs.Requests.{lines, line_of, request_for}

-- ---- the rule from before

-- an amount between what the look-ups of two names found: 6 unless they are two different ends
unfoldable pub between_ends : (ℕ → ℕ) → Bool → ℕ → Option ℕ → Option ℕ → Request
between_ends t opens x (Some a) (Some b) = cond (eqb (t a) 1 && eqb (t b) 1 && not (eqb a b)) (request_for opens (pair a b x)) (request.Fault 6)
between_ends t opens x (Some a) None = request.Fault 6
between_ends t opens x None w = request.Fault 6

-- what a line l asked, by what it is
unfoldable pub request_before : List ℕ → List (ℕ × ℕ) → (ℕ → ℕ) → List ℕ → Result Booking ℕ → Request
request_before s names t l (Ok b) =
    between_ends t b.opens b.amount (lookup s names (part l (b.start, b.end))) (lookup s names (part l (b.start2, b.end2)))
request_before s names t l (Err k) = request.Fault k

-- what the lines of a log asked, one by one
unfoldable pub requests_before : List ℕ → List (ℕ × ℕ) → (ℕ → ℕ) → List ℕ → List Request
requests_before s names t log = map (λ at. request_before s names t (line_at log at) (line_of false log at)) (lines log)

-- ---- where every end has one link
