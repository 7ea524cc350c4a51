-- What the report of a range sheet is written from: names as ranges of the sheet, and lists with a place for each link.
use Rattle.std.specs.Prelude.{◌≡◌, List, ℕ, ◌<◌, length}
use Rattle.lists.specs.Numbers.{look, upfrom}
use Rattle.report.specs.Report.{lines}
use Rattle.report.specs.Span.{Span, range_line}
use Rattle.report.specs.Shown.{name_by, Named}

-- what the lists show which the report is written from
abbrev pub span_by : List ℕ → List ℕ → List ℕ → List ℕ → List ℕ → List ℕ → List ℕ → List ℕ → List ℕ → ℕ → ℕ → Span
span_by s starts stops ones twos lows highs leasts greatests least greatest = record {
  names = name_by s starts stops;
  ones = ones;
  twos = twos;
  lows = lows;
  highs = highs;
  leasts = leasts;
  greatests = greatests;
  least = least;
  greatest = greatest;
}

-- the lines of the links that the lists show
abbrev pub range_lines : List ℕ → List ℕ → List ℕ → List ℕ → List ℕ → List ℕ → List ℕ → List ℕ → List ℕ → List ℕ
range_lines s starts stops ones twos lows highs leasts greatests =
    lines (range_line (name_by s starts stops) ones twos lows highs leasts greatests) (upfrom 0 (length ones))

-- lists of links between named sites, of one length
pub record Ranges (s starts stops ones twos lows highs leasts greatests : List ℕ) : Type 0 where
  pub twos-length : length twos ≡ length ones
  pub lows_length : length lows ≡ length ones
  pub highs_length : length highs ≡ length ones
  pub leasts_length : length leasts ≡ length ones
  pub greatests_length : length greatests ≡ length ones
  pub named : (j : ℕ) → j < length ones → Named s starts stops (look ones j) × Named s starts stops (look twos j)
