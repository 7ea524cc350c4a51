-- What the report of a range sheet says, read off its bytes alone: lines, fields and numbers, and from them the totals and the sizes.
-- Document 02, Card 11.
use Rattle.std.specs.Prelude.{List, [], map, ℕ, get_or}
use Rattle.model.specs.Flows.{Links}
use Rattle.model.specs.Text.{bytes}
use Rattle.sheet_kinds.specs.LineKinds.{field, value}
use Rattle.sheet.specs.Sheet.{Network}
use Rattle.demands.specs.Printed.{Record, records, headed, site_named}

-- line 1 (heading, least and greatest total in halves); of the `L` lines the two sites, the low and the high size, the least and the greatest trimmed size
pub record PrintedSpan : Type 0 where
  pub heading : List ℕ
  pub least : ℕ
  pub greatest : ℕ
  pub links : Links
  pub lows : List ℕ
  pub highs : List ℕ
  pub leasts : List ℕ
  pub greatests : List ℕ

-- a report read line by line, its names turned to sites by `site`
unfoldable pub read_span_records : (List ℕ → ℕ) → List Record → PrintedSpan
read_span_records site rs =
    let first = get_or rs 0 [] in
    let link_lines = headed (bytes "L") rs in
    record {
      heading = field first 0;
      least = value (field first 1);
      greatest = value (field first 2);
      links = map (λ l. (site (field l 1), site (field l 2))) link_lines;
      lows = map (λ l. value (field l 3)) link_lines;
      highs = map (λ l. value (field l 4)) link_lines;
      leasts = map (λ l. value (field l 5)) link_lines;
      greatests = map (λ l. value (field l 6)) link_lines;
    }

-- what the bytes r say, as a report on the range sheet s, whose sites and names are those of net
unfoldable pub read_span : List ℕ → Network → List ℕ → PrintedSpan
read_span s net r = read_span_records (site_named s net) (records r)
