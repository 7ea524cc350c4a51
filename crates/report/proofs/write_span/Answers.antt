-- `write_span` meets its contract: the heading, and the lines of the links.
use Rattle.std.proofs.Common.{[], ◌∷◌}
use Rattle.model.specs.Text.{bytes}
use Rattle.text_writers.specs.Fields.{decimal}
use Rattle.text_writers.specs.Writing.{then, first_field, line_ended, room_front, room_after, room_ended}
use Rattle.report.specs.Span.{span_record, span_text}
use Rattle.report.specs.SpanShown.{range_lines}
use Rattle.report.proofs.write_span.Goals as goal

pub put_numbers-head-requires : goal.put_numbers-head-requires
unfolding span_text span_record
put_numbers-head-requires c =
    let a = c.args.lists in
    let rest = range_lines a.names.sheet.now a.names.start.now a.names.end.now a.ranges.one.now a.ranges.two.now a.ranges.low.now a.ranges.high.now a.ranges.least.now a.ranges.greatest.now in
    room_ended (bytes "span" ∷ []) (decimal a.lower) (decimal a.upper ∷ []) (first_field (bytes "span") c.put_bytes-word.ensures)
    (room_front 0 (span_record a.lower a.upper) rest c.requires.1)

pub put_lines-requires : goal.put_lines-requires
unfolding span_text span_record
put_lines-requires c =
    let a = c.args.lists in
    let word = first_field (bytes "span") c.put_bytes-word.ensures in
    let head = line_ended (bytes "span" ∷ []) (decimal a.lower) (decimal a.upper ∷ []) word c.put_numbers-head.ensures in
    (room_after head _ c.requires.1, c.requires.0)

pub returns : goal.returns
unfolding span_text span_record
returns c =
    let a = c.args.lists in
    let word = first_field (bytes "span") c.put_bytes-word.ensures in
    then (line_ended (bytes "span" ∷ []) (decimal a.lower) (decimal a.upper ∷ []) word c.put_numbers-head.ensures) c.put_lines.ensures
