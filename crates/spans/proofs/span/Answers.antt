-- `span` meets its contract: a refusal of the reading is passed on, and the lists of an accepted sheet are its networks taken apart.
use Rattle.std.proofs.Common.{sym, ap, ◌∙◌}
use Rattle.spans.proofs.Ready.{room_for_the_links, the_lists_are_taken_apart}
use Rattle.spans.proofs.Ready.{accepted_is_listed, refused_is_told, none_is_refused_for_its_high_sizes}
use Rattle.spans.proofs.span.Goals as goal

pub span_parts-requires : goal.span_parts-requires
span_parts-requires c =
    let read = accepted_is_listed c.args.sheet.now _ _ (sym c.in-Ok.is ∙ c.read_low.ensures) c.in_ok-high-in-Ok.ensures in
    let listed = read.2 in
    let room = room_for_the_links listed in
    rw read.1 (the_lists_are_taken_apart listed, room.0, room.1, room.2, room.3, room.4)

pub returns-in-Err : goal.returns-in-Err
returns-in-Err c =
    let e = refused_is_told c.args.sheet.now c.args.report.now _ (sym c.in-Err.is ∙ c.read_low.ensures) in
    record { told = sym (ap (λ p. p.outcome) e); left = sym (ap (λ p. p.buffer) e) }

pub returns-in_err-high-in-Ok : goal.returns-in_err-high-in-Ok
returns-in_err-high-in-Ok c =
    absurd (none_is_refused_for_its_high_sizes c.args.sheet.now _ _ (sym c.in-Ok.is ∙ c.read_low.ensures) c.in_err-high-in-Ok.ensures)
