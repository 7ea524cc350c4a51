-- `request_at`: a fault is passed on, and what is asked goes by the look-ups of the two names.
use Rattle.std.proofs.Common.{Option, ℕ, length, sym}
use Rattle.std.proofs.Math.Path.{subst}
use Rattle.sheet_names.specs.Names.{ranges}
use Rattle.sheet_names.specs.LookupLaws.{length-ranges}
use Rattle.log_requests.specs.Requests.{request_by, request_at}
use Rattle.log_requests.specs.RequestLaws.{Named}
use Rattle.log_requests.proofs.RequestLaws.{found_is_a_site}
use Rattle.log_requests.proofs.request_at.Goals as goal

pub returns-in-Err : goal.returns-in-Err
unfolding request_at request_by
returns-in-Err c = rw (← c.line_of.ensures, c.in-Err.is)

pub between-requires : goal.between-requires
between-requires c =
    let a = c.args in
    let names = ranges a.starts.now a.stops.now 0 a.n in
    let number = length-ranges a.starts.now a.stops.now 0 a.n in
    let named : (v : Option ℕ) → Named (length names) v → Named a.n v = λ v h. subst (λ k. Named k v) number h in (
      c.requires.0,
      named c.find-from.result (subst (Named (length names)) (sym c.find-from.ensures) (found_is_a_site a.sheet.now _ names)),
      named c.find-to.result (subst (Named (length names)) (sym c.find-to.ensures) (found_is_a_site a.sheet.now _ names)),
      c.requires.4,
    )

pub returns : goal.returns
unfolding request_at request_by
returns c = rw (
  ← c.line_of.ensures,
  c.in-Ok.is,
  ← c.requires.3,
  ← c.part-first.ensures.bytes,
  ← c.part-second.ensures.bytes,
  ← c.find-from.ensures,
  ← c.find-to.ensures,
) c.between.ensures
