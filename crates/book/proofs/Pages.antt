-- A page that is told stands within the buffer.
use Rattle.std.specs.Prelude.{Ok}
use Rattle.std.proofs.Common.{◌≡◌, ℕ, ◌≤◌, List, length, ap, sym, arith}
use Rattle.books.specs.Outcome.{page_into}
use Rattle.books.specs.Told.{a-page-told-is-within, the_buffer_stays}

pub page_is_within : (sites choice : ℕ) (before left : List ℕ) (n : ℕ)
    → Ok n ≡ (page_into sites choice before).outcome → left ≡ (page_into sites choice before).buffer → n ≤ length left
page_is_within sites choice before left n e f =
    omega (arith, a-page-told-is-within sites choice n before (sym e), ap length f, the_buffer_stays sites choice before)
