-- A booking log over the network of an accepted sheet: what its lines ask, and the answers line by line.
-- Document 02, Cards 6 and 7.
use Rattle.std.specs.Prelude.{false, List, [], ℕ}
use Rattle.lists.specs.Numbers.{look}
use Rattle.model.specs.Booking.{answers}
use Rattle.model.specs.declared.Request.{Request}
use Rattle.sheet.specs.Sheet.{Network}
use Rattle.log_requests.specs.Requests.{requests, is_end}

-- what the lines of a log ask, by the names, the links and the ends of the network
abbrev pub requests_of : List ℕ → Network → List ℕ → List Request
requests_of s net log = requests false s net.names net.links (is_end net) log

-- the answer to each line; no pair is open before the first
abbrev pub answers_of : List ℕ → Network → List ℕ → List ℕ
answers_of s net log = answers net.links (look net.capacities) [] (requests_of s net log)
