-- The names of an accepted sheet as lists: they are the network's, all different, and lie on the sheet.
use Rattle.std.specs.Prelude.{List, ◌≡◌, ℕ}
use Rattle.model.specs.Limits.{SITES}
use Rattle.sheet_names.specs.Names.{ranges, Distinct}
use Rattle.sheet.specs.Sound.{distinct_names}
use Rattle.sheet.proofs.Editions.{an_accepted_sheet_is_within_the_largest}
use Rattle.sheet.specs.Reading.{lists}
use Rattle.sheet.specs.ListLaws.{names_are}
use Rattle.sheet.specs.declared.Lists.{Lists}
use Rattle.planner.specs.Taken.{Listed}

module _ {s : List ℕ} {network : Lists} (r : Listed s network) where
  pub the_names_are_the_networks : ranges network.start network.end 0 network.sites ≡ r.net.names
  unfolding lists
  the_names_are_the_networks = rw r.listed (names_are SITES r.net.names)

  pub the_names_are_distinct : Distinct s (ranges network.start network.end 0 network.sites)
  the_names_are_distinct =
      let net = an_accepted_sheet_is_within_the_largest s r.net r.read in rw the_names_are_the_networks (distinct_names net.names net.different)
