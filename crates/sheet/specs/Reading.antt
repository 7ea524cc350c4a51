-- The answer of the code for what reading a sheet comes to: the network as lists of SITES places, or the refusal.
-- Document 01, "The network sheet"; the table's columns "No." and "Returned".
use Rattle.std.specs.Prelude.{List, ◌++◌, map, ℕ, ◌+◌, ◌-◌, length, set, replicate, Result, Ok, Err}
use Rattle.model.specs.Limits.{SITES}
use Rattle.model.specs.declared.Refusal.{Refusal}
use Rattle.sheet.specs.Sheet.{Network, refusal, Read, refused, accepted}
use Rattle.sheet.specs.declared.Lists.{Lists}

-- a list with zeros behind it, n places in all
unfoldable pub padded : ℕ → List ℕ → List ℕ
padded n l = l ++ replicate (n - length l) 0

-- a network as lists
unfoldable pub lists : Network → Lists
lists net = record {
  start = padded SITES (map (λ r. r.0) net.names);
  end = padded SITES (map (λ r. r.1) net.names);
  mark = padded SITES net.marks;
  one = padded SITES (map (λ l. l.0) net.links);
  two = padded SITES (map (λ l. l.1) net.links);
  capacity = padded SITES net.capacities;
  sites = length net.names;
  links = length net.links;
}

-- the lists with one site more, in the first free places
abbrev pub site_stored : Lists → ℕ → ℕ → ℕ → Lists
site_stored net a b m = record {
  start = set net.start net.sites a;
  end = set net.end net.sites b;
  mark = set net.mark net.sites m;
  one = net.one;
  two = net.two;
  capacity = net.capacity;
  sites = net.sites + 1;
  links = net.links;
}

-- the lists with one link more, in the first free places
abbrev pub link_stored : Lists → ℕ → ℕ → ℕ → Lists
link_stored net a b size = record {
  start = net.start;
  end = net.end;
  mark = net.mark;
  one = set net.one net.links a;
  two = set net.two net.links b;
  capacity = set net.capacity net.links size;
  sites = net.sites;
  links = net.links + 1;
}

-- refused with number and line, and then there is no network; or accepted with the network
unfoldable pub reading : Read → Result Lists Refusal
reading (refused n k) = Err (refusal n k)
reading (accepted net) = Ok (lists net)

-- the refusal, or the lists that are lent, as they are then
abbrev pub filled : {T : Type 0} → Result T Refusal → Lists → Result Lists Refusal
filled (Ok _) net = Ok net
filled (Err r) net = Err r
