-- A range sheet read with its low sizes and with its high sizes (document 02, Card 11): both are refused alike, or give the same sites, marks and links, and no
-- low size is above its high one. By the lines, each of which adds the same but for the capacity.
use Rattle.std.specs.Prelude.{Ok, Err, ◌≡◌, ℕ, ◌≤◌, length}
use Rattle.lists.specs.Numbers.{look}
use Rattle.sheet.specs.Sheet.{Stepped, Network, Read, refused, accepted}
use Rattle.sheet.specs.declared.stepping.Step.TheVariants.{Nothing, Site, Link}

-- ---- what agrees

-- two networks of the same sites, marks and links, the first with no capacity above that of the second
pub record Ranged (a b : Network) : Type 0 where
  pub names : b.names ≡ a.names
  pub marks : b.marks ≡ a.marks
  pub links : b.links ≡ a.links
  pub each : length b.capacities ≡ length a.capacities
  pub below : (j : ℕ) → look a.capacities j ≤ look b.capacities j

-- refused alike, or two such networks
abbrev pub ReadAlike : Read → Read → Type 0
ReadAlike (refused n k) r = r ≡ refused n k
ReadAlike (accepted a) r = (b : Network) × (r ≡ accepted b) × Ranged a b

-- the same step, but for the capacity of a link
abbrev pub StepAlike : Stepped → Stepped → Type 0
StepAlike (Ok Nothing) w = w ≡ Ok Nothing
StepAlike (Ok (Site a e m)) w = w ≡ Ok (Site a e m)
StepAlike (Ok (Link a b c)) w = (d : ℕ) × (w ≡ Ok (Link a b d)) × (c ≤ d)
StepAlike (Err why) w = w ≡ Err why

-- ---- what a line adds

-- ---- the sheet
