-- The partner of a site: the site of the other sheet that has its name. Document 02, Card 10 (names in common), and Card 4 (names in either case).
use Rattle.std.specs.Prelude.{Option, unwrap_or, List, ◌≡◌, ℕ, ◌-◌, ◌*◌}
use Rattle.lists.specs.Numbers.{differ, look}
use Rattle.model.specs.Flows.{Links, Site, one, two, at}
use Rattle.sheet_names.specs.Names.{name_at, lookup}

-- the number of the site that a look-up found, 0 for none
abbrev pub site_found : Option ℕ → ℕ
site_found found = unwrap_or found 0

-- the site of the sheet t, by its names, that has the name of site x of the sheet s, in either case; 0 where there is none
abbrev pub partner_in : List ℕ → List (ℕ × ℕ) → List ℕ → List (ℕ × ℕ) → ℕ → ℕ
partner_in s names t others x = site_found (lookup t others (name_at s names (x - 1)))

-- a list that holds the partner of each of n sites at its place
abbrev pub Holds : ℕ → (ℕ → ℕ) → List ℕ → Type 0
Holds n partner list = (x : ℕ) → Site n x → look list x ≡ partner x

-- 1 where both sites of link j have a partner, 0 elsewhere
abbrev pub both_in : (ℕ → ℕ) → Links → ℕ → ℕ
both_in partner ls j = differ (partner (one ls j)) 0 * differ (partner (two ls j)) 0

-- 1 where x and y are both at link k, 0 elsewhere
abbrev pub joining : Links → ℕ → ℕ → ℕ → ℕ
joining ls x y k = at ls x k * at ls y k
