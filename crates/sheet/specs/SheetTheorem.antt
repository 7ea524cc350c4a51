-- What reading a sheet gives, for a reader of the planner (document 01, "The network sheet"). An accepted sheet gives a tree, since each link
-- joined two sites that the links above did not, and in the end all are joined. A sheet is refused for a cause of the table, and for no other.
use Rattle.std.specs.Prelude.{Bool, true, false, cond, ◌&&◌, List, reverse, ◌↔◌, ◌≡◌, refl, ℕ, ◌≤◌, ◌<◌, leb, length, get_or}
use Rattle.std.proofs.lemmas.List.{reverse-reverse}
use Rattle.std.proofs.Common.{sym, subst, arith, leb-true}
use Rattle.lists.specs.Numbers.{look}
use Rattle.model.specs.Flows.{Site, sites, label, Tree}
use Rattle.model.specs.declared.Edition.{Edition}
use Rattle.theory_trees.specs.Labels.{joined-label}
use Rattle.theory_trees.proofs.Fresh.{joined_reversed, fresh_links_make_a_tree, tree_reversed}
use Rattle.text_fields.specs.Fields.{SameName}
use Rattle.sheet_kinds.specs.LineKindLaws.{both}
use Rattle.sheet.specs.Sheet.{Network, empty, Read, refused, accepted, read_lines, all_joined, finish, and_then, read_as}
use Rattle.sheet_names.specs.Names.{name_at}
use Rattle.sheet.specs.ReadLaws.{enough_fuel}
use Rattle.sheet.specs.Causes.{Refusal}
use Rattle.sheet.specs.RefusalLaws.{all-joined, a_refused_sheet_has_its_cause, a_cause_refuses_its_sheet}
use Rattle.sheet.specs.Sound.{IsNameRange, Sound, Accepts, none_is_sound, goes_on, lines_keep_sound}

-- what an accepted sheet gives: a tree of sites within the limit, a capacity within the limit for each link, and for each site a mark of 0 or 1 and a
-- name, of which no two are the same, each a range of the sheet
pub record IsNetwork (ed : Edition) (s : List ℕ) (net : Network) : Type 0 where
  pub tree : Tree net.links (length net.names)
  pub few : length net.names ≤ ed.sites
  pub capacities : length net.capacities ≡ length net.links
  pub sizes : (j : ℕ) → j < length net.capacities → look net.capacities j ≤ ed.size
  pub marks : length net.marks ≡ length net.names
  pub marked : (i : ℕ) → i < length net.marks → look net.marks i ≤ 1
  pub names : (i : ℕ) → i < length net.names → IsNameRange s (get_or net.names i (0, 0))
  pub different : (j : ℕ) → j < length net.names → (i : ℕ) → i < j → ¬ (SameName (name_at s net.names i) (name_at s net.names j))

-- fresh links that join all sites make a tree, in the order of the sheet too
sound_and_joined_is_a_tree : (ed : Edition) (s : List ℕ) (net : Network) → Sound ed s net → 2 ≤ length net.names
    → all_joined net.links (sites (length net.names)) ≡ true → Tree net.links (length net.names)
sound_and_joined_is_a_tree ed s net sound big e =
    rw (reverse-reverse net.links) at
    (tree_reversed (fresh_links_make_a_tree (reverse net.links) (length net.names) big sound.ends sound.fresh whole))
  where
    whole : (x : ℕ) → Site (length net.names) x → label (reverse net.links) x ≡ label (reverse net.links) 1
    whole x b = sym ((joined_reversed net.links 1 x).1 (joined-label net.links (all-joined net.links (length net.names) e x b)))

finish_gives_a_network : (ed : Edition) (s : List ℕ) (net : Network) → Sound ed s net → Accepts (IsNetwork ed s) (finish net)
unfolding finish
finish_gives_a_network ed s net sound = by (leb 2 (length net.names) && all_joined net.links (sites (length net.names))) refl
  where
    by : (t : Bool) → (leb 2 (length net.names) && all_joined net.links (sites (length net.names))) ≡ t
        → Accepts (IsNetwork ed s) (cond t (accepted net) (refused 8 0))
    by false e = tt
    by true e =
        let h = both (leb 2 (length net.names)) (all_joined net.links (sites (length net.names))) e in
        record {
          tree = sound_and_joined_is_a_tree ed s net sound (leb-true _ _ h.0) h.1;
          few = sound.few;
          capacities = sound.capacities;
          sizes = sound.sizes;
          marks = sound.marks;
          marked = sound.marked;
          names = sound.names;
          different = sound.different;
        }

sheet_gives_a_network : (ed : Edition) (s : List ℕ) → Accepts (IsNetwork ed s) (read_as ed s)
unfolding read_as
sheet_gives_a_network ed s = by (leb 1 (length s) && leb (length s) ed.bytes) (and_then (read_lines ed s (length s) 1 0 empty) finish)
    (goes_on (Sound ed s) (IsNetwork ed s) (read_lines ed s (length s) 1 0 empty) finish
    (lines_keep_sound ed s (length s) 1 0 empty (omega arith) (none_is_sound ed s))
    (finish_gives_a_network ed s))
  where
    by : (t : Bool) (r : Read) → Accepts (IsNetwork ed s) r → Accepts (IsNetwork ed s) (cond t r (refused 1 0))
    by true r h = h
    by false r h = tt

-- an accepted sheet gives a network: a tree within the limits (01: so no caller needs to doubt it)
pub an_accepted_sheet_is_a_tree : (ed : Edition) (s : List ℕ) (net : Network) → read_as ed s ≡ accepted net → IsNetwork ed s net
an_accepted_sheet_is_a_tree ed s net e = subst (Accepts (IsNetwork ed s)) e (sheet_gives_a_network ed s)

-- each number comes for its cause and for no other (01)
pub a_sheet_is_refused_for_its_cause : (ed : Edition) (s : List ℕ) (n k : ℕ) → (read_as ed s ≡ refused n k) ↔ Refusal ed s n k
a_sheet_is_refused_for_its_cause ed s n k = (a_refused_sheet_has_its_cause ed s n k, a_cause_refuses_its_sheet ed s n k)

-- so a sheet without these causes is accepted (01)
pub a_sheet_without_causes_is_accepted : (ed : Edition) (s : List ℕ) → ((n k : ℕ) → ¬ (Refusal ed s n k)) → (net : Network) × (read_as ed s ≡ accepted net)
a_sheet_without_causes_is_accepted ed s none = by (read_as ed s) refl
  where
    by : (r : Read) → read_as ed s ≡ r → (net : Network) × (r ≡ accepted net)
    by (refused n k) e = absurd (none n k (a_refused_sheet_has_its_cause ed s n k e))
    by (accepted net) e = (net, refl)

-- the fuel of the definition always suffices
pub the_fuel_suffices : (ed : Edition) (s : List ℕ) (fuel : ℕ) → length s ≤ fuel → read_lines ed s fuel 1 0 empty ≡ read_lines ed s (length s) 1 0 empty
the_fuel_suffices ed s fuel h = enough_fuel ed s fuel (length s) 1 0 empty (omega arith) (omega arith)
