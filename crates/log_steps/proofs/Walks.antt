-- A list changed at the members of a set, from the lowest up: the places before the members that are still to come are as they will be, the others as they were.
use mathlib.Core.Path.{◌≡◌, refl, sym, ◌∙◌}
use mathlib.Core.Logic.{◌≢◌}
use mathlib.Core.List.{List, [], ◌∷◌, map}
use Prim.Native.Nat.{ℕ, ◌+◌, ◌*◌, ◌≤◌, ◌<◌}
use native.Mathlib.Decide.{dec_lt}
use native.Mathlib.Omega.{arith}
use lib.ListN.{length, set, length-set, length-map}
use lib.Seq.{ext_get_or, get_or-set_same, get_or-set_other}
use Rattle.model.specs.Limits.{AMOUNT, SITES, SIZE}
use Rattle.lists.specs.Numbers.{look, upfrom}
use Rattle.lists.specs.Sums.{same?, cases}
use Rattle.lists.specs.Places.{length-upfrom, look_values}
use Rattle.tree_sets.specs.Members.{member, members_from}
use Rattle.tree_sets.specs.Laws.{member-le, Coming, coming_start, coming_first, coming_below, coming_others, coming_end}
use Rattle.tree_sets.specs.declared.Set.{Set}
use Rattle.log_paths.specs.Search.{Clear, clear_on}
use Rattle.log_steps.specs.Loads.{Measured}

pub record Walking (path : Set) (f : ℕ → ℕ) (was : List ℕ) (links : List ℕ) (now : List ℕ) : Type 0 where
  pub place : ℕ
  pub come : Coming (member path) place links
  pub long : length now ≡ SITES
  pub done : (i : ℕ) → i < place → look now i ≡ f i
  pub kept : (i : ℕ) → place ≤ i → look now i ≡ look was i

-- link j is on a path, and stands as it was
pub record Here (path : Set) (was now : List ℕ) (j : ℕ) : Type 0 where
  pub low : j < SITES
  pub on : member path j ≡ 1
  pub same : look now j ≡ look was j

module _ (path : Set) (f : ℕ → ℕ) (was : List ℕ) where
  pub walking_start : {links : List ℕ} → length was ≡ SITES → links ≡ members_from (member path) 0 SITES → Walking path f was links was
  walking_start l e = record { place = 0; come = coming_start (member path) e; long = l; done = λ i m. absurd (omega arith); kept = λ i m. refl }

  module _ (others : (i : ℕ) → member path i ≢ 1 → f i ≡ look was i) {links now : List ℕ} (s : Walking path f was links now) where
    -- a place that is no link of the path is as it will be
    passed : (i k : ℕ) → ((j : ℕ) → s.place ≤ j → j < k → member path j ≢ 1) → i < k → look now i ≡ f i
    passed i k none l = cases (dec_lt i s.place) (λ q. s.done i q) (λ q. s.kept i (omega arith) ∙ sym (others i (none i (omega arith) l)))

    -- the next link is one of the path, and stands as it was
    pub walking_here : {j : ℕ} {more : List ℕ} → links ≡ j ∷ more → Here path was now j
    walking_here {j} e =
        let first = coming_first (member path) s.come e in
        record { low = coming_below (member path) s.come e; on = first.hit; same = s.kept j first.from }

    pub walking_next : {j v : ℕ} {more : List ℕ} → links ≡ j ∷ more → v ≡ f j → Walking path f was more (set now j v)
    walking_next {j} {v} {more} e w =
        let first = coming_first (member path) s.come e in
        let low = coming_below (member path) s.come e in
        record {
          place = j + 1;
          come = coming_others (member path) s.come e;
          long = length-set now j v ∙ s.long;
          done = λ i l. same? i j
              (λ z. rw z (get_or-set_same now j v 0 (omega (arith, s.long)) ∙ w))
              (λ d. get_or-set_other now j i v 0 d ∙ passed i j first.miss (omega arith));
          kept = λ i l. get_or-set_other now j i v 0 (λ z. omega arith) ∙ s.kept i (omega (arith, first.from));
        }

    pub walking_end : links ≡ [] → now ≡ map f (upfrom 0 SITES)
    walking_end e = ext_get_or 0 now (map f (upfrom 0 SITES))
        (s.long ∙ sym (length-map (upfrom 0 SITES) f ∙ length-upfrom 0 SITES))
        (λ i l. passed i SITES (coming_end (member path) s.come e) (omega (arith, s.long)) ∙ sym (look_values f SITES i (omega (arith, s.long))))

-- what is moved by x at the members only
pub none-at : (path : Set) (x i : ℕ) → member path i ≢ 1 → x * member path i ≡ 0
none-at path x i d = let z : member path i ≡ 0 = omega (arith, member-le path i) in rw z (omega arith)

-- ---- the search for a link that would be overfilled

-- link j is one whose numbers are small
pub record Small (j x : ℕ) (c l : List ℕ) : Type 0 where
  pub site : j < SITES
  pub link : j < length c
  pub capacity : look c j ≤ SIZE
  pub load : look l j ≤ AMOUNT
  pub amount : x ≤ AMOUNT

pub small : {path : Set} {x : ℕ} {c l : List ℕ} {P : ℕ → Type 0} {links : List ℕ} → Measured path x c l → Clear path P links
    → (j : ℕ) (more : List ℕ) → links ≡ j ∷ more → Small j x c l
small m s j more e =
    let on = clear_on _ _ s e in
    let link = m.links j on.on in
    record { site = on.low; link = link; capacity = m.capacities j link; load = m.loads j; amount = m.small }
