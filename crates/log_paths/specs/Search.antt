-- A path walked from its lowest link up, in search of a link that has P: there is none before the links that are still to come.
use Rattle.std.specs.Prelude.{◌≡◌, List, [], ◌∷◌, ℕ, ◌+◌, ◌<◌}
use Rattle.std.proofs.Math.Decide.{dec_lt}
use Rattle.std.proofs.Common.{arith}
use Rattle.model.specs.Limits.{SITES}
use Rattle.lists.specs.Sums.{same?, cases}
use Rattle.tree_sets.specs.Members.{member, members_from}
use Rattle.tree_sets.specs.Laws.{Coming, coming_start, coming_first, coming_below, coming_others, coming_end}
use Rattle.tree_sets.specs.declared.Set.{Set}

-- the links of the path from `place` up are still to come, and none before it has P
pub record Clear (path : Set) (P : ℕ → Type 0) (links : List ℕ) : Type 0 where
  pub place : ℕ
  pub come : Coming (member path) place links
  pub none : (j : ℕ) → j < place → member path j ≡ 1 → P j → ⊥

-- link j is on the path
pub record On (path : Set) (j : ℕ) : Type 0 where
  pub low : j < SITES
  pub on : member path j ≡ 1

module _ (path : Set) (P : ℕ → Type 0) where
  pub clear_start : {links : List ℕ} → links ≡ members_from (member path) 0 SITES → Clear path P links
  clear_start e = record { place = 0; come = coming_start (member path) e; none = λ j l o. absurd (omega arith) }

  module _ {links : List ℕ} (c : Clear path P links) where
    -- the next link is one of the path
    pub clear_on : {j : ℕ} {others : List ℕ} → links ≡ j ∷ others → On path j
    clear_on e = record { low = coming_below (member path) c.come e; on = (coming_first (member path) c.come e).hit }

    -- where it does not have P, the search goes on behind it
    pub clear_next : {j : ℕ} {others : List ℕ} → links ≡ j ∷ others → (P j → ⊥) → Clear path P others
    clear_next {j} {others} e d = record {
      place = j + 1;
      come = coming_others (member path) c.come e;
      none = λ i l o p. same? i j
          (λ z. d (rw z at p))
          (λ z. cases (dec_lt i c.place) (λ q. c.none i q o p) (λ q. (coming_first (member path) c.come e).miss i (omega arith) (omega arith) o));
    }

    -- where no link is left, none of the path has P
    pub clear_end : links ≡ [] → (j : ℕ) → j < SITES → member path j ≡ 1 → P j → ⊥
    clear_end e j l o p = cases (dec_lt j c.place) (λ q. c.none j q o p) (λ q. coming_end (member path) c.come e j (omega arith) l o)
