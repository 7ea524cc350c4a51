-- What code that keeps the lists in arrays relies on: no amount is 0, none is greater than what was sent,
-- and no list is longer than there are sites below.
use Rattle.std.specs.Prelude.{List, [], ℕ, zero, suc, ◌-◌, ◌*◌, ◌≤◌}
use Rattle.lists.specs.Numbers.{Each}
use Rattle.model.specs.Flows.{Links, sum_at}
use Rattle.model.specs.Pairing.{Halves, Part, take_halves, drop_halves, halves, match, children, gather, alone, settle, walk}
use Rattle.lists.specs.Sums.{pick_cases}
use Rattle.lists.specs.Tallies.{each_all, each_map, each_append}
use Rattle.theory_walk.specs.Halves.{put-filled, thinned_filled, take_thins, drop_thins}
use Rattle.theory_walk.specs.Match.{Matched, match-each}
use Rattle.theory_walk.specs.Handed.{all_nothing, sends, gather-all}
use Rattle.theory_walk.specs.Bounds.{FilledPart}

pub gather-filled : (visit : ℕ → ℕ → ℕ → ℕ → Part) (t : ℕ → ℕ) → ((c k s d : ℕ) → FilledPart (visit c k s d)) → (r : ℕ) (ks : List (ℕ × ℕ))
    → FilledPart (gather visit t r ks)
gather-filled visit t f r ks = gather-all visit t (λ e. Unit {0}) (λ h. 1 ≤ h.1) (λ e. 1 ≤ e.amount)
    (λ e r u. f e.0 e.1 (sends t e r) (2 * t e.1 - sends t e r)) r ks (each_all (λ e. Unit {0}) (λ e. tt) ks)

match-filled : (u d : Halves) → Each (λ e. 1 ≤ e.amount) (match u d)
match-filled u d = each_map (Matched (λ x. Unit {0}) (λ x. Unit {0})) (λ e. 1 ≤ e.amount) (λ e m. m.positive) (match u d)
    (match-each (λ x. Unit {0}) (λ x. Unit {0}) u d (each_all (λ h. Unit {0}) (λ h. tt) u) (each_all (λ h. Unit {0}) (λ h. tt) d))

pub walk-filled : (ls : Links) (n : ℕ) (t terminal : ℕ → ℕ) (fuel v j up down : ℕ) → FilledPart (walk ls n t terminal fuel v j up down)
unfolding walk alone settle
walk-filled ls n t terminal zero v j up down = all_nothing (λ h. 1 ≤ h.1) (λ e. 1 ≤ e.amount)
walk-filled ls n t terminal (suc fuel) v j up down =
    let visit = walk ls n t terminal fuel in
    let g = gather (λ c k s d. visit c k s d) t (sum_at ls v t - down) (children ls v j 1 n) in
    let below = gather-filled (λ c k s d. visit c k s d) t (λ c k s d. walk-filled ls n t terminal fuel c k s d) (sum_at ls v t - down) (children ls v j 1 n) in
    let own = halves g.ups - up in
    pick_cases FilledPart (terminal v) 1 (alone v up down) (settle up down g)
    (λ e. record { ups_all = put-filled v up [] tt; downs_all = put-filled v down [] tt; pairs-all = tt })
    (λ d. record {
      ups_all = thinned_filled (drop_thins own g.ups);
      downs_all = thinned_filled (take_thins down g.downs);
      pairs-all = each_append (λ e. 1 ≤ e.amount) g.pairs (match (take_halves own g.ups) (drop_halves down g.downs))
          below.pairs-all (match-filled (take_halves own g.ups) (drop_halves down g.downs));
    })
