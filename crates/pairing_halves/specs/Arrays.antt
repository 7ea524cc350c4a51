-- Lists of halves and of pairs as they stand in arrays, and what each step of the walk leaves there.
-- Nothing here is a term of document 01: the lists are those of its section "Pairing", steps 2 to 4.
use Rattle.std.specs.Prelude.{◌≡◌, List, [], ◌∷◌, ◌++◌, ℕ, ◌+◌, ◌-◌, ◌≤◌, ◌<◌, length, take, drop, get_or}
use Rattle.std.proofs.Math.Seq.{slice}
use Rattle.lists.specs.Numbers.{pick}
use Rattle.model.specs.Pairing.{Halves, put, take_halves, drop_halves, halves, match}
use Rattle.model.specs.declared.Pair.{Pair}
use Rattle.theory_walk.specs.Halves.{Filled}
use Rattle.pairing_halves.specs.declared.Place.{Place}
use Rattle.pairing_halves.specs.declared.Tops.{Tops}

-- the entry at place i, a site and an amount
abbrev pub entry : Halves → ℕ → ℕ × ℕ
entry a i = get_or a i (0, 0)

-- a list of halves stands in array a from place b to place e, with no amount of 0 in it
pub record Stands (a : Halves) (b e : ℕ) : Type 0 where
  pub begins : b ≤ e
  pub inside : e ≤ length a
  pub filled : Filled (slice b e a)

-- array z holds below place e what array a held below place b, and then l
pub record Held {A : Type 0} (a : List A) (b : ℕ) (z : List A) (e : ℕ) (l : List A) : Type 0 where
  pub ends : e ≡ b + length l
  pub as_long : length z ≡ length a
  pub held : take e z ≡ take b a ++ l

-- l is added to array a from place b to place e, which makes array z: from place e on all is as it was
pub record Added {A : Type 0} (a : List A) (b : ℕ) (z : List A) (e : ℕ) (l : List A) : Type 0 where
  pub below : Held a b z e l
  pub above : drop e z ≡ drop e a

-- array a with l in the places before place t
abbrev pub ending : {A : Type 0} → List A → ℕ → List A → List A
ending a t l = take (t - length l) a ++ (l ++ drop t a)

-- l is kept from place b to place e of array a, which makes array z: it was written before place t, and then moved down to place b
pub record Kept {A : Type 0} (a : List A) (t b : ℕ) (z : List A) (e : ℕ) (l : List A) : Type 0 where
  pub below : Held a b z e l
  pub above : drop e z ≡ drop e (ending a t l)

-- a list without the first g halves of its first entry
unfoldable pub opened : ℕ → Halves → Halves
opened g [] = []
opened g (h ∷ l) = put h.0 (h.1 - g) l

-- the list in array a from place f to e, of whose first entry some halves are gone
abbrev pub rest : Halves → Place → ℕ → Halves
rest a f e = opened f.gone (slice f.at e a)

-- place f lies in a list that ends at e: fewer halves are gone than its entry has
pub record Lies (a : Halves) (f : Place) (e : ℕ) : Type 0 where
  pub stands : Stands a f.at e
  pub partly : f.at < e → f.gone < (entry a f.at).1

-- what the entry at place f still has
abbrev pub still : Halves → Place → ℕ
still a f = (entry a f.at).1 - f.gone

-- the place m halves on, in an entry of the given amount
unfoldable pub onward : Place → ℕ → ℕ → Place
onward f amount m = pick (f.gone + m) amount (record { at = f.at + 1; gone = 0 }) (record { at = f.at; gone = f.gone + m })

-- place f lies k halves on in the list from b to e: the first k halves stand before it, the others after it
pub record Cut (a : Halves) (b e k : ℕ) (f : Place) : Type 0 where
  pub begins : b ≤ f.at
  pub lies : Lies a f e
  pub before : take_halves k (slice b e a) ≡ slice b f.at a ++ put (entry a f.at).0 f.gone []
  pub after : drop_halves k (slice b e a) ≡ rest a f e

-- places in two lists at entries, with more in each entry than is gone
pub record Fronts (u : Halves) (g : Place) (d : Halves) (h : Place) : Type 0 where
  pub up-inside : g.at < length u
  pub up-partly : g.gone ≤ (entry u g.at).1
  pub down-inside : h.at < length d
  pub down-partly : h.gone ≤ (entry d h.at).1

-- the list of ups from b to the top has enough halves for the list of downs from place f to the top, and array p has room for the pairs from the top on
pub record Matchable (u : Halves) (b : ℕ) (d : Halves) (f : Place) (p : List Pair) (t : Tops) : Type 0 where
  pub ups : Stands u b t.ups
  pub downs : Lies d f t.downs
  pub enough : halves (rest d f t.downs) ≤ halves (slice b t.ups u)
  pub room : t.pairs + length (match (slice b t.ups u) (rest d f t.downs)) ≤ length p

-- the pairs of the match are added to the pair list, and the other ups stand behind place g
pub record Matching (u : Halves) (b : ℕ) (d : Halves) (f : Place) (p : List Pair) (t : Tops) (z : List Pair) (g : Place) (k : ℕ) : Type 0 where
  pub pairs : Added p t.pairs z k (match (slice b t.ups u) (rest d f t.downs))
  pub begins : b ≤ g.at
  pub lies : Lies u g t.ups
  pub left : rest u g t.ups ≡ drop_halves (halves (rest d f t.downs)) (slice b t.ups u)

-- the lists of ups and downs that stand between b and e can be settled: the ups have enough halves for the downs after the first `down`,
-- and there is room for the pairs, and for one entry more of downs
pub record Settling (u d : Halves) (p : List Pair) (b e : Tops) (down : ℕ) : Type 0 where
  pub ups : Stands u b.ups e.ups
  pub downs : Stands d b.downs e.downs
  pub enough : halves (slice b.downs e.downs d) ≤ halves (slice b.ups e.ups u) + down
  pub spare : e.downs < length d
  pub room : e.pairs + length (match (slice b.ups e.ups u) (drop_halves down (slice b.downs e.downs d))) ≤ length p

-- they are settled: the last ups and the first downs stay, the others are matched
pub record Settled (u d : Halves) (p : List Pair) (b e : Tops) (down : ℕ) (x y : Halves) (z : List Pair) (r : Tops) : Type 0 where
  pub ups : Kept u e.ups b.ups x r.ups (drop_halves (halves (slice b.downs e.downs d) - down) (slice b.ups e.ups u))
  pub downs : Added d b.downs y r.downs (take_halves down (slice b.downs e.downs d))
  pub pairs : Added p e.pairs z r.pairs (match (slice b.ups e.ups u) (drop_halves down (slice b.downs e.downs d)))
