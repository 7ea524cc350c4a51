-- One step in the notes is one step of the definitions, and the numbers stay small; steps along the order.
use mathlib.Core.Path.{◌≡◌, refl, sym, ap, ◌∙◌, fun_ext}
use mathlib.Core.Logic.{ite, if_pos, if_neg}
use mathlib.Core.List.{List, [], ◌∷◌, ◌++◌}
use Prim.Native.Nat.{ℕ, zero, suc, ◌+◌, ◌-◌, ◌*◌, ◌%◌, ◌≤◌, ◌<◌, min}
use native.Mathlib.Omega.{arith}
use native.Mathlib.Decide.{dec_lt, dec_le}
use native.Mathlib.Numerals.{add-one}
use lib.ListN.{length, set, length-set, take as front, drop, drop_of_length-le, replicate, length-replicate}
use lib.Seq.{get_or-set_same, get_or-set_other, take-suc, drop-cons, get_or-take, length-take-le}
use Rattle.model.specs.Limits.{PLACES, SITES, SIZE}
use Rattle.lists.specs.Numbers.{pick, look}
use Rattle.lists.specs.Sums.{pick_same, pick_other, pick_cases, same?, cases}
use Rattle.model.specs.WholeLoads.{Intervals, Loading, no_intervals, put, lowest, highest, owner_at, new_top, least_at, top_load, coming}
use Rattle.model.specs.WholeLoads.{take, take_all, give, give_all}
use Rattle.whole_notes.specs.declared.Note.{Note}
use Rattle.whole_notes.specs.Notes.{Within, note, blank, intervals_of, loading_of, taken_note, joined_note, come_note, loaded_note}
use Rattle.whole_loops.specs.Ways.{Given, Fresh, Inward, Found}

-- ---- a note is written

module _ (l : List Note) (x : ℕ) (y : Note) (h : x < length l) where
  -- a field of the notes has the new value at x
  written : (f : Note → ℕ) → ◌≡◌ {A = ℕ → ℕ} (λ z. f (note (set l x y) z)) (put (λ z. f (note l z)) x (f y))
  unfolding put
  written f = fun_ext (λ z. same? z x
      (λ e. rw (pick_same e, e) (ap f (get_or-set_same l x y blank h)))
      (λ d. rw (pick_other d) (ap f (get_or-set_other l x z y blank d))))

  -- a field that has the same value in the new note is as it was
  kept : (f : Note → ℕ) → f y ≡ f (note l x) → ◌≡◌ {A = ℕ → ℕ} (λ z. f (note (set l x y) z)) (λ z. f (note l z))
  kept f e = fun_ext (λ z. same? z x
      (λ w. rw w (ap f (get_or-set_same l x y blank h) ∙ e))
      (λ d. ap f (get_or-set_other l x z y blank d)))

  -- what holds of all notes and of the new one holds of all
  each : (P : Note → Type 0) → ((z : ℕ) → P (note l z)) → P y → (z : ℕ) → P (note (set l x y) z)
  each P all new z = same? z x
      (λ e. rw (e, get_or-set_same l x y blank h) new)
      (λ d. rw (get_or-set_other l x z y blank d) (all z))

-- ---- numbers stay small

highest-le : (least most k : ℕ) → highest least most k ≤ k
unfolding highest
highest-le least most k = cases (dec_lt k least)
    (λ l. rw (if_pos (dec_lt k least) l) (omega arith))
    (λ l. rw (if_neg (dec_lt k least) l) (omega arith))

pick-le : (m u v a b : ℕ) → a ≤ m → b ≤ m → pick u v a b ≤ m
pick-le m u v a b h k = pick_cases (λ r. r ≤ m) u v a b (λ e. h) (λ d. k)

ite_le : {P : Type 0} (m : ℕ) (t : Dec P) (a b : ℕ) → a ≤ m → b ≤ m → ite t a b ≤ m
ite_le m t a b h k = cases t (λ l. rw (if_pos t l) h) (λ l. rw (if_neg t l) k)

within_more : {m m' : ℕ} {e : Note} → m ≤ m' → Within m e → Within m' e
within_more h w = record {
  sum = omega arith;
  lowest = w.lowest;
  highest = w.highest;
  child = w.child;
  leads = w.leads;
  loaded = w.loaded;
  owned = w.owned;
}

module _ {m : ℕ} {here other : Note} (w : Within m here) (o : Within m other) (terminal : ℕ) {c v : ℕ} (small : c ≤ SIZE) (site : v ≤ SITES) where
  taken-within : Within m (taken_note terminal c v here other)
  unfolding taken_note lowest
  taken-within =
      let done = taken_note terminal c v here other in
      let high : done.high ≤ SIZE = omega (arith, highest-le done.least here.most c) in
      record {
        sum = w.sum;
        lowest = omega arith;
        highest = high;
        child = w.child;
        leads = pick-le SITES terminal 1 v other.goal site o.leads;
        loaded = high;
        owned = w.owned;
      }

  come-within : Within m (come_note c v here other)
  unfolding come_note owner_at
  come-within = record {
    sum = w.sum;
    lowest = w.lowest;
    highest = w.highest;
    child = w.child;
    leads = w.leads;
    loaded = w.loaded;
    owned = pick-le SITES (come_note c v here other).on 1 here.goal (ite (dec_le here.most c) other.owner 0) w.leads
        (ite_le SITES (dec_le here.most c) other.owner 0 o.owned (omega arith));
  }

module _ {m : ℕ} {here : Note} (w : Within m here) (terminal : ℕ) where
  joined-within : (p was v : ℕ) {high : ℕ} → v ≤ SITES → high ≤ SIZE → Within (m + SIZE) (joined_note terminal p was v high here)
  unfolding joined_note new_top
  joined-within p was v {high} site small =
      let old = here.top in
      let new = ite (dec_lt was high) v old in
      record {
        sum = omega arith;
        lowest = w.lowest;
        highest = w.highest;
        child = pick-le SITES p 0 0 (pick terminal 1 0 (pick old 0 v new)) (omega arith)
            (pick-le SITES terminal 1 0 (pick old 0 v new) (omega arith)
            (pick-le SITES old 0 v new site (ite_le SITES (dec_lt was high) v old site w.child)));
        leads = w.leads;
        loaded = w.loaded;
        owned = w.owned;
      }

  loaded-within : (h : ℕ) → Within m (loaded_note terminal h here)
  unfolding loaded_note top_load
  loaded-within h = record {
    sum = w.sum;
    lowest = w.lowest;
    highest = w.highest;
    child = w.child;
    leads = w.leads;
    loaded = pick-le SIZE terminal 1 here.load (min (here.high - h % 2) (h - here.high)) w.loaded (omega (arith, w.highest));
    owned = w.owned;
  }

-- ---- the way inward

abbrev six : (least most low high top goal : ℕ → ℕ) → Intervals
six least most low high top goal = record { least = least; most = most; low = low; high = high; top = top; goal = goal }

same-intervals : {least most low high top goal least' most' low' high' top' goal' : ℕ → ℕ}
    → least ≡ least' → most ≡ most' → low ≡ low' → high ≡ high' → top ≡ top' → goal ≡ goal'
    → six least most low high top goal ≡ six least' most' low' high' top' goal'
same-intervals p q r s t u = rw (p, q, r, s, t, u) refl

-- the notes once site v is taken: its own, then that of its parent
module _ (parent c terminal : ℕ → ℕ) (l : List Note) (v : ℕ) where
  abbrev done : Note
  done = taken_note (terminal v) (c v) v (note l v) (note l (note l v).top)

  abbrev first : List Note
  first = set l v done

  abbrev above : Note
  above = joined_note (terminal (parent v)) (parent v) (note l (note l (parent v)).top).high v done.high (note first (parent v))

  abbrev pub taken_notes : List Note
  taken_notes = set first (parent v) above

  module _ (long : length l ≡ PLACES) (site : v ≤ SITES) (up : parent v ≤ SITES) where
    taken-is-take : intervals_of taken_notes ≡ take parent c terminal (intervals_of l) v
    unfolding take taken_note joined_note new_top least_at
    taken-is-take =
        let p = parent v in
        let a : v < length l = omega arith in
        let b : p < length first = omega (arith, length-set l v done) in
        let was = (note l (note l p).top).high in
        same-intervals
        (kept first p above b (λ e. e.least) refl ∙ written l v done a (λ e. e.least))
        (written first p above b (λ e. e.most) ∙ ap (λ (f : ℕ → ℕ). put f p (f p + done.high)) (kept l v done a (λ e. e.most) refl))
        (kept first p above b (λ e. e.low) refl ∙ written l v done a (λ e. e.low))
        (kept first p above b (λ e. e.high) refl ∙ written l v done a (λ e. e.high))
        (written first p above b (λ e. e.top)
        ∙ ap (λ (f : ℕ → ℕ). put f p (new_top parent c terminal p (f p) was v done.high)) (kept l v done a (λ e. e.top) refl))
        (kept first p above b (λ e. e.goal) refl ∙ written l v done a (λ e. e.goal))

    taken-fresh : ((x : ℕ) → Fresh (note l x)) → (x : ℕ) → Fresh (note taken_notes x)
    unfolding taken_note joined_note
    taken-fresh f =
        let a : v < length l = omega arith in
        let b : parent v < length first = omega (arith, length-set l v done) in
        let g = each l v done a Fresh f record { starts = refl; unowned = (f v).unowned; off = (f v).off } in
        let up = g (parent v) in
        each first (parent v) above b Fresh g record { starts = up.starts; unowned = up.unowned; off = up.off }

    taken-small : {m : ℕ} → c v ≤ SIZE → ((x : ℕ) → Within m (note l x)) → (x : ℕ) → Within (m + SIZE) (note taken_notes x)
    taken-small {m} small w =
        let a : v < length l = omega arith in
        let b : parent v < length first = omega (arith, length-set l v done) in
        let t = taken-within (w v) (w (note l v).top) (terminal v) small site in
        let g = each l v done a (Within m) w t in
        each first (parent v) above b (Within (m + SIZE)) (λ z. within_more (omega arith) (g z))
        (joined-within (g (parent v)) (terminal (parent v)) (parent v) (note l (note l (parent v)).top).high v site t.highest)

snoc : (parent c terminal : ℕ → ℕ) (us : List ℕ) (v : ℕ) (s : Intervals)
    → take_all parent c terminal (us ++ (v ∷ [])) s ≡ take parent c terminal (take_all parent c terminal us s) v
unfolding take_all
snoc parent c terminal [] v s = refl
snoc parent c terminal (u ∷ us) v s = snoc parent c terminal us v (take parent c terminal s u)

pub inward_none : (order parent capacity ends : List ℕ) → Inward 0 order parent capacity ends (replicate PLACES blank)
unfolding take_all
inward_none order parent capacity ends =
    let none : (x : ℕ) → note (replicate PLACES blank) x ≡ blank = look-blank PLACES in
    record {
      places = length-replicate {A = Note} PLACES blank;
      small = λ x. rw (none x) record {
        sum = omega arith;
        lowest = omega arith;
        highest = omega arith;
        child = omega arith;
        leads = omega arith;
        loaded = omega arith;
        owned = omega arith;
      };
      fresh = λ x. rw (none x) record { starts = refl; unowned = refl; off = refl };
      inward = same-intervals (fun_ext (λ x. ap (λ e. e.least) (none x))) (fun_ext (λ x. ap (λ e. e.most) (none x)))
          (fun_ext (λ x. ap (λ e. e.low) (none x))) (fun_ext (λ x. ap (λ e. e.high) (none x)))
          (fun_ext (λ x. ap (λ e. e.top) (none x))) (fun_ext (λ x. ap (λ e. e.goal) (none x)));
    }
  where
    look-blank : (m x : ℕ) → note (replicate m blank) x ≡ blank
    look-blank zero x = refl
    look-blank (suc m) zero = refl
    look-blank (suc m) (suc x) = look-blank m x

-- one site more is taken
pub inward_next : {n : ℕ} {order parent capacity : List ℕ} → Given n order parent capacity → (ends : List ℕ) {l : List Note} (i : ℕ) → i < n
    → Inward i order parent capacity ends l
    → Inward (i + 1) order parent capacity ends (taken_notes (look parent) (look capacity) (look ends) l (look order i))
inward_next {n} {order} {parent} {capacity} g ends {l} i more w =
    let v = look order i in
    let site = g.placed i more in
    let up = g.parents v in
    let e : i * SIZE + SIZE ≡ (i + 1) * SIZE = omega arith in
    record {
      places = simp length-set w.places;
      small = rw (← e) (taken-small (look parent) (look capacity) (look ends) l v w.places site up (g.capacities v) w.small);
      fresh = taken-fresh (look parent) (look capacity) (look ends) l v w.places site up w.fresh;
      inward = taken-is-take (look parent) (look capacity) (look ends) l v w.places site up
          ∙ ap (λ s. take (look parent) (look capacity) (look ends) s v) w.inward
          ∙ sym (snoc (look parent) (look capacity) (look ends) (front i order) v no_intervals)
          ∙ ap (λ us. take_all (look parent) (look capacity) (look ends) us no_intervals)
          (sym (take-suc order i 0 (omega (arith, g.long))) ∙ ap (λ k. front k order) (sym (add-one i)));
    }

-- ---- the way outward

-- what the way outward finds along the sites from place i on of n; `was` are the notes of the way inward
pub record Outward (n i : ℕ) (order parent above ends : List ℕ) (was l : List Note) : Type 0 where
  pub places : length l ≡ PLACES
  pub small : (x : ℕ) → Within (SITES * SIZE) (note l x)
  pub same : intervals_of l ≡ intervals_of was
  pub outward : loading_of l ≡ give_all (look parent) (look above) (look ends) (intervals_of was) (drop i (front n order))

abbrev three : (load owner on : ℕ → ℕ) → Loading
three load owner on = record { load = load; owner = owner; on = on }

same-loading : {load owner on load' owner' on' : ℕ → ℕ} → load ≡ load' → owner ≡ owner' → on ≡ on' → three load owner on ≡ three load' owner' on'
same-loading p q r = rw (p, q, r) refl

-- a value is put only where u and v differ
put_unless : (u v : ℕ) (f : ℕ → ℕ) (t y : ℕ) → ◌≡◌ {A = ℕ → ℕ} (put f t (pick u v (f t) y)) (λ x. pick u v (f x) (put f t y x))
unfolding put
put_unless u v f t y = fun_ext (λ x. same? u v
    (λ e. simp (pick_same {A = ℕ} e) (same? x t (λ w. rw (pick_same w, w) refl) (λ d. rw (pick_other d) refl)))
    (λ d. simp (pick_other {A = ℕ} d)))

-- the notes once site v comes: its own, then that of its greatest child
module _ (parent c terminal : ℕ → ℕ) (l : List Note) (v : ℕ) where
  abbrev here : Note
  here = come_note (c v) v (note l v) (note l (parent v))

  abbrev come : List Note
  come = set l v here

  abbrev top : ℕ
  top = (note l v).top

  abbrev share : ℕ
  share = (note l v).load + (note l v).most

  abbrev child : Note
  child = loaded_note (terminal v) share (note come top)

  abbrev pub given_notes : List Note
  given_notes = set come top child

  module _ (long : length l ≡ PLACES) (site : v ≤ SITES) (low : top ≤ SITES) where
    given-is-give : loading_of given_notes ≡ give parent c terminal (intervals_of l) (loading_of l) v
    unfolding give come_note loaded_note top_load coming
    given-is-give =
        let a : v < length l = omega arith in
        let b : top < length come = omega (arith, length-set l v here) in
        let high : (note come top).high ≡ (note l top).high = ap (λ (f : ℕ → ℕ). f top) (kept l v here a (λ e. e.high) refl) in
        same-loading
        (written come top child b (λ e. e.load)
        ∙ ap (λ (f : ℕ → ℕ). put f top (pick (terminal v) 1 (f top) (top_load parent c terminal (note come top).high share)))
        (kept l v here a (λ e. e.load) refl)
        ∙ ap (λ k. put (λ z. (note l z).load) top (pick (terminal v) 1 (note l top).load (top_load parent c terminal k share))) high
        ∙ put_unless (terminal v) 1 (λ z. (note l z).load) top (top_load parent c terminal (note l top).high share))
        (kept come top child b (λ e. e.owner) refl ∙ written l v here a (λ e. e.owner))
        (kept come top child b (λ e. e.on) refl ∙ written l v here a (λ e. e.on))

    given-keeps-intervals : intervals_of given_notes ≡ intervals_of l
    unfolding come_note loaded_note
    given-keeps-intervals =
        let a : v < length l = omega arith in
        let b : top < length come = omega (arith, length-set l v here) in
        let as_it_was : (f : Note → ℕ) → f child ≡ f (note come top) → f here ≡ f (note l v)
        → ◌≡◌ {A = ℕ → ℕ} (λ z. f (note given_notes z)) (λ z. f (note l z)) =
        λ f p q. kept come top child b f p ∙ kept l v here a f q in
        same-intervals (as_it_was (λ e. e.least) refl refl) (as_it_was (λ e. e.most) refl refl) (as_it_was (λ e. e.low) refl refl)
        (as_it_was (λ e. e.high) refl refl) (as_it_was (λ e. e.top) refl refl) (as_it_was (λ e. e.goal) refl refl)

    given-small : {m : ℕ} → c v ≤ SIZE → ((x : ℕ) → Within m (note l x)) → (x : ℕ) → Within m (note given_notes x)
    given-small {m} small w =
        let a : v < length l = omega arith in
        let b : top < length come = omega (arith, length-set l v here) in
        let g = each l v here a (Within m) w (come-within (w v) (w (parent v)) (terminal v) small site) in
        each come top child b (Within m) g (loaded-within (g top) (terminal v) share)

module _ {n : ℕ} {order parent capacity ends : List ℕ} {was : List Note} where
  pub outward_none : Given n order parent capacity → Inward n order parent capacity ends was → Outward n n order parent capacity ends was was
  unfolding give_all
  outward_none g w = record {
    places = w.places;
    small = λ x. within_more (omega (arith, g.few)) (w.small x);
    same = refl;
    outward = rw (drop_of_length-le (front n order) {i = n} (omega (arith, length-take-le n order g.long)))
        (same-loading (fun_ext (λ x. (w.fresh x).starts)) (fun_ext (λ x. (w.fresh x).unowned)) (fun_ext (λ x. (w.fresh x).off)));
  }

  -- one site more comes
  pub outward_next : Given n order parent capacity → {l : List Note} (i : ℕ) → i < n → Outward n (suc i) order parent capacity ends was l
      → Outward n i order parent capacity ends was (given_notes (look parent) (look capacity) (look ends) l (look order i))
  unfolding give_all
  outward_next g {l} i more w =
      let us = front n order in
      let v = look order i in
      let site = g.placed i more in
      let low = (w.small v).child in
      record {
        places = simp length-set w.places;
        small = given-small (look parent) (look capacity) (look ends) l v w.places site low (g.capacities v) w.small;
        same = given-keeps-intervals (look parent) (look capacity) (look ends) l v w.places site low ∙ w.same;
        outward = given-is-give (look parent) (look capacity) (look ends) l v w.places site low
            ∙ ap (λ s. give (look parent) (look capacity) (look ends) s (loading_of l) v) w.same
            ∙ ap (λ o. give (look parent) (look capacity) (look ends) (intervals_of was) o v) w.outward
            ∙ rw (drop-cons us i 0 (omega (arith, length-take-le n order g.long)), get_or-take n order i 0 more) refl;
      }

-- both ways
pub both_found : {n : ℕ} {order parent capacity ends : List ℕ} {was l : List Note} → Inward n order parent capacity ends was
    → Outward n 0 order parent capacity ends was l → Found n order parent capacity ends l
both_found i o = record {
  places = o.places;
  small = o.small;
  inward = o.same ∙ i.inward;
  outward = rw o.same o.outward;
}

-- ---- a turn of a loop

module _ {n : ℕ} {order parent capacity : List ℕ} (g : Given n order parent capacity) (ends : List ℕ) {l : List Note} where
  -- the places in the notes are known by equations: of the site, its parent, and the greatest child of each
  pub inward_turn : (i : ℕ) → i < n → Inward i order parent capacity ends l → {v p child rival : ℕ}
      → v ≡ look order i → p ≡ look parent v → child ≡ (note l v).top → rival ≡ (note l p).top → (e f : Note)
      → e ≡ taken_note (look ends v) (look capacity v) v (note l v) (note l child)
      → f ≡ joined_note (look ends p) p (note l rival).high v e.high (note (set l v e) p)
      → Inward (i + 1) order parent capacity ends (set (set l v e) p f)
  inward_turn i more w a b top best e f told joined =
      let e-told = rw (top, a) at told in
      let f-told = rw (best, b, a) at joined in
      rw (b, a) (rw (f-told, e-told) (inward_next g ends i more w))

  pub joined_ready : (i : ℕ) → i < n → Inward i order parent capacity ends l → {v : ℕ} → v ≡ look order i → (child p : ℕ) (e : Note)
      → e ≡ taken_note (look ends v) (look capacity v) v (note l v) (note l child)
      → ((note (set l v e) p).most ≤ SITES * SIZE) × (e.high ≤ SIZE)
  joined_ready i more w {v} a child p e told =
      let small : (x : ℕ) → Within (SITES * SIZE) (note l x) = λ x. within_more (omega (arith, g.few)) (w.small x) in
      let site : v ≤ SITES = rw a (g.placed i more) in
      let new : Within (SITES * SIZE) e = rw told (taken-within (small v) (small child) (look ends v) (g.capacities v) site) in
      ((each l v e (omega (arith, site, w.places)) (Within (SITES * SIZE)) small new p).sum, new.highest)

  pub outward_turn : {was : List Note} (i : ℕ) → i < n → Outward n (suc i) order parent capacity ends was l → {v p child : ℕ}
      → v ≡ look order i → p ≡ look parent v → child ≡ (note l v).top → (e f : Note)
      → e ≡ come_note (look capacity v) v (note l v) (note l p)
      → f ≡ loaded_note (look ends v) ((note l v).load + (note l v).most) (note (set l v e) child)
      → Outward n i order parent capacity ends was (set (set l v e) child f)
  outward_turn i more w a b top e f told loaded =
      let e-told = rw (b, a) at told in
      let f-told = rw (top, a) at loaded in
      rw (top, a) (rw (f-told, e-told) (outward_next g i more w))
