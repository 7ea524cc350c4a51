-- The notes of the two ways, read as the intervals and the loading of model/WholeLoads; what a note becomes when its site, a child or the parent has its turn.
use Rattle.std.specs.Prelude.{List, ℕ, ◌+◌, ◌-◌, ◌%◌, ◌≤◌, max, get_or}
use Rattle.model.specs.Limits.{SITES, SIZE}
use Rattle.lists.specs.Numbers.{pick, is}
use Rattle.model.specs.WholeLoads.{Intervals, Loading, lowest, highest, on_way, owner_at, new_top, top_load}
use Rattle.whole_notes.specs.declared.Note.{Note}

-- ---- notes

-- the note of a site to which no way came
abbrev pub blank : Note
blank = record { least = 0; most = 0; low = 0; high = 0; top = 0; goal = 0; load = 0; owner = 0; on = 0 }

-- the note of site x
abbrev pub note : List Note → ℕ → Note
note l x = get_or l x blank

-- the intervals that are noted
abbrev pub intervals_of : List Note → Intervals
intervals_of l = record {
  least = λ x. (note l x).least;
  most = λ x. (note l x).most;
  low = λ x. (note l x).low;
  high = λ x. (note l x).high;
  top = λ x. (note l x).top;
  goal = λ x. (note l x).goal;
}

-- the loads and sets that are noted
abbrev pub loading_of : List Note → Loading
loading_of l = record { load = λ x. (note l x).load; owner = λ x. (note l x).owner; on = λ x. (note l x).on }

-- numbers that do not grow too large: no sum above m, no site above SITES, nothing else above SIZE
pub record Within (m : ℕ) (e : Note) : Type 0 where
  pub sum : e.most ≤ m
  pub lowest : e.low ≤ SIZE
  pub highest : e.high ≤ SIZE
  pub child : e.top ≤ SITES
  pub leads : e.goal ≤ SITES
  pub loaded : e.load ≤ SIZE
  pub owned : e.owner ≤ SITES

-- ---- one step

-- the least load at a site, by the interval of its greatest child and the sum of all
abbrev pub least_of : ℕ → ℕ → ℕ → ℕ → ℕ → ℕ
least_of terminal c low high most = pick terminal 1 (c + 2) (max (low + high - most) (most % 2))

-- v is taken: c is the capacity to the parent, `child` the note of the greatest child
unfoldable pub taken_note : ℕ → ℕ → ℕ → Note → Note → Note
taken_note terminal c v here child =
    let least = least_of terminal c child.low child.high here.most in
    let high = highest least here.most c in
    record {
      least = least;
      most = here.most;
      low = lowest least c;
      high = high;
      top = here.top;
      goal = pick terminal 1 v child.goal;
      load = high;
      owner = here.owner;
      on = here.on;
    }

-- the parent p of v once v is taken; its greatest child so far has the value `was`
unfoldable pub joined_note : ℕ → ℕ → ℕ → ℕ → ℕ → Note → Note
joined_note terminal p was v high here = record {
  least = here.least;
  most = here.most + high;
  low = here.low;
  high = here.high;
  top = new_top (λ x. 0) (λ x. 0) (λ x. terminal) p here.top was v high;
  goal = here.goal;
  load = here.load;
  owner = here.owner;
  on = here.on;
}

-- v comes: `up` is the note of its parent
unfoldable pub come_note : ℕ → ℕ → Note → Note → Note
come_note c v here up =
    let on = on_way here.least c (pick up.on 1 (is up.top v) 0) in
    record {
      least = here.least;
      most = here.most;
      low = here.low;
      high = here.high;
      top = here.top;
      goal = here.goal;
      load = here.load;
      owner = owner_at on here.goal here.most c up.owner;
      on = on;
    }

-- the greatest child of a site with h to share
unfoldable pub loaded_note : ℕ → ℕ → Note → Note
loaded_note terminal h child = record {
  least = child.least;
  most = child.most;
  low = child.low;
  high = child.high;
  top = child.top;
  goal = child.goal;
  load = pick terminal 1 child.load (top_load (λ x. 0) (λ x. 0) (λ x. 0) child.high h);
  owner = child.owner;
  on = child.on;
}
