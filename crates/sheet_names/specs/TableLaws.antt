-- The table of hashes tells the look-up, and entering a site keeps it. From the newest site with a name's hash back to the oldest, every site
-- with that hash is met, so a site of the name is met before the chain ends.
use Rattle.std.specs.Prelude.{Option, Some, None, Bool, true, false, cond, List, [], ◌∷◌, ◌++◌, ◌≢◌, ◌≡◌, refl, ℕ, ◌+◌, ◌-◌, ◌*◌, ◌%◌, ◌≤◌, ◌<◌, ltb, drop, set, replicate}
use Rattle.std.proofs.Common.{sym, ap, ◌∙◌, mod-lt, zero-add, add-one, drop_of_length-le, drop-cons}
use Rattle.std.proofs.Math.Decide.{dec_lt}
use native.Mathlib.Omega.{arith}
use Rattle.std.specs.Int.Bits.{bit_and}
use Rattle.std.proofs.Math.ListN.{length, length-set, length-append, get_or-append}
use Rattle.std.proofs.lemmas.List.{length-replicate}
use Rattle.std.proofs.Math.Seq.{get_or-set_same, get_or-set_other, get_or-append_seam}
use Rattle.lists.specs.Numbers.{look}
use Rattle.lists.specs.Places.{look-zeros}
use Rattle.lists.specs.Sums.{same?}
use Rattle.model.specs.Limits.{SITES}
use Rattle.text_fields.specs.Fields.{SameName, caseless, last_word}
use Rattle.text_fields.specs.Capitals.{length-caseless, caseless-at, same_length, same_names_are_caseless_alike}
use Rattle.sheet_names.specs.Names.{HASHES, TABLE, part, lookup, ranges, name_at, hash_from, hash, entered, Newest, Distinct, Indexes}
use Rattle.sheet_names.specs.LookupLaws.{Says, lookup_says, first_is_found, length-ranges, range_at, ranges_more}

-- ---- hashes

-- a hash is a place of the table
from-below : (h : ℕ) (f : List ℕ) → h < HASHES → hash_from h f < HASHES
unfolding hash_from
from-below h [] l = l
from-below h (b ∷ bs) l = from-below ((h * 31 + b) % HASHES) bs (mod-lt (h * 31 + b) (omega arith))

pub hash-below : (f : List ℕ) → hash f < HASHES
unfolding hash
hash-below f = by (ltb (length f) 8)
  where
    by : (t : Bool) → cond t (hash_from 0 (caseless f)) (last_word (caseless f) % 1531) < HASHES
    by true = from-below 0 (caseless f) (omega arith)
    by false = let below : last_word (caseless f) % 1531 < 1531 = mod-lt (last_word (caseless f)) (omega arith) in omega arith

-- names that are the same have one hash
pub same_names_have_one_hash : (f g : List ℕ) → SameName f g → hash f ≡ hash g
unfolding hash
same_names_have_one_hash f g e = rw (same_length f g e, same_names_are_caseless_alike f g e)

-- the caseless bytes from place i on, by the byte at i
pub hash_step : (h : ℕ) (f : List ℕ) (i : ℕ) → i < length f
    → hash_from h (drop i (caseless f)) ≡ hash_from ((h * 31 + bit_and (look f i) 223) % HASHES) (drop (i + 1) (caseless f))
unfolding hash_from
hash_step h f i l = rw (drop-cons (caseless f) i 0 (omega (arith, length-caseless f)), add-one, caseless-at f i)

pub hash-end : (h : ℕ) (f : List ℕ) (i : ℕ) → length f ≤ i → hash_from h (drop i (caseless f)) ≡ h
unfolding hash_from
hash-end h f i l = rw (drop_of_length-le (caseless f) {i = i} (omega (arith, length-caseless f)))

-- ---- the look-up

-- the sites from v on do not have the name, and site v has its hash: what is known on the way back along a chain
pub record Back (s : List ℕ) (names : List (ℕ × ℕ)) (f : List ℕ) (v : ℕ) : Type 0 where
  pub within : v ≤ length names
  pub own : 1 ≤ v → hash (name_at s names (v - 1)) ≡ hash f
  pub after : (i : ℕ) → v ≤ i → i < length names → ¬ (SameName (name_at s names i) f)

module _ {s : List ℕ} {names : List (ℕ × ℕ)} {table : List ℕ} (t : Indexes s names table) (f : List ℕ) where
  -- at the newest site
  pub back_from : Back s names f (look table (hash f))
  back_from = let n = t.newest (hash f) (hash-below f) in
      record { within = n.within; own = n.own; after = λ i l h e. n.after i l h (same_names_have_one_hash _ f e) }

  -- from a site of another name to the next
  pub back_to : (v : ℕ) → Back s names f v → 1 ≤ v → (¬ (SameName (name_at s names (v - 1)) f)) → Back s names f (look table (HASHES + v))
  back_to v b l d =
      let here : v - 1 + 1 ≡ v = omega arith in
      let n = rw (here, b.own l) at (t.older (v - 1) (omega (arith, b.within))) in
      record {
        within = omega (arith, n.within, b.within);
        own = n.own;
        after = λ i g h. same? i (v - 1)
            (λ e. rw e d)
            (λ e. elim (dec_lt i v) [ yes k ↦ λ z. n.after i g (omega arith) (same_names_have_one_hash _ f z) | no k ↦ b.after i (omega arith) h ]);
      }

  -- which is an older one
  pub goes_back : (v : ℕ) → 1 ≤ v → v ≤ length names → look table (HASHES + v) < v
  goes_back v l h =
      let here : v - 1 + 1 ≡ v = omega arith in
      let n = rw here at (t.older (v - 1) (omega arith)) in
      omega (arith, n.within)

  -- at the end of the chain
  pub none-there : Back s names f 0 → lookup s names f ≡ None
  none-there b = by (lookup s names f) (lookup_says s f names 1)
    where
      by : (w : Option ℕ) → Says s names 1 f w → w ≡ None
      by (Some v) h = absurd (b.after h.0 (omega arith) h.2 h.3)
      by None h = refl

  pub site-there : (v : ℕ) → 1 ≤ v → v ≤ length names → SameName (name_at s names (v - 1)) f → lookup s names f ≡ Some v
  site-there v l h e =
      first_is_found s f names 1 (v - 1) (omega arith) e (λ j b z. t.distinct.different (v - 1) (omega arith) j b (z ∙ sym e)) ∙ ap Some (omega arith)

-- each of distinct names lies on the sheet
pub lies_there : {s : List ℕ} (starts ends : List ℕ) (n : ℕ) → Distinct s (ranges starts ends 0 n) → (i : ℕ) → i < n
    → (look starts i ≤ look ends i) × (look ends i ≤ length s)
lies_there starts ends n d i l =
    rw (range_at starts ends n i l) at (d.on_sheet i (omega (arith, length-ranges starts ends 0 n)))

-- ---- entering

pub no_sites : (s : List ℕ) → Indexes s [] (replicate TABLE 0)
no_sites s = record {
  distinct = record { different = λ j l. absurd (omega arith); on_sheet = λ i l. absurd (omega arith) };
  long = length-replicate {A = ℕ} TABLE 0;
  newest = λ h l. record {
    within = omega (arith, look-zeros TABLE h);
    own = λ g. absurd (omega (arith, look-zeros TABLE h));
    after = λ i g k. absurd (omega arith);
  };
  older = λ i l. absurd (omega arith);
}

-- a site more
module _ {s : List ℕ} {names : List (ℕ × ℕ)} {table : List ℕ} (t : Indexes s names table) (r : ℕ × ℕ) (room : length names < SITES) where
  -- the names of the sites before it are the same
  before : (i : ℕ) → i < length names → name_at s (names ++ (r ∷ [])) i ≡ name_at s names i
  before i l = ap (part s) (get_or-append names (r ∷ []) (0, 0) i l)

  its_own : name_at s (names ++ (r ∷ [])) (length names) ≡ part s r
  its_own = ap (part s) (get_or-append_seam names r [] (0, 0))

  -- the newest among them is the same
  kept : (h n v : ℕ) → n ≤ length names → Newest s names h n v → Newest s (names ++ (r ∷ [])) h n v
  kept h n v l w = record {
    within = w.within;
    own = λ g. rw (before (v - 1) (omega (arith, w.within))) (w.own g);
    after = λ i g k. rw (before i (omega arith)) (w.after i g k);
  }

  -- what stands where: its own number at its hash, the one that was at its place, and all else as before
  place : ℕ
  place = hash (part s r)

  after : List ℕ
  after = entered table place (length names + 1)

  at_place : look after place ≡ length names + 1
  unfolding place after
  at_place = get_or-set_same (set table (HASHES + (length names + 1)) (look table place)) place (length names + 1) 0
      (omega (arith, hash-below (part s r), t.long, length-set table (HASHES + (length names + 1)) (look table place)))

  at_other : (k : ℕ) → k ≢ place → k ≢ HASHES + (length names + 1) → look after k ≡ look table k
  unfolding after
  at_other k d e = get_or-set_other (set table (HASHES + (length names + 1)) (look table place)) place k (length names + 1) 0 d
      ∙ get_or-set_other table (HASHES + (length names + 1)) k (look table place) 0 e

  at_older : look after (HASHES + (length names + 1)) ≡ look table place
  unfolding place after
  at_older = get_or-set_other (set table (HASHES + (length names + 1)) (look table place)) place (HASHES + (length names + 1)) (length names + 1) 0
      (λ e. omega (arith, hash-below (part s r)))
      ∙ get_or-set_same table (HASHES + (length names + 1)) (look table place) 0 (omega (arith, t.long))

  newest_after : (h : ℕ) → h < HASHES → Newest s (names ++ (r ∷ [])) h (length names + 1) (look after h)
  unfolding place
  newest_after h l = same? h place
      (λ e. rw (e, at_place) (record {
        within = omega arith;
        own = λ g. let here : length names + 1 - 1 ≡ length names = omega arith in rw (here, its_own);
        after = λ i g k. absurd (omega arith);
      }))
      (λ d. let w = kept h (length names) (look table h) (omega arith) (t.newest h l) in
      rw (at_other h d (λ e. omega arith)) (record {
        within = omega (arith, w.within);
        own = w.own;
        after = λ i g k. same? i (length names) (λ e. rw (e, its_own) (λ z. d (sym z))) (λ e. w.after i g (omega arith));
      }))

  older_after : (i : ℕ) → i < length names + 1 → Newest s (names ++ (r ∷ [])) (hash (name_at s (names ++ (r ∷ [])) i)) i (look after (HASHES + (i + 1)))
  unfolding place
  older_after i l = same? i (length names)
      (λ e. rw (e, at_older, its_own) (kept place (length names) (look table place) (omega arith) (t.newest place (hash-below (part s r)))))
      (λ d. rw (at_other (HASHES + (i + 1)) (λ e. omega (arith, hash-below (part s r))) (λ e. d (omega arith)), before i (omega arith))
      (kept _ i _ (omega arith) (t.older i (omega arith))))

  pub site-entered : Distinct s (names ++ (r ∷ [])) → Indexes s (names ++ (r ∷ [])) (entered table (hash (part s r)) (length names + 1))
  unfolding place after
  site-entered distinct =
      let more : length (names ++ (r ∷ [])) ≡ length names + 1 = length-append names (r ∷ []) in
      record {
        distinct = distinct;
        long = length-set (set table (HASHES + (length names + 1)) (look table place)) place (length names + 1)
            ∙ length-set table (HASHES + (length names + 1)) (look table place) ∙ t.long;
        newest = λ h l. rw more (newest_after h l);
        older = λ i l. older_after i (omega arith);
      }

-- the first k of n ranges are such names where all are
front_distinct : (s starts ends : List ℕ) (n k : ℕ) → k ≤ n → Distinct s (ranges starts ends 0 n) → Distinct s (ranges starts ends 0 k)
front_distinct s starts ends n k l d =
    let all = length-ranges starts ends 0 n in
    let few = length-ranges starts ends 0 k in
    record {
      different = λ j h i b. rw (range_at starts ends k i (omega arith), range_at starts ends k j (omega arith))
          (rw (range_at starts ends n i (omega arith), range_at starts ends n j (omega arith)) at (d.different j (omega arith) i b));
      on_sheet = λ i h. rw (range_at starts ends k i (omega arith)) (rw (range_at starts ends n i (omega arith)) at (d.on_sheet i (omega arith)));
    }

-- the table of the first k of n ranges with the next one entered
pub next-entered : (s starts ends table : List ℕ) (n k : ℕ) → n ≤ SITES → k < n → Distinct s (ranges starts ends 0 n)
    → Indexes s (ranges starts ends 0 k) table
    → Indexes s (ranges starts ends 0 (k + 1)) (entered table (hash (part s (look starts k, look ends k))) (k + 1))
next-entered s starts ends table n k room l distinct t =
    let r : ℕ × ℕ = (look starts k, look ends k) in
    let more : ranges starts ends 0 (k + 1) ≡ ranges starts ends 0 k ++ (r ∷ []) = rw zero-add at (ranges_more starts ends 0 k) in
    let few = length-ranges starts ends 0 k in
    rw more (rw few at (site-entered t r (omega arith) (rw more at (front_distinct s starts ends n (k + 1) (omega arith) distinct))))
