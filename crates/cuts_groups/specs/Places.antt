-- A list with a place for each site: place x - 1 is that of site x. Then its laws: what it holds, one site more, its sum, and how often a number stands in it.
use Rattle.std.specs.Prelude.{◌≡◌, ◌≢◌, List, [], ◌∷◌, ◌++◌, map, set}
use Rattle.std.proofs.Math.Path.{refl, ap}
use Rattle.std.proofs.Common.{sym, ◌∙◌, add-zero, add-suc, suc-add, add-one, one-add, arith, length-set, ext_get_or, get_or-set_same, get_or-set_other}
use Prim.Native.Nat.{ℕ, zero, suc, ◌+◌, ◌-◌, ◌≤◌, ◌<◌}
use Rattle.std.proofs.Math.Decide.{dec_lt}
use Rattle.std.proofs.Math.ListN.{length, replicate, length-append, length-replicate, get_or-append}
use Rattle.std.proofs.lemmas.List.{length-map}
use Rattle.std.proofs.Math.Seq.{get_or-append-add}
use Rattle.model.specs.Limits.{SITES}
use Rattle.lists.specs.Numbers.{pick, is, sum, over, count, look, upfrom}
use Rattle.model.specs.Flows.{sites}
use Rattle.lists.specs.Sums.{pick_same, pick_other, is-other, cases, same?, sum-eq}
use Rattle.lists.specs.Places.{length-upfrom, look-zeros}
use Rattle.lists.specs.Parts.{sum_past, over-upfrom}

-- f at the sites 1 .. n, then 0 up to SITES places
unfoldable pub places : ℕ → (ℕ → ℕ) → List ℕ
places n f = map f (sites n) ++ replicate (SITES - n) 0

-- f at a terminal, 0 at an inner site
unfoldable pub of_terminal : (ℕ → ℕ) → (ℕ → ℕ) → ℕ → ℕ
of_terminal terminal f x = pick (terminal x) 1 (f x) 0

-- ---- f at terminals

pub of_inner : (terminal f : ℕ → ℕ) (x : ℕ) → terminal x ≢ 1 → of_terminal terminal f x ≡ 0
unfolding of_terminal
of_inner terminal f x d = pick_other d (f x) 0

pub of_terminal_lem : (terminal f : ℕ → ℕ) (x : ℕ) → terminal x ≡ 1 → of_terminal terminal f x ≡ f x
unfolding of_terminal
of_terminal_lem terminal f x e = pick_same e (f x) 0

pub of_alike : (terminal f g : ℕ → ℕ) → ((x : ℕ) → f x ≡ g x) → (x : ℕ) → of_terminal terminal f x ≡ of_terminal terminal g x
unfolding of_terminal
of_alike terminal f g e x = rw (e x) refl

-- ---- the places

module _ (f : ℕ → ℕ) where
  length-sites : (n : ℕ) → length (map f (sites n)) ≡ n
  length-sites n = length-map (sites n) f ∙ length-upfrom 1 n

  pub length-places : (n : ℕ) → n ≤ SITES → length (places n f) ≡ SITES
  unfolding places
  length-places n h = omega (arith, length-append (map f (sites n)) (replicate (SITES - n) 0), length-sites n, length-replicate {A = ℕ} (SITES - n) 0)

  look-from : (b n i : ℕ) → i < n → look (map f (upfrom b n)) i ≡ f (b + i)
  unfolding upfrom
  look-from b zero i h = absurd (omega arith)
  look-from b (suc n) zero h = rw (add-zero b) refl
  look-from b (suc n) (suc i) h = rw (add-suc b i, ← (suc-add b i)) (look-from (suc b) n i (omega arith))

  pub look-places : (n i : ℕ) → i < n → look (places n f) i ≡ f (suc i)
  unfolding places
  look-places n i h =
      get_or-append (map f (sites n)) (replicate (SITES - n) 0) 0 i (omega (arith, length-sites n))
      ∙ look-from 1 n i h
      ∙ ap f (one-add i)

  pub past_places : (n i : ℕ) → n ≤ i → look (places n f) i ≡ 0
  unfolding places
  past_places n i h =
      let e : i ≡ length (map f (sites n)) + (i - n) = omega (arith, length-sites n) in
      ap (look (map f (sites n) ++ replicate (SITES - n) 0)) e ∙ get_or-append-add (map f (sites n)) (replicate (SITES - n) 0) (i - n) 0
      ∙ look-zeros (SITES - n) (i - n)

  -- a list of SITES places is told by what it holds at the sites
  pub places_is : (n : ℕ) (l : List ℕ) → n ≤ SITES → length l ≡ SITES → ((i : ℕ) → i < n → look l i ≡ f (suc i))
      → ((i : ℕ) → n ≤ i → i < SITES → look l i ≡ 0) → l ≡ places n f
  places_is n l h e at past = ext_get_or 0 l (places n f) (e ∙ sym (length-places n h)) (λ i lt. cases (dec_lt i n)
      (λ k. at i k ∙ sym (look-places n i k))
      (λ k. past i (omega arith) (omega arith) ∙ sym (past_places n i (omega arith))))

  -- the next site's place is set, or keeps its 0
  places-next : (n : ℕ) → n < SITES → set (places n f) n (f (suc n)) ≡ places (suc n) f
  places-next n h = places_is (suc n) (set (places n f) n (f (suc n))) h (length-set (places n f) n (f (suc n)) ∙ length-places n (omega arith))
      (λ i lt. same? i n
      (λ e. rw e (get_or-set_same (places n f) n (f (suc n)) 0 (omega (arith, length-places n (omega arith)))))
      (λ d. get_or-set_other (places n f) n i (f (suc n)) 0 d ∙ look-places n i (omega arith)))
      (λ i le lt. get_or-set_other (places n f) n i (f (suc n)) 0 (λ e. omega arith) ∙ past_places n i (omega arith))

  places_skip : (n : ℕ) → n < SITES → f (suc n) ≡ 0 → places n f ≡ places (suc n) f
  places_skip n h z = places_is (suc n) (places n f) h (length-places n (omega arith))
      (λ i lt. same? i n (λ e. rw e (past_places n n (omega arith) ∙ sym z)) (λ d. look-places n i (omega arith)))
      (λ i le lt. past_places n i (omega arith))

  pub places-none : replicate SITES 0 ≡ places 0 f
  unfolding places upfrom
  places-none = refl

-- the places of terminals, one site more
module _ (terminal f : ℕ → ℕ) {now : List ℕ} (i : ℕ) (h : i < SITES) (e : now ≡ places i (of_terminal terminal f)) where
  pub places-terminal : {v : ℕ} → terminal (i + 1) ≡ 1 → v ≡ f (i + 1) → set now i v ≡ places (i + 1) (of_terminal terminal f)
  places-terminal = rw (add-one i, e) (λ o g. ap (set (places i (of_terminal terminal f)) i) (g ∙ sym (of_terminal_lem terminal f (suc i) o))
      ∙ places-next (of_terminal terminal f) i h)

  pub places_inner : terminal (i + 1) ≢ 1 → now ≡ places (i + 1) (of_terminal terminal f)
  places_inner = rw (add-one i) (λ d. e ∙ places_skip (of_terminal terminal f) i h (of_inner terminal f (suc i) d))

pub places_upto : (f g : ℕ → ℕ) (n : ℕ) → n ≤ SITES → ((i : ℕ) → i < n → f (suc i) ≡ g (suc i)) → places n f ≡ places n g
places_upto f g n h e = places_is g n (places n f) h (length-places f n h) (λ i lt. look-places f n i lt ∙ e i lt) (λ i le lt. past_places f n i le)

pub places_same : (f g : ℕ → ℕ) (n : ℕ) → n ≤ SITES → ((x : ℕ) → f x ≡ g x) → places n f ≡ places n g
places_same f g n h e = places_upto f g n h (λ i lt. e (suc i))

-- where f is 0 there are zeros only
pub places-zero : (f : ℕ → ℕ) (n : ℕ) → n ≤ SITES → ((x : ℕ) → f x ≡ 0) → replicate SITES 0 ≡ places n f
places-zero f n h z = places_is f n (replicate SITES 0) h (length-replicate {A = ℕ} SITES 0) (λ i lt. look-zeros SITES i ∙ sym (z (suc i)))
    (λ i le lt. look-zeros SITES i)

pub places-sum : (f : ℕ → ℕ) (n : ℕ) → n ≤ SITES → sum SITES (look (places n f)) ≡ over (sites n) f
places-sum f n h =
    let all : SITES ≡ n + (SITES - n) = omega arith in
    ap (λ m. sum m (look (places n f))) all
    ∙ sum_past (look (places n f)) n (SITES - n) (past_places f n)
    ∙ sum-eq n (look (places n f)) (λ i. f (1 + i)) (λ i lt. look-places f n i lt ∙ ap f (sym (one-add i)))
    ∙ sym (over-upfrom f 1 n)

-- how often a number other than 0 stands in the places
pub places_count : (f : ℕ → ℕ) (n w : ℕ) → 1 ≤ w → count (places n f) w ≡ over (sites n) (λ x. is (f x) w)
unfolding places count over
places_count f n w h = values (sites n)
  where
    none : (m : ℕ) → count (replicate m 0) w ≡ 0
    none zero = refl
    none (suc m) = omega (arith, none m, is-other {u = 0} {v = w} (λ e. omega arith))

    values : (us : List ℕ) → count (map f us ++ replicate (SITES - n) 0) w ≡ over us (λ x. is (f x) w)
    values [] = none (SITES - n)
    values (u ∷ us) = ap (λ k. is (f u) w + k) (values us)
