-- The way outward: what is kept while the sites come one by one, parents first, and what holds of the loads and sets in the end; and all that the two
-- ways find, as one solution. By an invariant: the load of a site's link is final when its parent has come.
use Rattle.std.specs.Prelude.{◌≡◌, refl, ◌≢◌, ℕ, ◌+◌, ◌-◌, ◌%◌, ◌≤◌, min}
use Rattle.std.proofs.Common.{sym, ◌∙◌, inl, inr, arith}
use Rattle.std.proofs.Math.Path.{ap}
use Rattle.std.proofs.Math.Logic.{ite, if_pos, if_neg}
use mathlib.Core.List.{List, [], ◌∷◌}
use Rattle.std.proofs.Math.Decide.{dec_le, dec_lt}
use Rattle.lists.specs.Numbers.{pick, is, count}
use Rattle.lists.specs.Sums.{pick_same, pick_other, pick_cases, is_same, is-other, is_le, same?, cases}
use Rattle.model.specs.WholeLoads.{put, on_way, owner_at, Intervals, no_intervals, Loading, take_all, top_load, coming, give, give_all}
use Rattle.theory_whole.specs.Rooted.{Child}
use Rattle.theory_whole.specs.Order.{Taken, Plain, rooted, taken-home}
use Rattle.theory_whole.specs.Loads.{Inwards, Outwards}
use Rattle.theory_whole.specs.Sets.{Choice, path, Owners}
use Rattle.theory_whole.specs.Solution.{Solution}
use Rattle.theory_whole.specs.Inward.{put_same, put_other, loop_inwards, loop_chains}

owned_on : (goal B k up : ℕ) → owner_at 1 goal B k up ≡ goal
unfolding owner_at
owned_on goal B k up = pick_same {u = 1} refl goal (ite (dec_le B k) up 0)

off_choice : (A B k on_path up goal : ℕ) → (2 ≤ A → (A ≤ k) × (on_path ≡ 0)) → Choice A B k on_path up goal (owner_at 0 goal B k up) 0
unfolding owner_at
off_choice A B k on_path up goal n =
    let off : pick 0 1 goal (ite (dec_le B k) up 0) ≡ ite (dec_le B k) up 0 = pick_other {u = 0} {v = 1} (λ e. omega arith) goal (ite (dec_le B k) up 0) in
    cases (dec_le B k)
    (λ l. Choice.kept n l refl (off ∙ if_pos (dec_le B k) l up 0))
    (λ l. Choice.free n (omega arith) refl (off ∙ if_neg (dec_le B k) l up 0))

pub choice_of : (A B k on_path up goal : ℕ) → on_path ≤ 1 → Choice A B k on_path up goal (owner_at (on_way A k on_path) goal B k up) (on_way A k on_path)
unfolding on_way
choice_of A B k on_path up goal small = cases (dec_le 2 A)
    (λ h. rw (if_pos (dec_le 2 A) h) (cases (dec_lt k A)
    (λ l. rw (if_pos (dec_lt k A) l) (Choice.head h l refl (owned_on goal B k up)))
    (λ l. rw (if_neg (dec_lt k A) l) (same? on_path 1
    (λ e. rw e (Choice.chain h refl refl (owned_on goal B k up)))
    (λ d. let z : on_path ≡ 0 = omega arith in rw z (off_choice A B k 0 up goal (λ _. (omega arith, refl))))))))
    (λ h. rw (if_neg (dec_le 2 A) h) (off_choice A B k on_path up goal (λ j. absurd (h j))))

module _ (par c term : ℕ → ℕ) (i : Intervals) where
  module _ {us : List ℕ} (I : Inwards us par c term i.least i.most i.low i.high i.top) where
    -- with the sites of done come
    pub record Given (done : List ℕ) (o : Loading) : Type 0 where
      pub fresh : (w : ℕ) → count done (par w) ≡ 0 → o.load w ≡ i.high w
      pub end : (v w : ℕ) → 1 ≤ count done v → term v ≡ 1 → Child us par v w → o.load w ≡ i.high w
      pub other : (v w : ℕ) → 1 ≤ count done v → term v ≢ 1 → Child us par v w → w ≢ i.top v → o.load w ≡ i.high w
      pub chosen : (v : ℕ) → 1 ≤ count done v → term v ≢ 1
          → o.load (i.top v) ≡ min (i.high (i.top v) - (o.load v + i.most v) % 2) (o.load v + i.most v - i.high (i.top v))
      pub nobody : (x : ℕ) → count done x ≡ 0 → (o.owner x ≡ 0) × (o.on x ≡ 0)
      pub rule : (v : ℕ) → 1 ≤ count done v
          → Choice (i.least v) (i.most v) (c v) (path us par c term i.top o.on v) (o.owner (par v)) (i.goal v) (o.owner v) (o.on v)

    module _ (u : ℕ) (vs : List ℕ) (h : Taken par (u ∷ vs)) (sub : (x : ℕ) → 1 ≤ count (u ∷ vs) x → 1 ≤ count us x) (o : Loading) (g : Given vs o) where
      abbrev o' : Loading
      o' = give par c term i o u

      first-in : 1 ≤ count us u
      unfolding count
      first-in = sub u (omega (arith, is_same {u = u} refl))

      -- a site of vs, and its parent, are not u
      not_first : (x : ℕ) → 1 ≤ count vs x → x ≢ u
      not_first x p e = omega (arith, h.0, rw e at p)

      parent-not : (x : ℕ) → 1 ≤ count vs x → par x ≢ u
      parent-not x p e = omega (arith, h.0, rw e at (taken-home par vs h.3 x p (λ z. h.1 (sym e ∙ z))))

      up-not : par u ≢ u
      up-not e = elim h.2 [ inl z ↦ h.1 (sym e ∙ z) | inr z ↦ omega (arith, h.0, rw e at z) ]

      -- the load changes at the child `top` of u only
      load-old : (x : ℕ) → (term u ≢ 1 → x ≢ i.top u) → o'.load x ≡ o.load x
      unfolding give
      load-old x d = same? (term u) 1
          (λ m. pick_same m (o.load x) (put o.load (i.top u) (top_load par c term (i.high (i.top u)) (o.load u + i.most u)) x))
          (λ m. rw (pick_other m) (put_other o.load (top_load par c term (i.high (i.top u)) (o.load u + i.most u)) (d m)))

      load-new : term u ≢ 1 → o'.load (i.top u) ≡ top_load par c term (i.high (i.top u)) (o.load u + i.most u)
      unfolding give
      load-new m = rw (pick_other m) (put_same o.load (i.top u) (top_load par c term (i.high (i.top u)) (o.load u + i.most u)))

      child-old : (x : ℕ) → par x ≢ u → o'.load x ≡ o.load x
      child-old x d = load-old x (λ m e. d (ap par e ∙ (I.child u first-in m).parent))

      owner-old : (x : ℕ) → x ≢ u → o'.owner x ≡ o.owner x
      unfolding give
      owner-old x d = put_other o.owner
          (owner_at (on_way (i.least u) (c u) (coming par c term i o u)) (i.goal u) (i.most u) (c u) (o.owner (par u))) d

      on-old : (x : ℕ) → x ≢ u → o'.on x ≡ o.on x
      unfolding give
      on-old x d = put_other o.on (on_way (i.least u) (c u) (coming par c term i o u)) d

      rule-new : Choice (i.least u) (i.most u) (c u) (path us par c term i.top o'.on u) (o'.owner (par u)) (i.goal u) (o'.owner u) (o'.on u)
      unfolding path coming
      rule-new =
          let q = pick (o.on (par u)) 1 (is (i.top (par u)) u) 0 in
          let w = choice_of (i.least u) (i.most u) (c u) q (o.owner (par u)) (i.goal u)
          (pick_cases (λ r. r ≤ 1) (o.on (par u)) 1 (is (i.top (par u)) u) 0 (λ _. is_le (i.top (par u)) u) (λ _. omega arith)) in
          rw (on-old (par u) up-not, owner-old (par u) up-not, owner-new, on-new) w
        where
          owner-new : o'.owner u ≡ owner_at (on_way (i.least u) (c u) (coming par c term i o u)) (i.goal u) (i.most u) (c u) (o.owner (par u))
          owner-new = unfold give in put_same o.owner u
              (owner_at (on_way (i.least u) (c u) (coming par c term i o u)) (i.goal u) (i.most u) (c u) (o.owner (par u)))

          on-new : o'.on u ≡ on_way (i.least u) (c u) (coming par c term i o u)
          on-new = unfold give in put_same o.on u (on_way (i.least u) (c u) (coming par c term i o u))

      rule-old : (v : ℕ) → 1 ≤ count vs v
          → Choice (i.least v) (i.most v) (c v) (path us par c term i.top o'.on v) (o'.owner (par v)) (i.goal v) (o'.owner v) (o'.on v)
      unfolding path
      rule-old v p =
          let n = not_first v p in
          let m = parent-not v p in
          rw (on-old (par v) m, owner-old (par v) m, owner-old v n, on-old v n) (g.rule v p)

      pub given-next : Given (u ∷ vs) o'
      unfolding count top_load
      given-next = record {
        fresh = λ w z. let d : par w ≢ u = λ e. omega (arith, z, is_same (sym e)) in child-old w d ∙ g.fresh w (omega arith);
        end = λ v w p m k. same? v u
            (λ e. load-old w (λ n. absurd (n (ap term (sym e) ∙ m))) ∙ g.fresh w (rw (k.parent ∙ e) h.0))
            (λ d. child-old w (λ e. d (sym k.parent ∙ e)) ∙ g.end v w (rest v p d) m k);
        other = λ v w p m k n. same? v u
            (λ e. load-old w (λ _ y. n (y ∙ ap i.top (sym e))) ∙ g.fresh w (rw (k.parent ∙ e) h.0))
            (λ d. child-old w (λ e. d (sym k.parent ∙ e)) ∙ g.other v w (rest v p d) m k n);
        chosen = λ v p m. same? v u
            (λ e. let m' : term u ≢ 1 = λ y. m (ap term e ∙ y) in
            let own : o'.load u ≡ o.load u = child-old u up-not in
            rw (e, own) (load-new m'))
            (λ d. let q = rest v p d in
            let k = I.child v (sub v p) m in
            rw (child-old (i.top v) (λ e. d (sym k.parent ∙ e)), child-old v (parent-not v q)) (g.chosen v q m));
        nobody = λ x z. let d : x ≢ u = λ e. omega (arith, z, is_same (sym e)) in
            let q = g.nobody x (omega arith) in
            (owner-old x d ∙ q.0, on-old x d ∙ q.1);
        rule = λ v p. same? v u (λ e. rw e rule-new) (λ d. rule-old v (rest v p d));
      }
        where
          rest : (v : ℕ) → 1 ≤ is u v + count vs v → v ≢ u → 1 ≤ count vs v
          rest v p d = omega (arith, is-other {u = u} {v = v} (λ e. d (sym e)))

    pub given-all : (vs : List ℕ) → Taken par vs → ((x : ℕ) → 1 ≤ count vs x → 1 ≤ count us x) → Given vs (give_all par c term i vs)
    unfolding give_all count
    given-all [] h sub = record {
      fresh = λ w z. refl;
      end = λ v w p. absurd (omega arith);
      other = λ v w p. absurd (omega arith);
      chosen = λ v p. absurd (omega arith);
      nobody = λ x z. (refl, refl);
      rule = λ v p. absurd (omega arith);
    }
    given-all (u ∷ vs) h sub = given-next u vs h sub (give_all par c term i vs) (given-all vs h.3 (λ x p. sub x (omega arith)))

    module _ (H : Plain us par c term) where
      free : count us 0 ≡ 0
      free = (rooted par us H.taken).root_free

      -- what the loop outward leaves has the properties asked for
      pub loop_outwards : Outwards us par c term i.most i.high i.top (give_all par c term i us).load
      loop_outwards =
          let g = given-all us H.taken (λ x p. p) in
          record {
            root = λ v p e. g.fresh v (rw e free);
            end = g.end;
            other = g.other;
            chosen = g.chosen;
          }

      pub loop_owners : Owners us par c term i.least i.most i.top i.goal (give_all par c term i us).owner (give_all par c term i us).on
      loop_owners =
          let g = given-all us H.taken (λ x p. p) in
          record {
            nobody = (g.nobody 0 free).0;
            off = (g.nobody 0 free).1;
            rule = g.rule;
          }

-- the theorem holds of what the two loops leave
unfoldable pub loop_solution : {us : List ℕ} {par c term : ℕ → ℕ} → Plain us par c term → Solution us par c term
loop_solution {us} {par} {c} {term} H =
    let i = take_all par c term us no_intervals in
    let o = give_all par c term i us in
    let I = loop_inwards H in
    record {
      A = i.least;
      B = i.most;
      a = i.low;
      b = i.high;
      top = i.top;
      goal = i.goal;
      load = o.load;
      owner = o.owner;
      on = o.on;
      inwards = I;
      chains = loop_chains H;
      outwards = loop_outwards par c term i I H;
      owners = loop_owners par c term i I H;
    }
