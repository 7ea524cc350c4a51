-- Owners that agree at the sites have the same sets and the same pieces: every definition asks for the owner of a site of the network alone.
use Rattle.std.specs.Prelude.{◌≡◌, refl, [], ◌∷◌, ℕ, suc, ◌*◌, ◌%◌, ◌<◌, length}
use Rattle.std.proofs.Math.Path.{ap}
use Rattle.std.proofs.Common.{arith}
use Rattle.lists.specs.Numbers.{is, differ}
use Rattle.model.specs.Flows.{Links, Site, Tree, sites, one, two, label}
use Rattle.model.specs.Cuts.{kept}
use Rattle.model.specs.Whole.{set_size, connects, piece, in_piece, leaving_piece, odd_pieces}
use Rattle.lists.specs.Sums.{sum-eq}
use Rattle.lists.specs.Places.{over-eq}
use Rattle.theory_trees.specs.Sites.{sites-site}

kept_same : (u v : ℕ → ℕ) (ls : Links) → ((j : ℕ) → j < length ls → u j ≡ v j) → kept u ls ≡ kept v ls
unfolding kept
kept_same u v [] e = refl
kept_same u v (l ∷ ls) e = rw (e 0 (omega arith), kept_same (λ j. u (suc j)) (λ j. v (suc j)) ls (λ j k. e (suc j) (omega arith)))

module _ {ls : Links} {n : ℕ} (T : Tree ls n) (c own told : ℕ → ℕ) (agree : (x : ℕ) → Site n x → told x ≡ own x) where
  at_one : (j : ℕ) → j < length ls → told (one ls j) ≡ own (one ls j)
  at_one j l = agree (one ls j) (T.ends j l).0

  at-two : (j : ℕ) → j < length ls → told (two ls j) ≡ own (two ls j)
  at-two j l = agree (two ls j) (T.ends j l).1

  pub set_sizes_agree : (a : ℕ) → set_size ls c told a ≡ set_size ls c own a
  unfolding set_size
  set_sizes_agree a = sum-eq (length ls) (λ j. differ (is (told (one ls j)) a) (is (told (two ls j)) a) * c j)
      (λ j. differ (is (own (one ls j)) a) (is (own (two ls j)) a) * c j)
      (λ j l. rw (at_one j l, at-two j l))

  connections_agree : (j : ℕ) → j < length ls → connects ls c told j ≡ connects ls c own j
  unfolding connects
  connections_agree j l = rw (at_one j l, at-two j l)

  pieces_agree : (x : ℕ) → piece ls c told x ≡ piece ls c own x
  unfolding piece
  pieces_agree x = ap (λ ks. label ks x) (kept_same (connects ls c told) (connects ls c own) ls connections_agree)

  members_agree : (p y : ℕ) → Site n y → in_piece ls c told p y ≡ in_piece ls c own p y
  unfolding in_piece
  members_agree p y q = rw (agree y q, pieces_agree y)

  leaving_agrees : (p : ℕ) → leaving_piece ls c told p ≡ leaving_piece ls c own p
  unfolding leaving_piece
  leaving_agrees p = sum-eq (length ls) (λ j. differ (in_piece ls c told p (one ls j)) (in_piece ls c told p (two ls j)) * c j)
      (λ j. differ (in_piece ls c own p (one ls j)) (in_piece ls c own p (two ls j)) * c j)
      (λ j l. rw (members_agree p (one ls j) (T.ends j l).0, members_agree p (two ls j) (T.ends j l).1))

  pub odd_pieces_agree : odd_pieces ls n c told ≡ odd_pieces ls n c own
  unfolding odd_pieces
  odd_pieces_agree = over-eq (sites n) (λ p. in_piece ls c told p p * (leaving_piece ls c told p % 2))
      (λ p. in_piece ls c own p p * (leaving_piece ls c own p % 2))
      (λ p q. rw (members_agree p p (sites-site n p q), leaving_agrees p))
