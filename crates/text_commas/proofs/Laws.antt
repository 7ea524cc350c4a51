-- Laws of writing: a number with commas piece by piece, and the room of the pieces.
use mathlib.Core.Path.{◌≡◌, sym, ◌∙◌}
use mathlib.Core.List.{List, [], ◌∷◌, ◌++◌, append_assoc}
use Prim.Native.Nat.{ℕ}
use Rattle.text_writers.specs.Wrote.{Wrote, Room}
use Rattle.text_writers.specs.Writing.{then, room_front, room_after}
use Rattle.text_commas.specs.Commas.{three, comma}

joined : (a : List ℕ) (n s : ℕ) → (a ++ (44 ∷ [])) ++ (three n ++ (s ∷ [])) ≡ comma a n ++ (s ∷ [])
unfolding comma
joined a n s = append_assoc a (44 ∷ []) (three n ++ (s ∷ [])) ∙ sym (append_assoc a (44 ∷ three n) (s ∷ []))

pub three_more : {l m k : List ℕ} {at r q : ℕ} (a : List ℕ) (n s : ℕ) → Wrote l at (a ++ (44 ∷ [])) m r → Wrote m r (three n ++ (s ∷ [])) k q
    → Wrote l at (comma a n ++ (s ∷ [])) k q
three_more a n s v w = rw (joined a n s) at (then v w)

pub room_before_comma : (at : ℕ) (a : List ℕ) (n s : ℕ) → Room at (comma a n ++ (s ∷ [])) → Room at (a ++ (44 ∷ []))
room_before_comma at a n s h = room_front at (a ++ (44 ∷ [])) (three n ++ (s ∷ [])) (rw (joined a n s) h)

pub room_after_comma : {l m : List ℕ} {at r : ℕ} (a : List ℕ) (n s : ℕ) → Wrote l at (a ++ (44 ∷ [])) m r → Room at (comma a n ++ (s ∷ []))
    → Room r (three n ++ (s ∷ []))
room_after_comma a n s w h = room_after w (three n ++ (s ∷ [])) (rw (joined a n s) h)
