-- What a buffer and a reader come to by one read more.
use Rattle.std.proofs.Common.{◌≡◌, ℕ, ◌+◌, ◌<◌, ◌≤◌, List, ◌++◌, take, drop, length, ap, ◌∙◌, subst, sym, inl, inr, arith, le_refl, drop_at, length-take-le}
use Rattle.std.proofs.lemmas.Slice.{take-put_mid_below}
use Rattle.std.proofs.lemmas.List.{append-nil, take_all, take_at}
use Rattle.std.proofs.lemmas.Bool.{cases_lt}
use Rattle.std.specs.Io.KnownBytes.{Consumes, IsAtEnd}
use Rattle.std.proofs.KnownBytes.{Consumes-trans}
use Rattle.std.specs.Prelude.{Option, None, Some, IfSome}
use Rattle.text_streams.specs.Counts.{HoldsFront}
use borrow.Rule.Slice.PartMut.{put_mid, post_of}
use lib.Seq.{take-add, take-append-le}

-- the front, and what was read behind it
take-put_mid_more : (a k n : ℕ) (xs ys : List ℕ) → a ≤ length xs → n ≤ length ys → take (a + n) (put_mid a k xs ys) ≡ take a xs ++ take n ys
take-put_mid_more a k n xs ys within fits =
    let whole = put_mid a k xs ys in
    let after = post_of a k xs in
    take-add a n whole
    ∙ ap (λ front. front ++ take n (drop a whole)) (take-put_mid_below a k xs ys a (le_refl a) within)
    ∙ ap (λ rest. take a xs ++ take n rest) (drop_at (take a xs) (ys ++ after) a (length-take-le a xs within))
    ∙ ap (λ part. take a xs ++ part) (take-append-le n ys after fits)

pub Consumes_more : (old mid new : Option (List ℕ)) (a k n : ℕ) (xs ys : List ℕ) → a ≤ length xs → n ≤ length ys
    → Consumes old mid (take a xs) → Consumes mid new (take n ys) → Consumes old new (take (a + n) (put_mid a k xs ys))
Consumes_more old mid new a k n xs ys within fits before read =
    subst (Consumes old new) (sym (take-put_mid_more a k n xs ys within fits)) (Consumes-trans old mid new _ _ before read)

-- what is taken is the front of what was there: all of it, where the buffer is not full
pub front_held : (old new : Option (List ℕ)) (n : ℕ) (buffer : List ℕ) → n ≤ length buffer → Consumes old new (take n buffer)
    → (n < length buffer → IsAtEnd new) → IfSome old (HoldsFront n buffer)
front_held None new n buffer fits taken end = tt
front_held (Some xs) None n buffer fits taken end = absurd taken
front_held (Some xs) (Some ys) n buffer fits taken end =
    let long : length (take n buffer) ≡ n = length-take-le n buffer fits in
    elim (cases_lt n (length buffer)) [
      | inl short ↦
          let all : xs ≡ take n buffer = taken ∙ ap (λ rest. take n buffer ++ rest) (end short) ∙ append-nil (take n buffer) in
          sym (ap (take (length buffer)) all ∙ take_all (length buffer) (take n buffer) (omega (arith, long)))
      | inr full ↦ sym (ap (take (length buffer)) taken ∙ take_at (take n buffer) ys (length buffer) (omega (arith, long)))
    ]
