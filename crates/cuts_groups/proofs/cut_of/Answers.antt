-- `cut_of` meets its contract: the words of the set are those of the label.
use Rattle.std.proofs.Common.{◌≡◌, ◌*◌, ◌+◌, ◌≤◌, ◌∙◌, ℕ, List, length, take, drop, ap, length-take-le, length-drop, get_or-take, get_or-drop, arith}
use Rattle.model.specs.Limits.{WORDS}
use Rattle.tree_sets.specs.Members.{member}
use Rattle.cuts_groups.specs.Groups.{in_words}
use Rattle.cuts_groups.proofs.Cut.{member_of_label}
use Rattle.cuts_groups.proofs.cut_of.Goals as goal

-- a copy of the words of a label
own_words : (words : List ℕ) (label from k : ℕ) → from ≡ label * WORDS → k ≡ WORDS → label * WORDS + WORDS ≤ length words
    → (i : ℕ) → member (record { words = take k (drop from words) }) i ≡ in_words words label i
own_words words label from k e s h = rw (e, s) (
    let behind = drop (label * WORDS) words in
    member_of_label (take WORDS behind) words label (length-take-le WORDS behind (omega (arith, length-drop (label * WORDS) words)))
    (λ q b. get_or-take WORDS behind q 0 b ∙ get_or-drop (label * WORDS) words q 0)
    )

pub returns : goal.returns
returns c = rw c.copy_from_slice.ensures.after
    (own_words c.args.words.now c.args.label _ _ (ap (λ l. l * WORDS) c.from-from.ensures) (omega arith) (omega arith))
