-- Written lines found again by their offsets: where a text goes on with fields parted by tabs and a byte 10, the line there is these fields, it is ended, and
-- what follows it goes on behind. By induction over the bytes: plain fields hold neither a tab nor a byte 10.
use Rattle.std.specs.Prelude.{◌≡◌, refl, ◌≢◌, ℕ, suc, ◌+◌, ◌-◌, ◌≤◌, ◌<◌, length, take, drop}
use Rattle.std.proofs.Common.{sym, ap, ◌∙◌, arith, ne_eqb, length-append, length-drop, take_at, drop_at}
use mathlib.Core.List.{List, [], ◌∷◌, ◌++◌, map, append_assoc, append-nil, head-eq_of_cons-eq, tail-eq_of_cons-eq}
use Rattle.lists.specs.Numbers.{Each}
use Rattle.lists.specs.Tallies.{each_map, each_append}
use Rattle.text_lines.specs.Lines.{line_length, line_at, after_line}
use Rattle.text_lines.specs.LineLaws.{ended_lines_cover_the_sheet}
use Rattle.text_fields.specs.Fields.{fields, push}
use Rattle.text_writers.specs.Fields.{line}
use Rattle.demands.specs.Printed.{lines_of, records}
use Rattle.demands.specs.Parsing.{Plain, line_read_back}

-- fields parted by one tab
unfoldable pub joined : List (List ℕ) → List ℕ
joined [] = []
joined (f ∷ []) = f
joined (f ∷ g ∷ fs) = f ++ (9 ∷ joined (g ∷ fs))

abbrev NoEnd : List ℕ → Type 0
NoEnd b = Each (λ x. x ≢ 10) b

pub line-is-joined : (f : List ℕ) (fs : List (List ℕ)) → line (f ∷ fs) ≡ joined (f ∷ fs) ++ (10 ∷ [])
unfolding line joined
line-is-joined f [] = refl
line-is-joined f (g ∷ fs) = rw (append_assoc f (9 ∷ joined (g ∷ fs)) (10 ∷ [])) (ap (λ r. f ++ (9 ∷ r)) (line-is-joined g fs))

no_end : (f : List ℕ) → Plain f → NoEnd f
no_end f p = each_map (λ b. 45 ≤ b) (λ b. b ≢ 10) (λ b h z. omega arith) f p

joined_has_no_end : (f : List ℕ) (fs : List (List ℕ)) → Each Plain (f ∷ fs) → NoEnd (joined (f ∷ fs))
unfolding joined
joined_has_no_end f [] p = no_end f p.0
joined_has_no_end f (g ∷ fs) p =
    each_append (λ x. x ≢ 10) f (9 ∷ joined (g ∷ fs)) (no_end f p.0) (λ z. omega arith, joined_has_no_end g fs p.1)

length-before-end : (b x : List ℕ) → NoEnd b → line_length (b ++ (10 ∷ x)) ≡ length b
unfolding line_length
length-before-end [] x h = refl
length-before-end (c ∷ b) x h = rw (ne_eqb c 10 h.0) (ap suc (length-before-end b x h.1))

first_of_lines : (b x : List ℕ) → NoEnd b → lines_of (b ++ (10 ∷ x)) ≡ b ∷ lines_of x
unfolding lines_of push
first_of_lines [] x h = refl
first_of_lines (c ∷ b) x h = rw (ne_eqb c 10 h.0, first_of_lines b x h.1) refl

-- the fields of a line are those that went in
pub fields_of_joined : (f : List ℕ) (fs : List (List ℕ)) → Each Plain (f ∷ fs) → fields (joined (f ∷ fs)) ≡ f ∷ fs
unfolding records
fields_of_joined f fs p =
    let read = line_read_back f fs p [] in
    let same : line (f ∷ fs) ++ [] ≡ joined (f ∷ fs) ++ (10 ∷ []) = append-nil (line (f ∷ fs)) ∙ line-is-joined f fs in
    let lines = first_of_lines (joined (f ∷ fs)) [] (joined_has_no_end f fs p) in
    let told : fields (joined (f ∷ fs)) ∷ records [] ≡ (f ∷ fs) ∷ records [] = sym (ap records same ∙ ap (map fields) lines) ∙ read in
    head-eq_of_cons-eq told

-- the text goes on with these fields as a line, and then with x
module _ (text : List ℕ) (at : ℕ) (f : List ℕ) (fs : List (List ℕ)) (p : Each Plain (f ∷ fs)) (x : List ℕ) (e : drop at text ≡ line (f ∷ fs) ++ x) where
  abbrev b : List ℕ
  b = joined (f ∷ fs)

  goes_on : drop at text ≡ b ++ (10 ∷ x)
  goes_on = e ∙ rw (line-is-joined f fs) (append_assoc b (10 ∷ []) x)

  long : length b + suc (length x) ≡ length text - at
  long = sym (length-append b (10 ∷ x)) ∙ ap length (sym goes_on) ∙ length-drop at text

  pub a-line-is-there : at < length text
  a-line-is-there = omega (arith, long)

  pub the_line_is_joined : line_at text at ≡ joined (f ∷ fs)
  unfolding line_at
  the_line_is_joined = rw goes_on (rw (length-before-end b x (joined_has_no_end f fs p)) (take_at b (10 ∷ x) (length b) refl))

  pub the_line_is_ended : at + length (line_at text at) < length text
  the_line_is_ended = rw the_line_is_joined (omega (arith, long))

  pub what_follows : drop (after_line text at) text ≡ x
  what_follows =
      let cover : b ++ (10 ∷ x) ≡ b ++ (10 ∷ drop (after_line text at) text) =
      sym goes_on ∙ ended_lines_cover_the_sheet text at the_line_is_ended ∙ ap (λ r. r ++ (10 ∷ drop (after_line text at) text)) the_line_is_joined in
      sym (tail-eq_of_cons-eq (sym (drop_at b (10 ∷ x) (length b) refl) ∙ ap (drop (length b)) cover
      ∙ drop_at b (10 ∷ drop (after_line text at) text) (length b) refl))
