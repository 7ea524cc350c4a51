-- The refusals of a plan drawn by hand in words: the line that the program writes to standard error beside a refusal of text 2, and the line of a verdict.
-- Document 02, Card 12; what is off in a line as in a log is said by `cause`.
use Rattle.std.specs.Prelude.{Bool, cond, List, [], ◌∷◌, ◌++◌, ◌≢◌, ◌≡◌, refl, ℕ, ◌^◌, ◌≤◌, ◌<◌, length}
use Rattle.std.proofs.Common.{◌∙◌, arith, length-append}
use Rattle.model.specs.Limits.{AMOUNT, PLANLINES, PLANBYTES}
use Rattle.model.specs.Text.{bytes}
use Rattle.lists.specs.Numbers.{pick}
use Rattle.lists.specs.Sums.{pick_other, pick_cases}
use Rattle.text_writers.specs.Fields.{digits, decimal, line}
use Rattle.text_writers.specs.Decimal.{decimal-length}
use Rattle.text_commas.specs.Commas.{three, comma, grouped}
use Rattle.report_causes.specs.CauseWords.{cause}
use Rattle.report_causes.specs.CauseLengths.{cause-length}
use Rattle.report_words.specs.TwoTexts.{words_of, words_of_are_short}

-- ---- a verdict

-- `judged`, total in halves, `yes` or `no`
unfoldable pub verdict_line : ℕ → Bool → List ℕ
verdict_line total largest = line (bytes "judged" ∷ decimal total ∷ cond largest (bytes "yes") (bytes "no") ∷ [])

-- ---- a refusal

-- a plan with more bytes or lines than it may have (number 1)
unfoldable pub plan_long : List ℕ
plan_long = bytes "the plan: more than " ++ (grouped PLANBYTES ++ (bytes " bytes, or than " ++ (grouped PLANLINES ++ bytes " lines")))

-- a plan refused as a whole: 1, or 21
unfoldable pub plan_whole : ℕ → List ℕ
plan_whole number = pick number 1 plan_long (bytes "the plan: a load above twice the usable size of its link")

-- an amount outside the limits (number 3)
unfoldable pub amount_wrong : List ℕ
amount_wrong = bytes "amount not from 1 to " ++ grouped AMOUNT

-- what is wrong with a line
unfoldable pub plan_cause : ℕ → List ℕ
plan_cause n =
    pick n 2 (bytes "wrong letter or line ending")
    (pick n 3 amount_wrong
    (pick n 6 (bytes "not two ends free to be joined")
    (pick n 20 (bytes "pair given on an earlier line")
    (cause n))))

-- the words for text 2: the plan as a whole, or a line of it
unfoldable pub plan_words : ℕ → ℕ → List ℕ
plan_words number l =
    pick l 0 (plan_whole number ++ (10 ∷ [])) (bytes "the plan, line " ++ ((decimal l ++ (58 ∷ [])) ++ (bytes " " ++ (plan_cause number ++ (10 ∷ [])))))

-- the whole line, for either text
unfoldable pub words_judged : ℕ → ℕ → ℕ → List ℕ
words_judged text number l = pick text 2 (plan_words number l) (words_of text number l)

-- ---- the limits as they are written

pub the_limits_are_told : plan_long ≡ bytes "the plan: more than 65,536 bytes, or than 1,024 lines"
unfolding plan_long grouped comma three decimal digits
the_limits_are_told = refl

pub the_amount_is_told : amount_wrong ≡ bytes "amount not from 1 to 2,000,000"
unfolding amount_wrong grouped comma three decimal digits
the_amount_is_told = refl

-- ---- the other numbers, and how long the words are

pub as_everywhere : (n : ℕ) → n ≢ 2 → n ≢ 3 → n ≢ 6 → n ≢ 20 → plan_cause n ≡ cause n
unfolding plan_cause
as_everywhere n a b c d = pick_other a _ _ ∙ pick_other b _ _ ∙ pick_other c _ _ ∙ pick_other d _ _

pub number_and_colon : (n : ℕ) → n < 2 ^ 64 → length (decimal n ++ (58 ∷ [])) ≤ 21
number_and_colon n h = omega (arith, length-append (decimal n) (58 ∷ []), decimal-length n h)

pub number_and_tab : (n : ℕ) → n < 2 ^ 64 → length (decimal n ++ (9 ∷ [])) ≤ 21
number_and_tab n h = omega (arith, length-append (decimal n) (9 ∷ []), decimal-length n h)

plan_cause_length : (n : ℕ) → length (plan_cause n) ≤ 78
unfolding plan_cause
plan_cause_length n =
    let P : List ℕ → Type 0 = λ t. length t ≤ 78 in
    pick_cases P n 2 _ _ (λ e. omega arith)
    (λ d. pick_cases P n 3 _ _ (λ e. rw the_amount_is_told (omega arith))
    (λ d. pick_cases P n 6 _ _ (λ e. omega arith)
    (λ d. pick_cases P n 20 _ _ (λ e. omega arith) (λ d. cause-length n))))

plan_words_are_short : (number l : ℕ) → l < 2 ^ 64 → length (plan_words number l) ≤ 150
unfolding plan_words plan_whole
plan_words_are_short number l h =
    let P : List ℕ → Type 0 = λ t. length t ≤ 150 in
    let Q : List ℕ → Type 0 = λ t. length (t ++ (10 ∷ [])) ≤ 150 in
    pick_cases P l 0 _ _
    (λ e. pick_cases Q number 1 _ _ (λ e. rw the_limits_are_told (omega arith)) (λ d. omega arith))
    (λ d. omega (
      arith,
      length-append (decimal l ++ (58 ∷ [])) (bytes " " ++ (plan_cause number ++ (10 ∷ []))),
      length-append (plan_cause number) (10 ∷ []),
      number_and_colon l h,
      plan_cause_length number,
    ))

pub words_judged_are_short : (text number l : ℕ) → l < 2 ^ 64 → length (words_judged text number l) ≤ 150
unfolding words_judged
words_judged_are_short text number l h =
    let P : List ℕ → Type 0 = λ t. length t ≤ 150 in
    pick_cases P text 2 _ _ (λ e. plan_words_are_short number l h) (λ d. words_of_are_short text number l h)
