-- Choices, tests as the numbers 0 and 1, sums, and lists of sites: what the other definitions are written with.
-- Nothing here is a term of document 01.
use Rattle.std.proofs.Math.Logic.{ite}
use Rattle.std.specs.Prelude.{List, [], ◌∷◌, ℕ, zero, suc, ◌+◌, get_or}
use Rattle.std.proofs.Math.Decide.{ℕ_discrete, dec_lt}

-- a where u and v are the same number, b where they differ
unfoldable pub pick : {A : Type 0} → ℕ → ℕ → A → A → A
pick u v a b = ite (ℕ_discrete u v) a b

-- 1 where u and v are the same number, 0 where they differ
unfoldable pub is : ℕ → ℕ → ℕ
is u v = pick u v 1 0

-- 0 where u and v are the same number, 1 where they differ
unfoldable pub differ : ℕ → ℕ → ℕ
differ u v = pick u v 0 1

-- 1 where a is below b, 0 elsewhere
unfoldable pub less : ℕ → ℕ → ℕ
less a b = ite (dec_lt a b) 1 0

-- f 0 + .. + f (n - 1)
unfoldable pub sum : ℕ → (ℕ → ℕ) → ℕ
sum zero f = 0
sum (suc n) f = sum n f + f n

-- the sum of f over a list
unfoldable pub over : List ℕ → (ℕ → ℕ) → ℕ
over [] f = 0
over (v ∷ vs) f = f v + over vs f

-- how often x stands in a list
unfoldable pub count : List ℕ → ℕ → ℕ
count [] x = 0
count (v ∷ vs) x = is v x + count vs x

-- b, b + 1, .. (n of them)
unfoldable pub upfrom : ℕ → ℕ → List ℕ
upfrom b zero = []
upfrom b (suc n) = b ∷ upfrom (suc b) n

-- what a list of numbers holds at place i, 0 past its end
abbrev pub look : List ℕ → ℕ → ℕ
look l i = get_or l i 0

-- P holds of every element of a list
abbrev pub Each : {A : Type 0} → (A → Type 0) → List A → Type 0
Each P [] = Unit {0}
Each P (a ∷ l) = P a × Each P l
