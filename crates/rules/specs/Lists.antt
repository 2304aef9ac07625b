-- Lists of numbers that hold each number once: what a family is (of set numbers) and what feeding points are (of node
-- numbers); and of any list how many entries pass a test, the list without an entry, and one made entry by entry.
-- Cited by the sections' definitions. Assumes nothing.
use Rattle.std.specs.Prelude.{ℕ, zero, suc, ◌+◌, max, Bool, true, false, cond, ◌||◌, List, [], ◌∷◌, ◌++◌, eqb, take, drop}

-- 1 for yes and 0 for no
abbrev pub digit : Bool → ℕ
digit true = 1
digit false = 0

-- whether x is in the list
unfoldable pub member : ℕ → List ℕ → Bool
member x [] = false
member x (y ∷ ys) = eqb x y || member x ys

-- the list with x, which is not put in a second time
unfoldable pub insert : ℕ → List ℕ → List ℕ
insert x ys = cond (member x ys) ys (x ∷ ys)

-- all that is in the one or in the other
unfoldable pub union : List ℕ → List ℕ → List ℕ
union [] ys = ys
union (x ∷ xs) ys = insert x (union xs ys)

-- the greatest of some numbers, 0 where there is none
abbrev pub greatest : List ℕ → ℕ
greatest [] = 0
greatest (x ∷ xs) = max x (greatest xs)

-- how many entries pass the test
unfoldable pub count {ℓ} : {A : Type ℓ} → (A → Bool) → List A → ℕ
count test [] = 0
count test (x ∷ xs) = digit (test x) + count test xs

-- a list without its entry i
unfoldable pub without {ℓ} : {A : Type ℓ} → (i : ℕ) → List A → List A
without i xs = take i xs ++ drop (suc i) xs

-- the entries f 0, f 1, .. of which there are n
unfoldable pub tabulate {ℓ} : {A : Type ℓ} → (ℕ → A) → ℕ → List A
tabulate f zero = []
tabulate f (suc n) = tabulate f n ++ (f n ∷ [])
