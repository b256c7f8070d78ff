-- What the rules say of lists: some of them, how many of them, all of them together.
use Rattle.std.specs.Prelude.{Bool, true, false, not, cond, ◌||◌, List, [], ◌∷◌, ℕ, suc, ◌+◌, ◌%◌, eqb, ℤ, pos, ◌+ℤ◌, take, drop}

-- whether some element passes the test
unfoldable pub any_of : {A : Type 0} → (A → Bool) → List A → Bool
any_of test [] = false
any_of test (x ∷ xs) = test x || any_of test xs

-- how many elements pass the test
unfoldable pub count_of : {A : Type 0} → (A → Bool) → List A → ℕ
count_of test [] = 0
count_of test (x ∷ xs) = cond (test x) (suc (count_of test xs)) (count_of test xs)

-- the sum of a weight over the elements
unfoldable pub sum_of : {A : Type 0} → (A → ℤ) → List A → ℤ
sum_of weight [] = pos 0
sum_of weight (x ∷ xs) = weight x +ℤ sum_of weight xs

-- the sum of a list of counts
unfoldable pub total : List ℕ → ℕ
total [] = 0
total (n ∷ ns) = n + total ns

-- one of two and not both
abbrev pub xor : Bool → Bool → Bool
xor true b = not b
xor false b = b

abbrev pub is_odd : ℕ → Bool
is_odd n = eqb (n % 2) 1

-- a list cut into parts of the given lengths, one after another
unfoldable pub parts_of : {A : Type 0} → List ℕ → List A → List (List A)
parts_of [] xs = []
parts_of (n ∷ ns) xs = take n xs ∷ parts_of ns (drop n xs)
