-- Numbers stored one after another from a place of a table on, as far as it reaches.
use Rattle.std.specs.Prelude.{List, [], ◌∷◌, ℕ, suc, set}

unfoldable pub put : {A : Type 0} → ℕ → List A → List A → List A
put k [] table = table
put k (x ∷ xs) table = put (suc k) xs (set table k x)
