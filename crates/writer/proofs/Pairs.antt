-- A position written in three parts. Assumes nothing.
use mathlib.Core.Path.{◌≡◌, subst, ◌∙◌}
use mathlib.Core.List.{List, [], ◌∷◌, ◌++◌, append_assoc}
use Prim.Native.Nat.{ℕ, suc, ◌+◌, ◌≤◌}
use native.Mathlib.Omega.{arith}
use lib.IntN.{ℤ}
use lib.ListN.{length, length-append}
use Rattle.fields.specs.Decimals.{decimal}
use Rattle.fields.specs.Written.{Wrote}
use Rattle.fields.proofs.Written.{wrote_on}
use Rattle.grammar.specs.Texts.{pair_text}

pub pair_length : (x y : ℤ) → length (pair_text (record { x = x; y = y })) ≡ length (decimal x) + 1 + length (decimal y)
pair_length x y = length-append (decimal x) (32 ∷ decimal y) ∙ (let e : length (decimal x) + suc (length (decimal y)) ≡ length (decimal x) + 1 + length (decimal y) = omega arith in e)

pub pair_wrote : (at : ℕ) (x y : ℤ) (o o' o'' o''' : List ℕ) (m n r : ℕ) → at + length (pair_text (record { x = x; y = y })) ≤ length o → Wrote at (decimal x) o o' m → Wrote m (32 ∷ []) o' o'' n → Wrote n (decimal y) o'' o''' r → Wrote at (pair_text (record { x = x; y = y })) o o''' r
pair_wrote at x y o o' o'' o''' m n r h f g k =
    let l = pair_length x y in
    let q = length-append (decimal x) (32 ∷ []) in
    let one = wrote_on at (decimal x) o (omega (arith, h, l)) (32 ∷ []) o' o'' m n f g in
    let two = wrote_on at (decimal x ++ (32 ∷ [])) o (omega (arith, h, l, q)) (decimal y) o'' o''' n r one k in
    subst (λ s. Wrote at s o o''' r) (append_assoc (decimal x) (32 ∷ []) (decimal y)) two
