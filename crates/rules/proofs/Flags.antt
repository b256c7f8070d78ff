-- Flags: conjunctions, disjunctions and parity. Assumes nothing.
use mathlib.Core.Path.{◌≡◌, refl, sym, ◌∙◌, ap, subst}
use mathlib.Core.Bool.{Bool, true, false, not, ◌||◌}
use lib.Dec.{T}
use Rattle.rules.specs.Lists.{xor}

-- one of three: where the first holds and the second does not, the third does
pub remaining : (a b c : Bool) → T (not a || (b || c)) → T a → b ≡ false → T c
remaining true true c t h g = absurd (subst T g tt)
remaining true false c t h g = t
remaining false b c t h g = absurd h

-- ---- equality
abbrev pub same : Bool → Bool → Bool
same true b = b
same false b = not b

pub same_is : (a b : Bool) → T (same a b) → a ≡ b
same_is true true t = refl
same_is true false t = absurd t
same_is false true t = absurd t
same_is false false t = refl

-- ---- parity
pub xor_assoc : (a b c : Bool) → xor (xor a b) c ≡ xor a (xor b c)
xor_assoc true true true = refl
xor_assoc true true false = refl
xor_assoc true false c = refl
xor_assoc false b c = refl

pub xor_comm : (a b : Bool) → xor a b ≡ xor b a
xor_comm true true = refl
xor_comm true false = refl
xor_comm false true = refl
xor_comm false false = refl

pub xor_none : (b : Bool) → xor b false ≡ b
xor_none true = refl
xor_none false = refl

xor_self : (a b : Bool) → xor (xor a b) b ≡ a
xor_self true true = refl
xor_self true false = refl
xor_self false true = refl
xor_self false false = refl

xor_swap : (a b c : Bool) → xor a (xor b c) ≡ xor (xor a c) b
xor_swap a b c = ap (xor a) (xor_comm b c) ∙ sym (xor_assoc a c b)

-- two potentials in a row
pub xor_step : (g s f h t e u : Bool) → xor g u ≡ xor h e → xor s f ≡ xor t u → xor (xor g s) f ≡ xor (xor h t) e
xor_step g s f h t e u j k = xor_assoc g s f ∙ ap (xor g) k ∙ xor_swap g t u ∙ ap (λ z. xor z t) j ∙ xor_assoc h e t ∙ xor_swap h e t

pub xor_cancel : (x y z : Bool) → xor x z ≡ xor y z → x ≡ y
xor_cancel x y z h = sym (xor_self x z) ∙ ap (λ t. xor t z) h ∙ xor_self y z
