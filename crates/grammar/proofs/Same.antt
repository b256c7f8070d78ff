-- Numbers of 64 bits compared by their words. Assumes nothing.
use mathlib.Core.Path.{◌≡◌, refl, sym, ap, subst, ◌∙◌}
use mathlib.Core.Bool.{Bool, true, false}
use lib.Dec.{T, eqb}
use lib.IntN.{ℤ, pos, negsuc}
use borrow.Author.Tests.{eq-eqb, eqb-true, eqb-false}
use mir.Syntax.{w64}
use mir.Val.{SFits, to_z, of_z}
use mir.Facts.{to_z-of_z}
use Rattle.grammar.specs.Plans.{same_number}

pub same_self : (z : ℤ) → same_number z z ≡ true
same_self (pos n) = eq-eqb n n refl
same_self (negsuc n) = eq-eqb n n refl

pub same_is : (a b : ℤ) → same_number a b ≡ true → a ≡ b
same_is (pos m) (pos n) e = ap pos (eqb-true m n e)
same_is (pos m) (negsuc n) e = absurd (subst T (sym e) tt)
same_is (negsuc m) (pos n) e = absurd (subst T (sym e) tt)
same_is (negsuc m) (negsuc n) e = ap negsuc (eqb-true m n e)

pub words_same : (a b : ℤ) → SFits w64 a → SFits w64 b → eqb (of_z w64 a) (of_z w64 b) ≡ same_number a b
words_same a b f g = go (eqb (of_z w64 a) (of_z w64 b)) (same_number a b) refl refl
  where
    go : (p q : Bool) → eqb (of_z w64 a) (of_z w64 b) ≡ p → same_number a b ≡ q → p ≡ q
    go true true h k = refl
    go false false h k = refl
    go true false h k =
        let e : a ≡ b = sym (to_z-of_z f) ∙ ap (to_z w64) (eqb-true (of_z w64 a) (of_z w64 b) h) ∙ to_z-of_z g in
        sym (same_self a) ∙ ap (same_number a) e ∙ k
    go false true h k = absurd (eqb-false (of_z w64 a) (of_z w64 b) h (ap (of_z w64) (same_is a b k)))
