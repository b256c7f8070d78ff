-- Sums and products of integers read by omega through an expression: `lin ρ e` gives the two parts of `eval ρ e` from those of the variables.
use Rattle.std.proofs.Common.{◌≡◌, ℕ, ◌+◌, ◌*◌, List, ℤ, ◌+ℤ◌, ◌*ℤ◌, neg_ℤ, sym, ap, ◌∙◌, ap₂}
use Rattle.integers.proofs.Differences.{◌⊖◌, up, dn, parts, ⊖_add, ⊖_neg, ⊖_mul, eq_⊖}
use Rattle.integers.proofs.Polynomials.{Expr, var, con, neg, ◌:+◌, ◌:-◌, ◌:*◌, at, eval}

-- the two parts, the greater first
abbrev pub two : List ℤ → Expr → ℕ × ℕ
two ρ (var i) = (up (at ρ i), dn (at ρ i))
two ρ (con z) = (up z, dn z)
two ρ (a :+ b) = ((two ρ a).0 + (two ρ b).0, (two ρ a).1 + (two ρ b).1)
two ρ (a :- b) = ((two ρ a).0 + (two ρ b).1, (two ρ a).1 + (two ρ b).0)
two ρ (a :* b) = ((two ρ a).0 * (two ρ b).0 + (two ρ a).1 * (two ρ b).1, (two ρ a).0 * (two ρ b).1 + (two ρ a).1 * (two ρ b).0)
two ρ (neg a) = ((two ρ a).1, (two ρ a).0)

two_ok : (ρ : List ℤ) (e : Expr) → eval ρ e ≡ (two ρ e).0 ⊖ (two ρ e).1
two_ok ρ (var i) = parts (at ρ i)
two_ok ρ (con z) = parts z
two_ok ρ (a :+ b) = ap₂ ◌+ℤ◌ (two_ok ρ a) (two_ok ρ b) ∙ ⊖_add (two ρ a).0 (two ρ a).1 (two ρ b).0 (two ρ b).1
two_ok ρ (a :- b) = ap₂ ◌+ℤ◌ (two_ok ρ a) (ap neg_ℤ (two_ok ρ b) ∙ ⊖_neg (two ρ b).0 (two ρ b).1) ∙ ⊖_add (two ρ a).0 (two ρ a).1 (two ρ b).1 (two ρ b).0
two_ok ρ (a :* b) = ap₂ ◌*ℤ◌ (two_ok ρ a) (two_ok ρ b) ∙ ⊖_mul (two ρ a).0 (two ρ a).1 (two ρ b).0 (two ρ b).1
two_ok ρ (neg a) = ap neg_ℤ (two_ok ρ a) ∙ ⊖_neg (two ρ a).0 (two ρ a).1

pub lin : (ρ : List ℤ) (e : Expr) → up (eval ρ e) + (two ρ e).1 ≡ (two ρ e).0 + dn (eval ρ e)
lin ρ e = (eq_⊖ (up (eval ρ e)) (dn (eval ρ e)) (two ρ e).0 (two ρ e).1).0 (sym (parts (eval ρ e)) ∙ two_ok ρ e)
