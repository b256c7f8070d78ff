-- Signed arithmetic as the machine leaves it in a goal: each operand is read back from its bits, `to_z w (of_z w x)`.
-- `raw w ρ e` is what the last operation of `e` gives before it is stored, `mev w ρ e` what is read back. Where all sizes fit, both are `eval ρ e`.
use Rattle.std.proofs.Common.{◌≡◌, ℕ, ◌^◌, Bool, ◌&&◌, T, ltb, List, ℤ, ◌+ℤ◌, ◌-ℤ◌, ◌*ℤ◌, neg_ℤ, sym, refl, ap, ◌∙◌, subst, ap₂, SFits, to_z, of_z}
use mir.Syntax.{Width}
use mir.Val.{hbits}
use mir.ValLaws.{to_z-of_z}
use Rattle.integers.proofs.Polynomials.{Expr, var, con, neg, ◌:+◌, ◌:-◌, ◌:*◌, at, eval}
use Rattle.integers.proofs.Tests.{and_left, and_right}
use Rattle.integers.proofs.Sizes.{Within, size, fits}

abbrev pub raw : Width → List ℤ → Expr → ℤ
raw w ρ (var i) = at ρ i
raw w ρ (con z) = z
raw w ρ (a :+ b) = to_z w (of_z w (raw w ρ a)) +ℤ to_z w (of_z w (raw w ρ b))
raw w ρ (a :- b) = to_z w (of_z w (raw w ρ a)) -ℤ to_z w (of_z w (raw w ρ b))
raw w ρ (a :* b) = to_z w (of_z w (raw w ρ a)) *ℤ to_z w (of_z w (raw w ρ b))
raw w ρ (neg a) = neg_ℤ (to_z w (of_z w (raw w ρ a)))

-- every part fits
abbrev pub here : Width → List ℕ → Expr → Bool
here w β e = ltb (size β e) (2 ^ hbits w)

abbrev pub small : Width → List ℕ → Expr → Bool
small w β (var i) = here w β (var i)
small w β (con z) = here w β (con z)
small w β (a :+ b) = here w β (a :+ b) && (small w β a && small w β b)
small w β (a :- b) = here w β (a :- b) && (small w β a && small w β b)
small w β (a :* b) = here w β (a :* b) && (small w β a && small w β b)
small w β (neg a) = here w β (neg a) && small w β a

small_here : (w : Width) (β : List ℕ) (e : Expr) → T (small w β e) → T (here w β e)
small_here w β (var i) t = t
small_here w β (con z) t = t
small_here w β (a :+ b) t = and_left (here w β (a :+ b)) _ t
small_here w β (a :- b) t = and_left (here w β (a :- b)) _ t
small_here w β (a :* b) t = and_left (here w β (a :* b)) _ t
small_here w β (neg a) t = and_left (here w β (neg a)) _ t

module _ (w : Width) (ρ : List ℤ) (β : List ℕ) (h : Within ρ β) where
  back : (e : Expr) → T (small w β e) → raw w ρ e ≡ eval ρ e → to_z w (of_z w (raw w ρ e)) ≡ eval ρ e
  back e t r = ap (λ z. to_z w (of_z w z)) r ∙ to_z-of_z w (eval ρ e) (fits w ρ β e h (small_here w β e t))

  raw_ok : (e : Expr) → T (small w β e) → raw w ρ e ≡ eval ρ e
  raw_ok (var i) t = refl
  raw_ok (con z) t = refl
  raw_ok (a :+ b) t = let u = and_right (here w β (a :+ b)) (small w β a && small w β b) t in let l = and_left (small w β a) (small w β b) u in let r = and_right (small w β a) (small w β b) u in
      ap₂ ◌+ℤ◌ (back a l (raw_ok a l)) (back b r (raw_ok b r))
  raw_ok (a :- b) t = let u = and_right (here w β (a :- b)) (small w β a && small w β b) t in let l = and_left (small w β a) (small w β b) u in let r = and_right (small w β a) (small w β b) u in
      ap₂ ◌-ℤ◌ (back a l (raw_ok a l)) (back b r (raw_ok b r))
  raw_ok (a :* b) t = let u = and_right (here w β (a :* b)) (small w β a && small w β b) t in let l = and_left (small w β a) (small w β b) u in let r = and_right (small w β a) (small w β b) u in
      ap₂ ◌*ℤ◌ (back a l (raw_ok a l)) (back b r (raw_ok b r))
  raw_ok (neg a) t = let u = and_right (here w β (neg a)) (small w β a) t in ap neg_ℤ (back a u (raw_ok a u))

  -- an operation's result fits: the goal `overflow_sub-result` and its like
  pub need : (e : Expr) → T (small w β e) → SFits w (raw w ρ e)
  need e t = subst (SFits w) (sym (raw_ok e t)) (fits w ρ β e h (small_here w β e t))

  -- and is what the expression says: the goal `returns`
  pub result : (e : Expr) → T (small w β e) → to_z w (of_z w (raw w ρ e)) ≡ eval ρ e
  result e t = back e t (raw_ok e t)
