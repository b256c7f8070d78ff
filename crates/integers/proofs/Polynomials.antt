-- A solver for equations of commutative rings over ℤ. `ring ρ e f refl` proves `eval ρ e ≡ eval ρ f` where the two have one normal form:
-- a list of terms, each a coefficient and a sorted list of the variables' numbers, in rising order and with no coefficient zero.
use Rattle.std.proofs.Common.{◌≡◌, ℕ, zero, suc, Bool, true, false, T, leb, List, [], ◌∷◌, ℤ, pos, negsuc, ◌+ℤ◌, ◌-ℤ◌, ◌*ℤ◌, neg_ℤ, sym, refl, ap, ◌∙◌, ap₂, arith, eqb→eq}
use Prim.Native.Nat.{compare, Ordering}
use lib.Dec.{compare_is_eq}
use lib.IntN.{+ℤ_assoc, +ℤ_idl, zero-*ℤ, *ℤ-zero}
use Rattle.integers.proofs.Differences.{byℕ, diff}
use Rattle.integers.proofs.Order.{*ℤ_assoc, *ℤ_distl, *ℤ_distr, neg_*ℤ, +ℤ_left_comm, *ℤ_left_comm}

infixl 6 ◌:+◌ ◌:-◌
infixl 7 ◌:*◌
pub data Expr : Type 0 where
  var : ℕ → Expr
  con : ℤ → Expr
  ◌:+◌ ◌:-◌ ◌:*◌ : Expr → Expr → Expr
  neg : Expr → Expr

abbrev pub at : List ℤ → ℕ → ℤ
at [] i = pos 0
at (x ∷ ρ) zero = x
at (x ∷ ρ) (suc i) = at ρ i

abbrev pub eval : List ℤ → Expr → ℤ
eval ρ (var i) = at ρ i
eval ρ (con z) = z
eval ρ (a :+ b) = eval ρ a +ℤ eval ρ b
eval ρ (a :- b) = eval ρ a -ℤ eval ρ b
eval ρ (a :* b) = eval ρ a *ℤ eval ρ b
eval ρ (neg a) = neg_ℤ (eval ρ a)

-- ---- the normal form
pub data Poly : Type 0 where
  nil : Poly
  term : ℤ → List ℕ → Poly → Poly

abbrev pub ev_m : List ℤ → List ℕ → ℤ
ev_m ρ [] = pos 1
ev_m ρ (v ∷ m) = at ρ v *ℤ ev_m ρ m

abbrev pub ev : List ℤ → Poly → ℤ
ev ρ nil = pos 0
ev ρ (term c m p) = c *ℤ ev_m ρ m +ℤ ev ρ p

abbrev pub then : Ordering → Ordering → Ordering
then Ordering.lt o = Ordering.lt
then Ordering.eq o = o
then Ordering.gt o = Ordering.gt

abbrev pub cmp : List ℕ → List ℕ → Ordering
cmp [] [] = Ordering.eq
cmp [] (u ∷ n) = Ordering.lt
cmp (v ∷ m) [] = Ordering.gt
cmp (v ∷ m) (u ∷ n) = then (compare v u) (cmp m n)

-- a term whose coefficient is zero is left out
abbrev pub mk : ℤ → List ℕ → Poly → Poly
mk (pos zero) m p = p
mk (pos (suc k)) m p = term (pos (suc k)) m p
mk (negsuc k) m p = term (negsuc k) m p

abbrev pub pick : Ordering → ℤ → List ℕ → ℤ → List ℕ → Poly → Poly → Poly
pick Ordering.lt c m d n p r = term c m (term d n p)
pick Ordering.eq c m d n p r = mk (c +ℤ d) n p
pick Ordering.gt c m d n p r = term d n r

abbrev pub add_t : ℤ → List ℕ → Poly → Poly
add_t c m nil = term c m nil
add_t c m (term d n p) = pick (cmp m n) c m d n p (add_t c m p)

abbrev pub add_p : Poly → Poly → Poly
add_p nil q = q
add_p (term c m p) q = add_t c m (add_p p q)

abbrev pub ins_if : Bool → ℕ → ℕ → List ℕ → List ℕ → List ℕ
ins_if true v u m r = v ∷ u ∷ m
ins_if false v u m r = u ∷ r

abbrev pub ins : ℕ → List ℕ → List ℕ
ins v [] = v ∷ []
ins v (u ∷ m) = ins_if (leb v u) v u m (ins v m)

abbrev pub merge : List ℕ → List ℕ → List ℕ
merge [] n = n
merge (v ∷ m) n = ins v (merge m n)

abbrev pub mul_t : ℤ → List ℕ → Poly → Poly
mul_t c m nil = nil
mul_t c m (term d n p) = add_t (c *ℤ d) (merge m n) (mul_t c m p)

abbrev pub mul_p : Poly → Poly → Poly
mul_p nil q = nil
mul_p (term c m p) q = add_p (mul_t c m q) (mul_p p q)

abbrev pub norm : Expr → Poly
norm (var i) = term (pos 1) (i ∷ []) nil
norm (con z) = mk z [] nil
norm (a :+ b) = add_p (norm a) (norm b)
norm (a :- b) = add_p (norm a) (mul_t (negsuc 0) [] (norm b))
norm (a :* b) = mul_p (norm a) (norm b)
norm (neg a) = mul_t (negsuc 0) [] (norm a)

-- ---- each step keeps the value
one_*ℤ : (x : ℤ) → pos 1 *ℤ x ≡ x
one_*ℤ = byℕ (λ x. pos 1 *ℤ x ≡ x) (λ a b. simp diff (omega arith))

minus_one_*ℤ : (x : ℤ) → negsuc 0 *ℤ x ≡ neg_ℤ x
minus_one_*ℤ x = neg_*ℤ (pos 1) x ∙ ap neg_ℤ (one_*ℤ x)

module _ (ρ : List ℤ) where
  mk_ok : (c : ℤ) (m : List ℕ) (p : Poly) → ev ρ (mk c m p) ≡ c *ℤ ev_m ρ m +ℤ ev ρ p
  mk_ok (pos zero) m p = sym (ap (λ t. t +ℤ ev ρ p) (zero-*ℤ (ev_m ρ m)) ∙ +ℤ_idl (ev ρ p))
  mk_ok (pos (suc k)) m p = refl
  mk_ok (negsuc k) m p = refl

  ins_if_ok : (b : Bool) (v u : ℕ) (m r : List ℕ) → ev_m ρ r ≡ at ρ v *ℤ ev_m ρ m → ev_m ρ (ins_if b v u m r) ≡ at ρ v *ℤ (at ρ u *ℤ ev_m ρ m)
  ins_if_ok true v u m r h = refl
  ins_if_ok false v u m r h = ap (λ t. at ρ u *ℤ t) h ∙ *ℤ_left_comm (at ρ u) (at ρ v) (ev_m ρ m)

  ins_ok : (v : ℕ) (m : List ℕ) → ev_m ρ (ins v m) ≡ at ρ v *ℤ ev_m ρ m
  ins_ok v [] = refl
  ins_ok v (u ∷ m) = ins_if_ok (leb v u) v u m (ins v m) (ins_ok v m)

  merge_ok : (m n : List ℕ) → ev_m ρ (merge m n) ≡ ev_m ρ m *ℤ ev_m ρ n
  merge_ok [] n = sym (one_*ℤ (ev_m ρ n))
  merge_ok (v ∷ m) n = ins_ok v (merge m n) ∙ ap (λ t. at ρ v *ℤ t) (merge_ok m n) ∙ sym (*ℤ_assoc (at ρ v) (ev_m ρ m) (ev_m ρ n))

  pick_ok : (o : Ordering) (c : ℤ) (m : List ℕ) (d : ℤ) (n : List ℕ) (p r : Poly) → (T (compare_is_eq o) → m ≡ n) → ev ρ r ≡ c *ℤ ev_m ρ m +ℤ ev ρ p
      → ev ρ (pick o c m d n p r) ≡ c *ℤ ev_m ρ m +ℤ (d *ℤ ev_m ρ n +ℤ ev ρ p)
  pick_ok Ordering.lt c m d n p r f h = refl
  pick_ok Ordering.eq c m d n p r f h =
      mk_ok (c +ℤ d) n p ∙ ap (λ t. t +ℤ ev ρ p) (*ℤ_distr c d (ev_m ρ n)) ∙ +ℤ_assoc (c *ℤ ev_m ρ n) (d *ℤ ev_m ρ n) (ev ρ p)
      ∙ ap (λ t. c *ℤ ev_m ρ t +ℤ (d *ℤ ev_m ρ n +ℤ ev ρ p)) (sym (f tt))
  pick_ok Ordering.gt c m d n p r f h = ap (λ t. d *ℤ ev_m ρ n +ℤ t) h ∙ +ℤ_left_comm (d *ℤ ev_m ρ n) (c *ℤ ev_m ρ m) (ev ρ p)

  then_eq : (a o : Ordering) → T (compare_is_eq (then a o)) → T (compare_is_eq a) × T (compare_is_eq o)
  then_eq Ordering.lt o t = absurd t
  then_eq Ordering.eq o t = (tt, t)
  then_eq Ordering.gt o t = absurd t

  cmp_eq : (m n : List ℕ) → T (compare_is_eq (cmp m n)) → m ≡ n
  cmp_eq [] [] t = refl
  cmp_eq [] (u ∷ n) t = absurd t
  cmp_eq (v ∷ m) [] t = absurd t
  cmp_eq (v ∷ m) (u ∷ n) t = ap₂ ◌∷◌ (eqb→eq v u (then_eq (compare v u) (cmp m n) t).0) (cmp_eq m n (then_eq (compare v u) (cmp m n) t).1)

  add_t_ok : (c : ℤ) (m : List ℕ) (p : Poly) → ev ρ (add_t c m p) ≡ c *ℤ ev_m ρ m +ℤ ev ρ p
  add_t_ok c m nil = refl
  add_t_ok c m (term d n p) = pick_ok (cmp m n) c m d n p (add_t c m p) (cmp_eq m n) (add_t_ok c m p)

  add_p_ok : (p q : Poly) → ev ρ (add_p p q) ≡ ev ρ p +ℤ ev ρ q
  add_p_ok nil q = sym (+ℤ_idl (ev ρ q))
  add_p_ok (term c m p) q = add_t_ok c m (add_p p q) ∙ ap (λ t. c *ℤ ev_m ρ m +ℤ t) (add_p_ok p q) ∙ sym (+ℤ_assoc (c *ℤ ev_m ρ m) (ev ρ p) (ev ρ q))

  mul4 : (c d x y : ℤ) → (c *ℤ d) *ℤ (x *ℤ y) ≡ (c *ℤ x) *ℤ (d *ℤ y)
  mul4 c d x y = *ℤ_assoc c d (x *ℤ y) ∙ ap (λ t. c *ℤ t) (*ℤ_left_comm d x y) ∙ sym (*ℤ_assoc c x (d *ℤ y))

  mul_t_ok : (c : ℤ) (m : List ℕ) (p : Poly) → ev ρ (mul_t c m p) ≡ (c *ℤ ev_m ρ m) *ℤ ev ρ p
  mul_t_ok c m nil = sym (*ℤ-zero (c *ℤ ev_m ρ m))
  mul_t_ok c m (term d n p) =
      add_t_ok (c *ℤ d) (merge m n) (mul_t c m p)
      ∙ ap₂ ◌+ℤ◌ (ap (λ t. (c *ℤ d) *ℤ t) (merge_ok m n) ∙ mul4 c d (ev_m ρ m) (ev_m ρ n)) (mul_t_ok c m p)
      ∙ sym (*ℤ_distl (c *ℤ ev_m ρ m) (d *ℤ ev_m ρ n) (ev ρ p))

  mul_p_ok : (p q : Poly) → ev ρ (mul_p p q) ≡ ev ρ p *ℤ ev ρ q
  mul_p_ok nil q = sym (zero-*ℤ (ev ρ q))
  mul_p_ok (term c m p) q = add_p_ok (mul_t c m q) (mul_p p q) ∙ ap₂ ◌+ℤ◌ (mul_t_ok c m q) (mul_p_ok p q) ∙ sym (*ℤ_distr (c *ℤ ev_m ρ m) (ev ρ p) (ev ρ q))

  neg_ok : (p : Poly) → ev ρ (mul_t (negsuc 0) [] p) ≡ neg_ℤ (ev ρ p)
  neg_ok p = mul_t_ok (negsuc 0) [] p ∙ minus_one_*ℤ (ev ρ p)

  var_ok : (x : ℤ) → pos 1 *ℤ (x *ℤ pos 1) +ℤ pos 0 ≡ x
  var_ok = byℕ (λ x. pos 1 *ℤ (x *ℤ pos 1) +ℤ pos 0 ≡ x) (λ a b. simp diff (omega arith))

  con_ok : (x : ℤ) → x *ℤ pos 1 +ℤ pos 0 ≡ x
  con_ok = byℕ (λ x. x *ℤ pos 1 +ℤ pos 0 ≡ x) (λ a b. simp diff (omega arith))

  norm_ok : (e : Expr) → ev ρ (norm e) ≡ eval ρ e
  norm_ok (var i) = var_ok (at ρ i)
  norm_ok (con z) = mk_ok z [] nil ∙ con_ok z
  norm_ok (a :+ b) = add_p_ok (norm a) (norm b) ∙ ap₂ ◌+ℤ◌ (norm_ok a) (norm_ok b)
  norm_ok (a :- b) = add_p_ok (norm a) (mul_t (negsuc 0) [] (norm b)) ∙ ap₂ ◌+ℤ◌ (norm_ok a) (neg_ok (norm b) ∙ ap neg_ℤ (norm_ok b))
  norm_ok (a :* b) = mul_p_ok (norm a) (norm b) ∙ ap₂ ◌*ℤ◌ (norm_ok a) (norm_ok b)
  norm_ok (neg a) = neg_ok (norm a) ∙ ap neg_ℤ (norm_ok a)

  pub ring : (e f : Expr) → norm e ≡ norm f → eval ρ e ≡ eval ρ f
  ring e f h = sym (norm_ok e) ∙ ap (ev ρ) h ∙ norm_ok f

-- ---- the calls: the two sides as functions of the variables
abbrev v0 : Expr
v0 = var 0

abbrev v1 : Expr
v1 = var 1

abbrev v2 : Expr
v2 = var 2

abbrev v3 : Expr
v3 = var 3

abbrev v4 : Expr
v4 = var 4

abbrev v5 : Expr
v5 = var 5

abbrev v6 : Expr
v6 = var 6

abbrev v7 : Expr
v7 = var 7

pub ring₂ : (e f : Expr → Expr → Expr) → norm (e v0 v1) ≡ norm (f v0 v1) → (x y : ℤ) → eval (x ∷ y ∷ []) (e v0 v1) ≡ eval (x ∷ y ∷ []) (f v0 v1)
ring₂ e f h x y = ring (x ∷ y ∷ []) (e v0 v1) (f v0 v1) h

pub ring₄ : (e f : Expr → Expr → Expr → Expr → Expr) → norm (e v0 v1 v2 v3) ≡ norm (f v0 v1 v2 v3)
    → (x y z w : ℤ) → eval (x ∷ y ∷ z ∷ w ∷ []) (e v0 v1 v2 v3) ≡ eval (x ∷ y ∷ z ∷ w ∷ []) (f v0 v1 v2 v3)
ring₄ e f h x y z w = ring (x ∷ y ∷ z ∷ w ∷ []) (e v0 v1 v2 v3) (f v0 v1 v2 v3) h

pub ring₆ : (e f : Expr → Expr → Expr → Expr → Expr → Expr → Expr) → norm (e v0 v1 v2 v3 v4 v5) ≡ norm (f v0 v1 v2 v3 v4 v5)
    → (x y z w s t : ℤ) → eval (x ∷ y ∷ z ∷ w ∷ s ∷ t ∷ []) (e v0 v1 v2 v3 v4 v5) ≡ eval (x ∷ y ∷ z ∷ w ∷ s ∷ t ∷ []) (f v0 v1 v2 v3 v4 v5)
ring₆ e f h x y z w s t = ring (x ∷ y ∷ z ∷ w ∷ s ∷ t ∷ []) (e v0 v1 v2 v3 v4 v5) (f v0 v1 v2 v3 v4 v5) h

pub ring₈ : (e f : Expr → Expr → Expr → Expr → Expr → Expr → Expr → Expr → Expr) → norm (e v0 v1 v2 v3 v4 v5 v6 v7) ≡ norm (f v0 v1 v2 v3 v4 v5 v6 v7)
    → (x y z w s t u v : ℤ) → eval (x ∷ y ∷ z ∷ w ∷ s ∷ t ∷ u ∷ v ∷ []) (e v0 v1 v2 v3 v4 v5 v6 v7) ≡ eval (x ∷ y ∷ z ∷ w ∷ s ∷ t ∷ u ∷ v ∷ []) (f v0 v1 v2 v3 v4 v5 v6 v7)
ring₈ e f h x y z w s t u v = ring (x ∷ y ∷ z ∷ w ∷ s ∷ t ∷ u ∷ v ∷ []) (e v0 v1 v2 v3 v4 v5 v6 v7) (f v0 v1 v2 v3 v4 v5 v6 v7) h
