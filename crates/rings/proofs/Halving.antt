-- How often a ring's edges are crossed is odd exactly if its winding number is. Assumes nothing.
use mathlib.Core.Path.{◌≡◌, refl, sym, ◌∙◌, ap}
use mathlib.Core.Bool.{Bool, true, false, not, cond, ◌&&◌}
use mathlib.Core.List.{List, [], ◌∷◌}
use Prim.Native.Nat.{ℕ, zero, suc}
use lib.IntN.{ℤ, pos, negsuc, nat_abs, ◌+ℤ◌, ◌*ℤ◌, +ℤ_idl}
use lib.Signed.{le_z, lt_z}
use Rattle.integers.specs.Signs.{sign_of, is_negative, is_positive}
use Rattle.integers.proofs.Order.{zarith, add_parts, abs_parts, thin}
use Rattle.predicates.specs.Turn.{orientation}
use Rattle.integers.proofs.Polynomials.{ring₂, con, ◌:+◌, ◌:*◌}
use Rattle.geom.specs.declared.Point.{Point}
use Rattle.rules.specs.Edges.{Edge, edges_of, edge_winding, winding}
use Rattle.rules.specs.Lists.{count_of, sum_of, is_odd, xor}
use Rattle.rules.specs.Replies.{is_nonzero, crosses}
use Rattle.rules.proofs.FourRays.{odd_suc}

-- ---- one more edge
-- how many edges are crossed, odd or not
abbrev pub odd_times : List Edge → Point → Bool
odd_times edges p = is_odd (count_of (λ e. crosses e p) edges)

one_more : (e : Edge) (edges : List Edge) (p : Point) → odd_times (e ∷ edges) p ≡ xor (crosses e p) (odd_times edges p)
unfolding count_of
one_more e edges p = go (crosses e p)
  where
    go : (b : Bool) → is_odd (cond b (suc (count_of (λ e. crosses e p) edges)) (count_of (λ e. crosses e p) edges)) ≡ xor b (is_odd (count_of (λ e. crosses e p) edges))
    go true = odd_suc (count_of (λ e. crosses e p) edges)
    go false = refl

-- ---- one more or one less turns the parity of a number over
not_not : (b : Bool) → not (not b) ≡ b
not_not true = refl
not_not false = refl

one_up : (y : ℤ) → is_odd (nat_abs (pos 1 +ℤ y)) ≡ not (is_odd (nat_abs y))
one_up (pos n) = ap is_odd (let e : nat_abs (pos 1 +ℤ pos n) ≡ suc n = omega (zarith, add_parts (pos 1) (pos n), abs_parts (pos 1 +ℤ pos n)) in e) ∙ odd_suc n
one_up (negsuc n) =
    ap is_odd (let e : nat_abs (pos 1 +ℤ negsuc n) ≡ n = omega (zarith, add_parts (pos 1) (negsuc n), abs_parts (pos 1 +ℤ negsuc n), thin (pos 1 +ℤ negsuc n)) in e)
    ∙ sym (ap not (odd_suc n) ∙ not_not (is_odd n))

one_down : (y : ℤ) → is_odd (nat_abs (negsuc 0 +ℤ y)) ≡ not (is_odd (nat_abs y))
one_down (pos zero) = refl
one_down (pos (suc n)) =
    ap is_odd (let e : nat_abs (negsuc 0 +ℤ pos (suc n)) ≡ n = omega (zarith, add_parts (negsuc 0) (pos (suc n)), abs_parts (negsuc 0 +ℤ pos (suc n)), thin (negsuc 0 +ℤ pos (suc n))) in e)
    ∙ sym (ap not (odd_suc n) ∙ not_not (is_odd n))
one_down (negsuc n) = ap is_odd (let e : nat_abs (negsuc 0 +ℤ negsuc n) ≡ suc (suc n) = omega (zarith, add_parts (negsuc 0) (negsuc n), abs_parts (negsuc 0 +ℤ negsuc n)) in e) ∙ odd_suc (suc n)

edge_turns : (a b p : Point) (y : ℤ) → is_odd (nat_abs (edge_winding a b p +ℤ y)) ≡ xor (is_nonzero (edge_winding a b p)) (is_odd (nat_abs y))
unfolding edge_winding
edge_turns a b p y = go (le_z a.y p.y && lt_z p.y b.y && is_positive (sign_of (orientation a b p))) (le_z b.y p.y && lt_z p.y a.y && is_negative (sign_of (orientation a b p)))
  where
    go : (up down : Bool) → is_odd (nat_abs (cond up (pos 1) (cond down (negsuc 0) (pos 0)) +ℤ y)) ≡ xor (is_nonzero (cond up (pos 1) (cond down (negsuc 0) (pos 0)))) (is_odd (nat_abs y))
    go true down = one_up y
    go false true = one_down y
    go false false = ap (λ z. is_odd (nat_abs z)) (+ℤ_idl y)

odd_sum : (edges : List Edge) (p : Point) → is_odd (nat_abs (sum_of (λ e. edge_winding e.0 e.1 p) edges)) ≡ odd_times edges p
unfolding sum_of count_of
odd_sum [] p = refl
odd_sum (e ∷ edges) p = edge_turns e.0 e.1 p (sum_of (λ e. edge_winding e.0 e.1 p) edges) ∙ ap (xor (crosses e p)) (odd_sum edges p) ∙ sym (one_more e edges p)

-- so the half-grid's parity is that of the winding number
pub odd_winding : (ring : List Point) (p : Point) → is_odd (nat_abs (winding ring p)) ≡ odd_times (edges_of ring) p
unfolding winding
odd_winding ring p = odd_sum (edges_of ring) p

-- ---- a corner in range, doubled
pub twice_is : (z : ℤ) → z +ℤ z ≡ pos 2 *ℤ z
twice_is z = ring₂ (λ z t. z :+ z) (λ z t. con (pos 2) :* z) refl z z
