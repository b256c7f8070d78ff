-- How an edge counts, as the code finds it: the heights first, the turn only where the edge passes the point's height. Assumes nothing.
use mathlib.Core.Path.{◌≡◌, refl, sym, ◌∙◌, ap}
use mathlib.Core.Bool.{Bool, true, false, not, cond, ◌&&◌, ◌||◌}
use Prim.Native.Nat.{◌≤◌}
use lib.Dec.{T, lit≤}
use lib.IntN.{pos, negsuc, nat_abs, ◌-ℤ◌}
use lib.Signed.{le_z, lt_z}
use Rattle.integers.specs.declared.Sign.{Sign}
use Rattle.integers.specs.declared.Sign.TheVariants.{Negative, Zero, Positive}
use Rattle.integers.specs.Signs.{sign_of, is_negative, is_positive}
use Rattle.integers.proofs.Signs.{le_sign}
use Rattle.geom.specs.declared.Point.{Point}
use Rattle.predicates.specs.Turn.{orientation, on_segment}
use Rattle.rules.specs.Edges.{edge_winding}
use Rattle.rules.proofs.RaySigns.{winding_by, on_by, possible, all5, all5_at}
use Rattle.rules.proofs.RayEdges.{winding_by_lem, on_by_lem, turn_possible}
use Rattle.rings.specs.declared.crossings.Crossing.{Crossing}
use Rattle.rings.specs.declared.crossings.Crossing.TheVariants.{Nothing, Up, Down, On}
use Rattle.rings.specs.Crossings.{signed, crossing_of, is_on, weight_of, upward_of, downward_of}

-- as the code finds it
abbrev pub found : Bool → Bool → Bool → Sign → Crossing
found a_low b_low on turn = cond a_low (cond b_low (cond on On Nothing) (upward_of turn)) (cond b_low (downward_of turn) Nothing)

-- ---- the two are the same for all signs
abbrev same_crossing : Crossing → Crossing → Bool
same_crossing Nothing Nothing = true
same_crossing Nothing Up = false
same_crossing Nothing Down = false
same_crossing Nothing On = false
same_crossing Up Nothing = false
same_crossing Up Up = true
same_crossing Up Down = false
same_crossing Up On = false
same_crossing Down Nothing = false
same_crossing Down Up = false
same_crossing Down Down = true
same_crossing Down On = false
same_crossing On Nothing = false
same_crossing On Up = false
same_crossing On Down = false
same_crossing On On = true

same_crossing_lem : (c d : Crossing) → T (same_crossing c d) → c ≡ d
same_crossing_lem Nothing Nothing t = refl
same_crossing_lem Nothing Up t = absurd t
same_crossing_lem Nothing Down t = absurd t
same_crossing_lem Nothing On t = absurd t
same_crossing_lem Up Nothing t = absurd t
same_crossing_lem Up Up t = refl
same_crossing_lem Up Down t = absurd t
same_crossing_lem Up On t = absurd t
same_crossing_lem Down Nothing t = absurd t
same_crossing_lem Down Up t = absurd t
same_crossing_lem Down Down t = refl
same_crossing_lem Down On t = absurd t
same_crossing_lem On Nothing t = absurd t
same_crossing_lem On Up t = absurd t
same_crossing_lem On Down t = absurd t
same_crossing_lem On On t = refl

abbrev test : Sign → Sign → Sign → Sign → Sign → Bool
test ax ay bx by s =
    not (possible ax ay bx by s) || same_crossing (found (not (is_positive ay)) (not (is_positive by)) (on_by ax ay bx by s) s) (cond (on_by ax ay bx by s) On (signed (sign_of (winding_by ay by s))))

tested : T (all5 test)
tested = tt

implied : (a b : Bool) → T (not a || b) → T a → T b
implied true b t h = t
implied false b t h = absurd h

by_signs : (ax ay bx by s : Sign) → T (possible ax ay bx by s) → found (not (is_positive ay)) (not (is_positive by)) (on_by ax ay bx by s) s ≡ cond (on_by ax ay bx by s) On (signed (sign_of (winding_by ay by s)))
by_signs ax ay bx by s h = same_crossing_lem _ _ (implied (possible ax ay bx by s) _ (all5_at test tested ax ay bx by s) h)

pub found_is : (a b p : Point) → found (le_z a.y p.y) (le_z b.y p.y) (on_segment a b p) (sign_of (orientation a b p)) ≡ crossing_of a b p
unfolding crossing_of
found_is a b p =
    rw (le_sign a.y p.y, le_sign b.y p.y, on_by_lem a b p, winding_by_lem a b p)
    (by_signs (sign_of (a.x -ℤ p.x)) (sign_of (a.y -ℤ p.y)) (sign_of (b.x -ℤ p.x)) (sign_of (b.y -ℤ p.y)) (sign_of (orientation a b p)) (turn_possible a b p))

-- by the tests of the code
pub found_at : (a b p : Point) (a_low b_low on : Bool) (turn : Sign) → le_z a.y p.y ≡ a_low → le_z b.y p.y ≡ b_low → on_segment a b p ≡ on → sign_of (orientation a b p) ≡ turn → found a_low b_low on turn ≡ crossing_of a b p
found_at a b p a_low b_low on turn e f g h = (λ i. found (sym e i) (sym f i) (sym g i) (sym h i)) ∙ found_is a b p

-- ---- what a crossing says of its edge
pub on_crossing : (a b p : Point) → is_on (crossing_of a b p) ≡ on_segment a b p
unfolding crossing_of
on_crossing a b p = go (on_segment a b p) (sign_of (edge_winding a b p))
  where
    go : (on : Bool) (s : Sign) → is_on (cond on On (signed s)) ≡ on
    go true s = refl
    go false Negative = refl
    go false Zero = refl
    go false Positive = refl

-- an edge adds −1, 0 or 1
small : (a b p : Point) → weight_of (signed (sign_of (edge_winding a b p))) ≡ edge_winding a b p
unfolding edge_winding
small a b p = go (le_z a.y p.y && lt_z p.y b.y && is_positive (sign_of (orientation a b p))) (le_z b.y p.y && lt_z p.y a.y && is_negative (sign_of (orientation a b p)))
  where
    go : (up down : Bool) → weight_of (signed (sign_of (cond up (pos 1) (cond down (negsuc 0) (pos 0))))) ≡ cond up (pos 1) (cond down (negsuc 0) (pos 0))
    go true down = refl
    go false true = refl
    go false false = refl

pub weight_crossing : (a b p : Point) → on_segment a b p ≡ false → weight_of (crossing_of a b p) ≡ edge_winding a b p
unfolding crossing_of
weight_crossing a b p off = ap (λ on. weight_of (cond on On (signed (sign_of (edge_winding a b p))))) off ∙ small a b p

pub weight_small : (c : Crossing) → nat_abs (weight_of c) ≤ 1
weight_small Nothing = lit≤ tt
weight_small Up = lit≤ tt
weight_small Down = lit≤ tt
weight_small On = lit≤ tt
