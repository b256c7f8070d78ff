-- One edge along a ray: what it adds is the rule of item 3 in turned coordinates, whose tests need no turning. Assumes nothing.
use mathlib.Core.Path.{◌≡◌, refl, sym, ◌∙◌, ap, ap₂}
use mathlib.Core.Bool.{Bool, true, false, cond}
use lib.IntN.{ℤ, pos, neg_ℤ}
use lib.Signed.{le_z}
use Rattle.integers.specs.declared.Sign.{Sign}
use Rattle.integers.specs.Signs.{sign_of}
use Rattle.integers.proofs.Order.{zarith, neg_parts}
use Rattle.integers.proofs.Tests.{le_true, le_false, LeView, is_le, is_gt, le_view}
use Rattle.geom.specs.declared.Point.{Point}
use Rattle.predicates.specs.Turn.{orientation, on_segment}
use Rattle.rules.specs.declared.Ray.{Ray}
use Rattle.rules.specs.declared.Ray.TheVariants.{Right, Left, Up, Down}
use Rattle.rules.specs.Rays.{turned, winding_on}
use Rattle.rules.specs.Lists.{xor}
use Rattle.rules.specs.Replies.{is_nonzero}
use Rattle.rules.proofs.RayEdges.{orientation_turned, on_turned}
use Rattle.rings.specs.declared.crossings.Crossing.{Crossing}
use Rattle.rings.specs.declared.crossings.Crossing.TheVariants.{Nothing, On}
use Rattle.rings.specs.declared.crossings.Crossing as Crossing
use Rattle.rings.specs.Crossings.{signed, crossing_of, is_on, weight_of}
use Rattle.rings.specs.Half.{crossed_once}
use Rattle.rings.proofs.EdgeCounts.{found, found_at, on_crossing, weight_crossing}
use Rattle.rays.specs.Along.{crossing_along, no_higher, is_crossed}

-- ---- turning
pub negated_order : (x y : ℤ) → le_z (neg_ℤ x) (neg_ℤ y) ≡ le_z y x
negated_order x y = go (le_view y x)
  where
    go : {b : Bool} → LeView y x b → le_z (neg_ℤ x) (neg_ℤ y) ≡ b
    go (is_le h) = le_true (neg_ℤ x) (neg_ℤ y) (omega (zarith, h, neg_parts x, neg_parts y))
    go (is_gt h) = le_false (neg_ℤ x) (neg_ℤ y) (omega (zarith, h, neg_parts x, neg_parts y))

pub height_turned : (ray : Ray) (corner p : Point) → le_z (turned ray corner).y (turned ray p).y ≡ no_higher ray corner p
height_turned Right corner p = refl
height_turned Left corner p = negated_order corner.y p.y
height_turned Up corner p = negated_order corner.x p.x
height_turned Down corner p = refl

-- along a ray is to the right in turned coordinates
pub along_turned : (ray : Ray) (a b p : Point) → crossing_along ray a b p ≡ crossing_of (turned ray a) (turned ray b) (turned ray p)
unfolding crossing_along crossing_of winding_on
along_turned ray a b p = ap (λ on. cond on On (signed (sign_of (winding_on ray a b p)))) (sym (on_turned ray a b p))

-- by the tests of the code
pub found_along : (ray : Ray) (a b p : Point) (a_low b_low on : Bool) (turn : Sign) → no_higher ray a p ≡ a_low → no_higher ray b p ≡ b_low → on_segment a b p ≡ on → sign_of (orientation a b p) ≡ turn → found a_low b_low on turn ≡ crossing_along ray a b p
found_along ray a b p a_low b_low on turn e f g h =
    found_at (turned ray a) (turned ray b) (turned ray p) a_low b_low on turn (height_turned ray a p ∙ e) (height_turned ray b p ∙ f) (on_turned ray a b p ∙ g) (ap sign_of (orientation_turned ray a b p) ∙ h)
    ∙ sym (along_turned ray a b p)

-- ---- what a crossing says of its edge

-- on the edge, along every ray
pub on_along : (ray : Ray) (a b p : Point) → is_on (crossing_along ray a b p) ≡ on_segment a b p
on_along ray a b p = ap is_on (along_turned ray a b p) ∙ on_crossing (turned ray a) (turned ray b) (turned ray p) ∙ on_turned ray a b p

-- off it, what the edge adds on the ray
pub weight_along : (ray : Ray) (a b p : Point) → on_segment a b p ≡ false → weight_of (crossing_along ray a b p) ≡ winding_on ray a b p
unfolding winding_on
weight_along ray a b p off = ap weight_of (along_turned ray a b p) ∙ weight_crossing (turned ray a) (turned ray b) (turned ray p) (on_turned ray a b p ∙ off)

-- an edge that the point is not on and that adds nothing
pub nothing_along : (ray : Ray) (a b p : Point) → on_segment a b p ≡ false → winding_on ray a b p ≡ pos 0 → crossing_along ray a b p ≡ Nothing
unfolding crossing_along
nothing_along ray a b p off none = ap₂ (λ on w. cond on On (signed (sign_of w))) off none

-- an edge is crossed exactly if its weight is not 0, and turns a parity over exactly then
crossed_weight : (c : Crossing) → is_crossed c ≡ is_nonzero (weight_of c)
crossed_weight Nothing = refl
crossed_weight Crossing.TheVariants.Up = refl
crossed_weight Crossing.TheVariants.Down = refl
crossed_weight On = refl

pub crossed_once_lem : (odd : Bool) (c : Crossing) → crossed_once odd c ≡ xor odd (is_crossed c)
crossed_once_lem true Nothing = refl
crossed_once_lem true Crossing.TheVariants.Up = refl
crossed_once_lem true Crossing.TheVariants.Down = refl
crossed_once_lem true On = refl
crossed_once_lem false Nothing = refl
crossed_once_lem false Crossing.TheVariants.Up = refl
crossed_once_lem false Crossing.TheVariants.Down = refl
crossed_once_lem false On = refl

pub crossed_along : (ray : Ray) (a b p : Point) → on_segment a b p ≡ false → is_crossed (crossing_along ray a b p) ≡ is_nonzero (winding_on ray a b p)
crossed_along ray a b p off = crossed_weight (crossing_along ray a b p) ∙ ap is_nonzero (weight_along ray a b p off)
