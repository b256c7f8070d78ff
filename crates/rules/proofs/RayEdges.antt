-- One edge and the four rays: integers read as signs. Assumes nothing.
use mathlib.Core.Path.{◌≡◌, refl, sym, ◌∙◌, ap}
use mathlib.Core.Bool.{false, not}
use Prim.Native.Nat.{zero, suc}
use lib.Dec.{T}
use lib.IntN.{ℤ, pos, negsuc, neg_ℤ, ◌+ℤ◌, ◌-ℤ◌, ◌*ℤ◌}
use lib.Signed.{le_z}
use Rattle.integers.specs.Extremes.{min_z, max_z}
use Rattle.integers.specs.Signs.{sign_of}
use Rattle.integers.proofs.Polynomials.{ring₂, ring₆, neg, ◌:-◌, ◌:*◌}
use Rattle.integers.proofs.Signs.{opposite, agree_ok, sign_mul, sign_neg, gt_sign, le_sign, ge_sign, le_min, le_max}
use Rattle.integers.proofs.Tests.{T_false}
use Rattle.geom.specs.declared.Point.{Point}
use Rattle.geom.specs.Boxes.{rect_of}
use Rattle.predicates.specs.Turn.{orientation, on_segment}
use Rattle.rules.specs.declared.Ray.{Ray}
use Rattle.rules.specs.declared.Ray.TheVariants.{Right, Left, Up, Down}
use Rattle.rules.specs.Edges.{edge_winding}
use Rattle.rules.specs.Rays.{turned, winding_on, meets_ray}
use Rattle.rules.specs.Replies.{is_nonzero}
use Rattle.rules.specs.Lists.{xor}
use Rattle.rules.proofs.RaySigns.{winding_by, winding_turned, low, high, on_by, x_turned, y_turned, meets_by, possible, potential, winding_signs, parity_signs, box_signs, on_signs}

-- ---- the definitions, by signs
low_signs : (a b p : ℤ) → le_z (min_z a b) p ≡ low (sign_of (a -ℤ p)) (sign_of (b -ℤ p))
low_signs a b p = rw (le_min a b p, le_sign a p, le_sign b p)

high_signs : (a b p : ℤ) → le_z p (max_z a b) ≡ high (sign_of (a -ℤ p)) (sign_of (b -ℤ p))
high_signs a b p = rw (le_max a b p, ge_sign a p, ge_sign b p)

pub winding_by_lem : (a b p : Point) → edge_winding a b p ≡ winding_by (sign_of (a.y -ℤ p.y)) (sign_of (b.y -ℤ p.y)) (sign_of (orientation a b p))
unfolding edge_winding
winding_by_lem a b p = rw (le_sign a.y p.y, gt_sign b.y p.y, le_sign b.y p.y, gt_sign a.y p.y)

pub on_by_lem : (a b p : Point) → on_segment a b p ≡ on_by (sign_of (a.x -ℤ p.x)) (sign_of (a.y -ℤ p.y)) (sign_of (b.x -ℤ p.x)) (sign_of (b.y -ℤ p.y)) (sign_of (orientation a b p))
unfolding on_segment
on_by_lem a b p = rw (low_signs a.x b.x p.x, high_signs a.x b.x p.x, low_signs a.y b.y p.y, high_signs a.y b.y p.y)

meets_by_lem : (ray : Ray) (a b p : Point) → meets_ray ray (rect_of a b) p ≡ meets_by ray (sign_of (a.x -ℤ p.x)) (sign_of (a.y -ℤ p.y)) (sign_of (b.x -ℤ p.x)) (sign_of (b.y -ℤ p.y))
meets_by_lem Right a b p = rw (high_signs a.x b.x p.x, low_signs a.y b.y p.y, high_signs a.y b.y p.y)
meets_by_lem Left a b p = rw (low_signs a.x b.x p.x, low_signs a.y b.y p.y, high_signs a.y b.y p.y)
meets_by_lem Up a b p = rw (high_signs a.y b.y p.y, low_signs a.x b.x p.x, high_signs a.x b.x p.x)
meets_by_lem Down a b p = rw (low_signs a.y b.y p.y, low_signs a.x b.x p.x, high_signs a.x b.x p.x)

-- ---- the turn is the cross product of a − p and b − p, which bounds its sign
about_point : (a b p : Point) → orientation a b p ≡ (a.x -ℤ p.x) *ℤ (b.y -ℤ p.y) -ℤ (a.y -ℤ p.y) *ℤ (b.x -ℤ p.x)
unfolding orientation
about_point a b p =
    ring₆ (λ a c b d p q. (b :- a) :* (q :- c) :- (d :- c) :* (p :- a)) (λ a c b d p q. (a :- p) :* (d :- q) :- (c :- q) :* (b :- p)) refl a.x a.y b.x b.y p.x p.y

pub turn_possible : (a b p : Point) → T (possible (sign_of (a.x -ℤ p.x)) (sign_of (a.y -ℤ p.y)) (sign_of (b.x -ℤ p.x)) (sign_of (b.y -ℤ p.y)) (sign_of (orientation a b p)))
turn_possible a b p =
    rw (about_point a b p, ← sign_mul (a.x -ℤ p.x) (b.y -ℤ p.y), ← sign_mul (a.y -ℤ p.y) (b.x -ℤ p.x))
    (agree_ok ((a.x -ℤ p.x) *ℤ (b.y -ℤ p.y)) ((a.y -ℤ p.y) *ℤ (b.x -ℤ p.x)))

-- ---- turned coordinates
pub orientation_turned : (ray : Ray) (a b p : Point) → orientation (turned ray a) (turned ray b) (turned ray p) ≡ orientation a b p
unfolding orientation
orientation_turned Right a b p = refl
orientation_turned Left a b p =
    ring₆ (λ a c b d p q. (neg b :- neg a) :* (neg q :- neg c) :- (neg d :- neg c) :* (neg p :- neg a)) (λ a c b d p q. (b :- a) :* (q :- c) :- (d :- c) :* (p :- a)) refl a.x a.y b.x b.y p.x p.y
orientation_turned Up a b p =
    ring₆ (λ a c b d p q. (d :- c) :* (neg p :- neg a) :- (neg b :- neg a) :* (q :- c)) (λ a c b d p q. (b :- a) :* (q :- c) :- (d :- c) :* (p :- a)) refl a.x a.y b.x b.y p.x p.y
orientation_turned Down a b p =
    ring₆ (λ a c b d p q. (neg d :- neg c) :* (p :- a) :- (b :- a) :* (neg q :- neg c)) (λ a c b d p q. (b :- a) :* (q :- c) :- (d :- c) :* (p :- a)) refl a.x a.y b.x b.y p.x p.y

negated_difference : (x p : ℤ) → sign_of (neg_ℤ x -ℤ neg_ℤ p) ≡ opposite (sign_of (x -ℤ p))
negated_difference x p = ap sign_of (ring₂ (λ x p. neg x :- neg p) (λ x p. neg (x :- p)) refl x p) ∙ sign_neg (x -ℤ p)

x_turned_lem : (ray : Ray) (a p : Point) → sign_of ((turned ray a).x -ℤ (turned ray p).x) ≡ x_turned ray (sign_of (a.x -ℤ p.x)) (sign_of (a.y -ℤ p.y))
x_turned_lem Right a p = refl
x_turned_lem Left a p = negated_difference a.x p.x
x_turned_lem Up a p = refl
x_turned_lem Down a p = negated_difference a.y p.y

y_turned_lem : (ray : Ray) (a p : Point) → sign_of ((turned ray a).y -ℤ (turned ray p).y) ≡ y_turned ray (sign_of (a.x -ℤ p.x)) (sign_of (a.y -ℤ p.y))
y_turned_lem Right a p = refl
y_turned_lem Left a p = negated_difference a.y p.y
y_turned_lem Up a p = negated_difference a.x p.x
y_turned_lem Down a p = refl

pub winding_on_by : (ray : Ray) (a b p : Point) → winding_on ray a b p ≡ winding_turned ray (sign_of (a.x -ℤ p.x)) (sign_of (a.y -ℤ p.y)) (sign_of (b.x -ℤ p.x)) (sign_of (b.y -ℤ p.y)) (sign_of (orientation a b p))
unfolding winding_on
winding_on_by ray a b p = winding_by_lem (turned ray a) (turned ray b) (turned ray p) ∙ rw (orientation_turned ray a b p, y_turned_lem ray a p, y_turned_lem ray b p)

-- a point on an edge is found so on every ray
pub on_turned : (ray : Ray) (a b p : Point) → on_segment (turned ray a) (turned ray b) (turned ray p) ≡ on_segment a b p
on_turned ray a b p =
    on_by_lem (turned ray a) (turned ray b) (turned ray p)
    ∙ rw (orientation_turned ray a b p, x_turned_lem ray a p, y_turned_lem ray a p, x_turned_lem ray b p, y_turned_lem ray b p) (on_signs ray _ _ _ _ (sign_of (orientation a b p)))
    ∙ sym (on_by_lem a b p)

-- ---- the edge
abbrev pub potential_at : Ray → Point → Point → ℤ
potential_at ray p corner = potential ray (sign_of (corner.x -ℤ p.x)) (sign_of (corner.y -ℤ p.y))

pub edge_winding_lem : (ray : Ray) (p a b : Point) → on_segment a b p ≡ false → winding_on ray a b p +ℤ potential_at ray p b ≡ edge_winding a b p +ℤ potential_at ray p a
edge_winding_lem ray p a b h = rw (winding_on_by ray a b p, winding_by_lem a b p) (winding_signs ray _ _ _ _ _ (turn_possible a b p) (sym (on_by_lem a b p) ∙ h))

pub edge_parity : (ray : Ray) (p a b : Point) → on_segment a b p ≡ false → xor (is_nonzero (winding_on ray a b p)) (is_nonzero (potential_at ray p b)) ≡ xor (is_nonzero (edge_winding a b p)) (is_nonzero (potential_at ray p a))
edge_parity ray p a b h = rw (winding_on_by ray a b p, winding_by_lem a b p) (parity_signs ray _ _ _ _ _ (turn_possible a b p) (sym (on_by_lem a b p) ∙ h))

nothing : (z : ℤ) → T (not (is_nonzero z)) → z ≡ pos 0
nothing (pos zero) t = refl
nothing (pos (suc n)) t = absurd t
nothing (negsuc n) t = absurd t

-- an edge whose box does not meet the ray adds nothing and does not contain the point
pub box_missed : (ray : Ray) (a b p : Point) → meets_ray ray (rect_of a b) p ≡ false → (winding_on ray a b p ≡ pos 0) × (on_segment a b p ≡ false)
box_missed ray a b p h =
    let t = box_signs ray _ _ _ _ _ (turn_possible a b p) (sym (meets_by_lem ray a b p) ∙ h) in
    (winding_on_by ray a b p ∙ nothing _ t.0, on_by_lem a b p ∙ T_false _ t.1)
