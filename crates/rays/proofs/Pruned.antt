-- An edge whose box lies in the root box and misses the ray's rectangle adds nothing, and the point is not on it, on either grid.
-- Assumes nothing.
use mathlib.Core.Path.{◌≡◌, sym, ◌∙◌, ap, subst}
use mathlib.Core.Bool.{Bool, true, false, cond, ◌&&◌}
use mathlib.Core.List.{List}
use mathlib.Core.Logic.{◌⊎◌, inl, inr}
use Prim.Native.Nat.{ℕ, ◌<◌}
use native.Mathlib.Omega.{arith}
use lib.Dec.{T}
use lib.IntN.{ℤ, pos, ◌*ℤ◌}
use lib.ListN.{get_or}
use lib.Signed.{le_z, ◌≤ℤ◌}
use Rattle.integers.specs.Extremes.{min_z, max_z}
use Rattle.integers.specs.Halves.{floor_half, ceiling_half}
use Rattle.integers.proofs.Halves.{floor_below, ceiling_above}
use Rattle.integers.proofs.Order.{zarith, add_parts, ≤ℤ_trans}
use Rattle.integers.proofs.Signs.{min_parts, max_parts, min_one, max_one}
use Rattle.integers.proofs.Tests.{and_true, not_both, le_true, true_le}
use Rattle.geom.specs.declared.Point.{Point}
use Rattle.geom.specs.declared.Rect.{Rect}
use Rattle.geom.specs.Boxes.{rect_of, meets, holds_point, holds_rect}
use Rattle.geom.specs.Range.{in_range}
use Rattle.geom.proofs.Boxes.{Held, held, union_least}
use Rattle.rules.specs.declared.Ray.{Ray}
use Rattle.rules.specs.declared.Ray.TheVariants.{Right, Left, Up, Down}
use Rattle.rules.specs.Rays.{meets_ray}
use Rattle.rules.specs.Replies.{doubled}
use Rattle.rules.proofs.RayEdges.{box_missed}
use Rattle.boxes.specs.Boxes.{edge_box, box_of}
use Rattle.boxes.proofs.Leasts.{box_holds}
use Rattle.rings.specs.declared.crossings.Crossing.TheVariants.{Nothing}
use Rattle.rings.specs.Half.{near_doubled}
use Rattle.rings.proofs.Halving.{twice_is}
use Rattle.rays.specs.Along.{crossing_along}
use Rattle.rays.specs.Numbered.{InRoot}
use Rattle.rays.specs.Reach.{stretched, ray_rect, floor_point, ceiling_point, half_rect}
use Rattle.rays.proofs.EdgesAlong.{nothing_along}

-- a closed box has a point on a closed ray from the box of two points
abbrev meets_from : Ray → Rect → Point → Point → Bool
meets_from Right box low high = le_z low.x box.max.x && (le_z box.min.y high.y && le_z low.y box.max.y)
meets_from Left box low high = le_z box.min.x high.x && (le_z box.min.y high.y && le_z low.y box.max.y)
meets_from Up box low high = le_z low.y box.max.y && (le_z box.min.x high.x && le_z low.x box.max.x)
meets_from Down box low high = le_z box.min.y high.y && (le_z box.min.x high.x && le_z low.x box.max.x)

three : (a b c : Bool) → a && (b && c) ≡ true → (a ≡ true) × (b ≡ true) × (c ≡ true)
three a b c e = let h = and_true a (b && c) e in let g = and_true b c h.1 in (h.0, g.0, g.1)

-- within the root box such a box meets the rectangle
within : (ray : Ray) (root box : Rect) (low high : Point) → holds_rect root box ≡ true → meets_from ray box low high ≡ true → meets box (stretched ray root low high) ≡ true
within ray root box low high inside e = go ray e
  where
    both : Held root box.min × Held root box.max
    both = let h = and_true (holds_point root box.min) (holds_point root box.max) inside in (held root box.min h.0, held root box.max h.1)

    go : (ray : Ray) → meets_from ray box low high ≡ true → meets box (stretched ray root low high) ≡ true
    go Right f =
        let t = three (le_z low.x box.max.x) (le_z box.min.y high.y) (le_z low.y box.max.y) f in
        let reach = le_true box.min.x (max_z root.max.x high.x) (≤ℤ_trans _ root.max.x _ both.0.left_of (max_parts root.max.x high.x).0) in
        λ i. (reach i && t.0 i) && (t.1 i && t.2 i)
    go Left f =
        let t = three (le_z box.min.x high.x) (le_z box.min.y high.y) (le_z low.y box.max.y) f in
        let reach = le_true (min_z root.min.x low.x) box.max.x (≤ℤ_trans _ root.min.x _ (min_parts root.min.x low.x).0 both.1.right_of) in
        λ i. (t.0 i && reach i) && (t.1 i && t.2 i)
    go Up f =
        let t = three (le_z low.y box.max.y) (le_z box.min.x high.x) (le_z low.x box.max.x) f in
        let reach = le_true box.min.y (max_z root.max.y high.y) (≤ℤ_trans _ root.max.y _ both.0.below (max_parts root.max.y high.y).0) in
        λ i. (t.1 i && t.2 i) && (reach i && t.0 i)
    go Down f =
        let t = three (le_z box.min.y high.y) (le_z box.min.x high.x) (le_z low.x box.max.x) f in
        let reach = le_true (min_z root.min.y low.y) box.max.y (≤ℤ_trans _ root.min.y _ (min_parts root.min.y low.y).0 both.1.above) in
        λ i. (t.1 i && t.2 i) && (t.0 i && reach i)

-- a test that would give another that failed has failed
refuted : (a b : Bool) → (a ≡ true → b ≡ true) → b ≡ false → a ≡ false
refuted a b f e = not_both a (λ h. subst T (sym (f h) ∙ e) tt)

-- ---- the grid
pub pruned : (ray : Ray) (root : Rect) (a b p : Point) → holds_rect root (rect_of a b) ≡ true → meets (rect_of a b) (ray_rect ray root p) ≡ false → crossing_along ray a b p ≡ Nothing
pruned ray root a b p inside miss =
    let none = box_missed ray a b p (refuted (meets_ray ray (rect_of a b) p) (meets (rect_of a b) (ray_rect ray root p)) (λ h. within ray root (rect_of a b) p p inside (same ray h)) miss) in
    nothing_along ray a b p none.1 none.0
  where
    same : (ray : Ray) → meets_ray ray (rect_of a b) p ≡ true → meets_from ray (rect_of a b) p p ≡ true
    same Right h = h
    same Left h = h
    same Up h = h
    same Down h = h

-- ---- the half-grid: halves rounded outwards miss nothing
half_above : (x p : ℤ) → (pos 2 *ℤ x) ≤ℤ p → x ≤ℤ ceiling_half p
half_above x p h =
    let c = ceiling_half p in
    omega (zarith, subst (λ z. z ≤ℤ p) (sym (twice_is x)) h, ceiling_above p, add_parts x x, add_parts c c)

half_below : (x p : ℤ) → p ≤ℤ (pos 2 *ℤ x) → floor_half p ≤ℤ x
half_below x p h =
    let f = floor_half p in
    omega (zarith, subst (λ z. p ≤ℤ z) (sym (twice_is x)) h, floor_below p, add_parts x x, add_parts f f)

low_half : (x y p : ℤ) → le_z (min_z (pos 2 *ℤ x) (pos 2 *ℤ y)) p ≡ true → le_z (min_z x y) (ceiling_half p) ≡ true
low_half x y p e = le_true (min_z x y) (ceiling_half p) (go (min_one (pos 2 *ℤ x) (pos 2 *ℤ y)))
  where
    least : min_z (pos 2 *ℤ x) (pos 2 *ℤ y) ≤ℤ p
    least = true_le (min_z (pos 2 *ℤ x) (pos 2 *ℤ y)) p e

    go : (min_z (pos 2 *ℤ x) (pos 2 *ℤ y) ≡ pos 2 *ℤ x) ⊎ (min_z (pos 2 *ℤ x) (pos 2 *ℤ y) ≡ pos 2 *ℤ y) → min_z x y ≤ℤ ceiling_half p
    go (inl q) = ≤ℤ_trans _ x _ (min_parts x y).0 (half_above x p (subst (λ z. z ≤ℤ p) q least))
    go (inr q) = ≤ℤ_trans _ y _ (min_parts x y).1 (half_above y p (subst (λ z. z ≤ℤ p) q least))

high_half : (x y p : ℤ) → le_z p (max_z (pos 2 *ℤ x) (pos 2 *ℤ y)) ≡ true → le_z (floor_half p) (max_z x y) ≡ true
high_half x y p e = le_true (floor_half p) (max_z x y) (go (max_one (pos 2 *ℤ x) (pos 2 *ℤ y)))
  where
    most : p ≤ℤ max_z (pos 2 *ℤ x) (pos 2 *ℤ y)
    most = true_le p (max_z (pos 2 *ℤ x) (pos 2 *ℤ y)) e

    go : (max_z (pos 2 *ℤ x) (pos 2 *ℤ y) ≡ pos 2 *ℤ x) ⊎ (max_z (pos 2 *ℤ x) (pos 2 *ℤ y) ≡ pos 2 *ℤ y) → floor_half p ≤ℤ max_z x y
    go (inl q) = ≤ℤ_trans _ x _ (half_below x p (subst (λ z. p ≤ℤ z) q most)) (max_parts x y).0
    go (inr q) = ≤ℤ_trans _ y _ (half_below y p (subst (λ z. p ≤ℤ z) q most)) (max_parts x y).1

halved : (ray : Ray) (a b p : Point) → meets_ray ray (rect_of (doubled a) (doubled b)) p ≡ true → meets_from ray (rect_of a b) (floor_point p) (ceiling_point p) ≡ true
halved Right a b p e =
    let t = three (le_z p.x (rect_of (doubled a) (doubled b)).max.x) (le_z (rect_of (doubled a) (doubled b)).min.y p.y) (le_z p.y (rect_of (doubled a) (doubled b)).max.y) e in
    λ i. high_half a.x b.x p.x t.0 i && (low_half a.y b.y p.y t.1 i && high_half a.y b.y p.y t.2 i)
halved Left a b p e =
    let t = three (le_z (rect_of (doubled a) (doubled b)).min.x p.x) (le_z (rect_of (doubled a) (doubled b)).min.y p.y) (le_z p.y (rect_of (doubled a) (doubled b)).max.y) e in
    λ i. low_half a.x b.x p.x t.0 i && (low_half a.y b.y p.y t.1 i && high_half a.y b.y p.y t.2 i)
halved Up a b p e =
    let t = three (le_z p.y (rect_of (doubled a) (doubled b)).max.y) (le_z (rect_of (doubled a) (doubled b)).min.x p.x) (le_z p.x (rect_of (doubled a) (doubled b)).max.x) e in
    λ i. high_half a.y b.y p.y t.0 i && (low_half a.x b.x p.x t.1 i && high_half a.x b.x p.x t.2 i)
halved Down a b p e =
    let t = three (le_z (rect_of (doubled a) (doubled b)).min.y p.y) (le_z (rect_of (doubled a) (doubled b)).min.x p.x) (le_z p.x (rect_of (doubled a) (doubled b)).max.x) e in
    λ i. low_half a.y b.y p.y t.0 i && (low_half a.x b.x p.x t.1 i && high_half a.x b.x p.x t.2 i)

pub half_pruned : (ray : Ray) (root : Rect) (a b p : Point) → holds_rect root (rect_of a b) ≡ true → meets (rect_of a b) (half_rect ray root p) ≡ false → crossing_along ray (doubled a) (doubled b) p ≡ Nothing
half_pruned ray root a b p inside miss =
    let none = box_missed ray (doubled a) (doubled b) p (refuted (meets_ray ray (rect_of (doubled a) (doubled b)) p) (meets (rect_of a b) (half_rect ray root p)) (λ h. within ray root (rect_of a b) (floor_point p) (ceiling_point p) inside (halved ray a b p h)) miss) in
    nothing_along ray (doubled a) (doubled b) p none.1 none.0

-- ---- a box lies in the root box where both its corners do
pub corners_inside : (root : Rect) (a b : Point) → holds_point root a ≡ true → holds_point root b ≡ true → holds_rect root (rect_of a b) ≡ true
corners_inside root a b e f = union_least (record { min = a; max = a }) (record { min = b; max = b }) root (λ i. e i && e i) (λ i. f i && f i)

-- and the smallest box round all edges holds the box of each
pub in_root : (n : ℕ) (corners : List ℤ) (rings edges : List ℕ) → ((e : ℕ) → e < n → (k : ℕ) × (k < n) × (get_or edges k 0 ≡ e)) → InRoot n corners rings (box_of corners rings edges 0 n)
in_root n corners rings edges place e h =
    let q = place e h in
    subst (λ x. holds_rect (box_of corners rings edges 0 n) (edge_box corners rings x) ≡ true) q.2 (box_holds corners rings edges 0 n q.0 (omega arith) (omega (arith, q.1)))

-- a corner in range is doubled as the half-grid has it
pub near_doubled_lem : (corner : Point) → in_range corner ≡ true → near_doubled corner ≡ doubled corner
near_doubled_lem corner e = ap (λ t. cond t (doubled corner) corner) e
