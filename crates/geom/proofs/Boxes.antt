-- Closed boxes are what their names say: two that meet share a point and the other way round, the union is the smallest box that
-- holds both, and the empty box holds nothing, adds nothing and meets no box in range. Assumes nothing.
use mathlib.Core.Path.{◌≡◌, ap}
use mathlib.Core.Bool.{true, false, ◌&&◌}
use Prim.Native.Nat.{◌^◌}
use lib.IntN.{ℤ, pos, neg_ℤ}
use lib.Signed.{le_z, ◌≤ℤ◌, ◌<ℤ◌}
use mir.Syntax.{w64}
use mir.Val.{SFits}
use Rattle.integers.proofs.Order.{zarith, ≤ℤ_refl, ≤ℤ_trans, ≤ℤ_antisym, mag_parts}
use Rattle.integers.proofs.Signs.{min_parts, max_parts, min_least, max_greatest, min_right, max_right, min_assoc, max_assoc}
use Rattle.integers.proofs.Tests.{and_true, le_true, le_false, true_le, not_both}
use Rattle.geom.specs.declared.Point.{Point}
use Rattle.geom.specs.declared.Rect.{Rect}
use Rattle.geom.specs.Boxes.{lesser_of, greater_of, rect_of, empty_rect, union_of, meets, holds_point, holds_rect}

-- a point in a closed box, as four orders
pub record Held (r : Rect) (p : Point) : Type 0 where
  pub right_of : r.min.x ≤ℤ p.x
  pub left_of : p.x ≤ℤ r.max.x
  pub above : r.min.y ≤ℤ p.y
  pub below : p.y ≤ℤ r.max.y

pub held : (r : Rect) (p : Point) → holds_point r p ≡ true → Held r p
held r p e =
    let h = and_true (le_z r.min.x p.x && le_z p.x r.max.x) (le_z r.min.y p.y && le_z p.y r.max.y) e in
    let hx = and_true (le_z r.min.x p.x) (le_z p.x r.max.x) h.0 in
    let hy = and_true (le_z r.min.y p.y) (le_z p.y r.max.y) h.1 in
    record { right_of = true_le r.min.x p.x hx.0; left_of = true_le p.x r.max.x hx.1; above = true_le r.min.y p.y hy.0; below = true_le p.y r.max.y hy.1 }

pub holds : (r : Rect) (p : Point) → Held r p → holds_point r p ≡ true
holds r p h =
    λ i. (le_true r.min.x p.x h.right_of i && le_true p.x r.max.x h.left_of i) && (le_true r.min.y p.y h.above i && le_true p.y r.max.y h.below i)

-- ---- two boxes that hold one point meet
pub shared_meets : (r s : Rect) (p : Point) → holds_point r p ≡ true → holds_point s p ≡ true → meets r s ≡ true
shared_meets r s p e f =
    let h = held r p e in
    let g = held s p f in
    λ i. (le_true r.min.x s.max.x (≤ℤ_trans _ p.x _ h.right_of g.left_of) i && le_true s.min.x r.max.x (≤ℤ_trans _ p.x _ g.right_of h.left_of) i)
    && (le_true r.min.y s.max.y (≤ℤ_trans _ p.y _ h.above g.below) i && le_true s.min.y r.max.y (≤ℤ_trans _ p.y _ g.above h.below) i)

-- ---- and two boxes that meet, neither of them empty, hold one point
pub record Proper (r : Rect) : Type 0 where
  pub wide : r.min.x ≤ℤ r.max.x
  pub high : r.min.y ≤ℤ r.max.y

pub meets_shared : (r s : Rect) → Proper r → Proper s → meets r s ≡ true → (holds_point r (greater_of r.min s.min) ≡ true) × (holds_point s (greater_of r.min s.min) ≡ true)
meets_shared r s pr ps e =
    let h = and_true (le_z r.min.x s.max.x && le_z s.min.x r.max.x) (le_z r.min.y s.max.y && le_z s.min.y r.max.y) e in
    let hx = and_true (le_z r.min.x s.max.x) (le_z s.min.x r.max.x) h.0 in
    let hy = and_true (le_z r.min.y s.max.y) (le_z s.min.y r.max.y) h.1 in
    let p = greater_of r.min s.min in
    let mx = max_parts r.min.x s.min.x in
    let my = max_parts r.min.y s.min.y in (
      holds r p (record { right_of = mx.0; left_of = max_greatest r.min.x s.min.x r.max.x pr.wide (true_le s.min.x r.max.x hx.1); above = my.0; below = max_greatest r.min.y s.min.y r.max.y pr.high (true_le s.min.y r.max.y hy.1) }),
      holds s p (record { right_of = mx.1; left_of = max_greatest r.min.x s.min.x s.max.x (true_le r.min.x s.max.x hx.0) ps.wide; above = my.1; below = max_greatest r.min.y s.min.y s.max.y (true_le r.min.y s.max.y hy.0) ps.high }),
    )

-- ---- the union holds what either holds, and lies in every box that holds both
pub union_left : (r s : Rect) (p : Point) → holds_point r p ≡ true → holds_point (union_of r s) p ≡ true
union_left r s p e = let h = held r p e in
    holds (union_of r s) p (record {
      right_of = ≤ℤ_trans _ r.min.x _ (min_parts r.min.x s.min.x).0 h.right_of;
      left_of = ≤ℤ_trans _ r.max.x _ h.left_of (max_parts r.max.x s.max.x).0;
      above = ≤ℤ_trans _ r.min.y _ (min_parts r.min.y s.min.y).0 h.above;
      below = ≤ℤ_trans _ r.max.y _ h.below (max_parts r.max.y s.max.y).0;
    })

pub union_right : (r s : Rect) (p : Point) → holds_point s p ≡ true → holds_point (union_of r s) p ≡ true
union_right r s p e = let h = held s p e in
    holds (union_of r s) p (record {
      right_of = ≤ℤ_trans _ s.min.x _ (min_parts r.min.x s.min.x).1 h.right_of;
      left_of = ≤ℤ_trans _ s.max.x _ h.left_of (max_parts r.max.x s.max.x).1;
      above = ≤ℤ_trans _ s.min.y _ (min_parts r.min.y s.min.y).1 h.above;
      below = ≤ℤ_trans _ s.max.y _ h.below (max_parts r.max.y s.max.y).1;
    })

pub union_least : (r s t : Rect) → holds_rect t r ≡ true → holds_rect t s ≡ true → holds_rect t (union_of r s) ≡ true
union_least r s t e f =
    let h = and_true (holds_point t r.min) (holds_point t r.max) e in
    let g = and_true (holds_point t s.min) (holds_point t s.max) f in
    let a = held t r.min h.0 in
    let b = held t r.max h.1 in
    let c = held t s.min g.0 in
    let d = held t s.max g.1 in
    let low = holds t (lesser_of r.min s.min) (record {
      right_of = min_least _ _ _ a.right_of c.right_of;
      left_of = ≤ℤ_trans _ r.min.x _ (min_parts r.min.x s.min.x).0 a.left_of;
      above = min_least _ _ _ a.above c.above;
      below = ≤ℤ_trans _ r.min.y _ (min_parts r.min.y s.min.y).0 a.below;
    }) in
    let high = holds t (greater_of r.max s.max) (record {
      right_of = ≤ℤ_trans _ r.max.x _ b.right_of (max_parts r.max.x s.max.x).0;
      left_of = max_greatest _ _ _ b.left_of d.left_of;
      above = ≤ℤ_trans _ r.max.y _ b.above (max_parts r.max.y s.max.y).0;
      below = max_greatest _ _ _ b.below d.below;
    }) in
    λ i. low i && high i

-- each of two boxes holds the other: they are one
pub holds_both : (r s : Rect) → holds_rect r s ≡ true → holds_rect s r ≡ true → r ≡ s
holds_both r s e f =
    let h = and_true (holds_point r s.min) (holds_point r s.max) e in
    let g = and_true (holds_point s r.min) (holds_point s r.max) f in
    let a = held r s.min h.0 in
    let b = held r s.max h.1 in
    let c = held s r.min g.0 in
    let d = held s r.max g.1 in
    λ i. record {
      min = record { x = ≤ℤ_antisym r.min.x s.min.x a.right_of c.right_of i; y = ≤ℤ_antisym r.min.y s.min.y a.above c.above i };
      max = record { x = ≤ℤ_antisym r.max.x s.max.x d.left_of b.left_of i; y = ≤ℤ_antisym r.max.y s.max.y d.below b.below i };
    }

-- of three boxes the order of joining does not matter
pub union_assoc : (r s t : Rect) → union_of (union_of r s) t ≡ union_of r (union_of s t)
union_assoc r s t =
    λ i. record {
      min = record { x = min_assoc r.min.x s.min.x t.min.x i; y = min_assoc r.min.y s.min.y t.min.y i };
      max = record { x = max_assoc r.max.x s.max.x t.max.x i; y = max_assoc r.max.y s.max.y t.max.y i };
    }

-- ---- the box of two corners
pub rect_holds_first : (a b : Point) → holds_point (rect_of a b) a ≡ true
rect_holds_first a b = holds (rect_of a b) a (record { right_of = (min_parts a.x b.x).0; left_of = (max_parts a.x b.x).0; above = (min_parts a.y b.y).0; below = (max_parts a.y b.y).0 })

pub rect_holds_second : (a b : Point) → holds_point (rect_of a b) b ≡ true
rect_holds_second a b = holds (rect_of a b) b (record { right_of = (min_parts a.x b.x).1; left_of = (max_parts a.x b.x).1; above = (min_parts a.y b.y).1; below = (max_parts a.y b.y).1 })

pub rect_proper : (a b : Point) → Proper (rect_of a b)
rect_proper a b =
    record {
      wide = ≤ℤ_trans _ a.x _ (min_parts a.x b.x).0 (max_parts a.x b.x).0;
      high = ≤ℤ_trans _ a.y _ (min_parts a.y b.y).0 (max_parts a.y b.y).0;
    }

-- a box whose ends are in order holds itself
pub holds_itself : (r : Rect) → Proper r → holds_rect r r ≡ true
holds_itself r p =
    λ i. holds r r.min (record { right_of = ≤ℤ_refl r.min.x; left_of = p.wide; above = ≤ℤ_refl r.min.y; below = p.high }) i
    && holds r r.max (record { right_of = p.wide; left_of = ≤ℤ_refl r.max.x; above = p.high; below = ≤ℤ_refl r.max.y }) i

-- ---- the empty box
pub empty_holds : (p : Point) → holds_point empty_rect p ≡ false
empty_holds p = not_both (holds_point empty_rect p) (λ e. let h = held empty_rect p e in omega (zarith, h.right_of, h.left_of))

-- only a box that reaches the greatest of 64 bits could meet it
pub empty_meets : (r : Rect) → r.max.x <ℤ pos 9223372036854775807 → meets empty_rect r ≡ false
empty_meets r h = ap (λ b. (b && le_z r.min.x empty_rect.max.x) && (le_z empty_rect.min.y r.max.y && le_z r.min.y empty_rect.max.y)) (le_false empty_rect.min.x r.max.x h)

fits_below : (z : ℤ) → SFits w64 z → z ≤ℤ pos 9223372036854775807
fits_below z f = omega (zarith, f.sfits, mag_parts z)

fits_above : (z : ℤ) → SFits w64 z → neg_ℤ (pos (2 ^ 63)) ≤ℤ z
fits_above z f = omega (zarith, f.sfits, mag_parts z)

pub empty_union : (r : Rect) → SFits w64 r.min.x → SFits w64 r.min.y → SFits w64 r.max.x → SFits w64 r.max.y → union_of empty_rect r ≡ r
empty_union r ax ay bx by =
    λ i. record {
      min = record { x = min_right _ r.min.x (fits_below r.min.x ax) i; y = min_right _ r.min.y (fits_below r.min.y ay) i };
      max = record { x = max_right _ r.max.x (fits_above r.max.x bx) i; y = max_right _ r.max.y (fits_above r.max.y by) i };
    }
