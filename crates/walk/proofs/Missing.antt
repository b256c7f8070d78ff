-- What is looked for in a box is to be found in every box round it, so a node's box that is not entered spares all edges of the node's part.
-- Assumes nothing.
use mathlib.Core.Path.{◌≡◌, sym, ap, ◌∙◌}
use mathlib.Core.Bool.{true, false, ◌&&◌}
use mathlib.Core.List.{List}
use Prim.Native.Nat.{ℕ, ◌+◌, ◌≤◌, ◌<◌}
use lib.IntN.{ℤ}
use lib.ListN.{get_or}
use lib.Signed.{le_z}
use native.Mathlib.Omega.{arith}
use Rattle.integers.proofs.Order.{≤ℤ_trans}
use Rattle.integers.proofs.Tests.{and_true, not_both, le_true, true_le}
use Rattle.geom.specs.declared.Point.{Point}
use Rattle.geom.specs.declared.Rect.{Rect}
use Rattle.geom.specs.Boxes.{meets, holds_point, holds_rect}
use Rattle.geom.proofs.Boxes.{held, holds}
use Rattle.rules.specs.Nodes.{node_count}
use Rattle.rules.proofs.Indexed.{bit}
use Rattle.boxes.specs.Boxes.{box_of, rect_at, edge_box}
use Rattle.boxes.proofs.Leasts.{box_holds}
use Rattle.index.specs.Parts.{first_at, count_at}
use Rattle.index.specs.Sound.{IndexSound}
use Rattle.index.proofs.Soundness.{smallest_rect}
use Rattle.walk.specs.declared.Query.{Query}
use Rattle.walk.specs.declared.Query.TheVariants.{Meeting, Holding}
use Rattle.walk.specs.Steps.{enters}

-- what meets the inner box meets the outer one
pub held_meets : (r s q : Rect) → holds_rect r s ≡ true → meets s q ≡ true → meets r q ≡ true
held_meets r s q h m =
    let corners = and_true (holds_point r s.min) (holds_point r s.max) h in
    let low = and_true (le_z r.min.x s.min.x && le_z s.min.x r.max.x) (le_z r.min.y s.min.y && le_z s.min.y r.max.y) corners.0 in
    let high = and_true (le_z r.min.x s.max.x && le_z s.max.x r.max.x) (le_z r.min.y s.max.y && le_z s.max.y r.max.y) corners.1 in
    let low_x = (and_true (le_z r.min.x s.min.x) (le_z s.min.x r.max.x) low.0).0 in
    let low_y = (and_true (le_z r.min.y s.min.y) (le_z s.min.y r.max.y) low.1).0 in
    let high_x = (and_true (le_z r.min.x s.max.x) (le_z s.max.x r.max.x) high.0).1 in
    let high_y = (and_true (le_z r.min.y s.max.y) (le_z s.max.y r.max.y) high.1).1 in
    let both = and_true (le_z s.min.x q.max.x && le_z q.min.x s.max.x) (le_z s.min.y q.max.y && le_z q.min.y s.max.y) m in
    let in_x = and_true (le_z s.min.x q.max.x) (le_z q.min.x s.max.x) both.0 in
    let in_y = and_true (le_z s.min.y q.max.y) (le_z q.min.y s.max.y) both.1 in
    let a = reach r.min.x s.min.x q.max.x low_x in_x.0 in
    let b = reach q.min.x s.max.x r.max.x in_x.1 high_x in
    let c = reach r.min.y s.min.y q.max.y low_y in_y.0 in
    let d = reach q.min.y s.max.y r.max.y in_y.1 high_y in
    λ i. (a i && b i) && (c i && d i)
  where
    reach : (x y z : ℤ) → le_z x y ≡ true → le_z y z ≡ true → le_z x z ≡ true
    reach x y z e f = le_true x z (≤ℤ_trans x y z (true_le x y e) (true_le y z f))

-- what the inner box holds the outer one holds
held_point : (r s : Rect) (p : Point) → holds_rect r s ≡ true → holds_point s p ≡ true → holds_point r p ≡ true
held_point r s p h m =
    let corners = and_true (holds_point r s.min) (holds_point r s.max) h in
    let low = held r s.min corners.0 in
    let high = held r s.max corners.1 in
    let at = held s p m in
    holds r p (record {
      right_of = ≤ℤ_trans _ s.min.x _ low.right_of at.right_of;
      left_of = ≤ℤ_trans _ s.max.x _ at.left_of high.left_of;
      above = ≤ℤ_trans _ s.min.y _ low.above at.above;
      below = ≤ℤ_trans _ s.max.y _ at.below high.below;
    })

pub held_holds : (r s q : Rect) → holds_rect r s ≡ true → holds_rect s q ≡ true → holds_rect r q ≡ true
held_holds r s q h m =
    let corners = and_true (holds_point s q.min) (holds_point s q.max) m in
    let low = held_point r s q.min h corners.0 in
    let high = held_point r s q.max h corners.1 in
    λ i. low i && high i

-- so a box is entered where one that it holds is, whatever is looked for
pub held_enters : (query : Query) (r s : Rect) → holds_rect r s ≡ true → enters query s ≡ true → enters query r ≡ true
held_enters (Meeting q) r s h m = held_meets r s q h m
held_enters (Holding q) r s h m = held_holds r s q h m

pub held_missed : (query : Query) (r s : Rect) → holds_rect r s ≡ true → enters query r ≡ false → enters query s ≡ false
held_missed query r s h m = not_both (enters query s) (λ e. omega (arith, ap bit (sym (held_enters query r s h e) ∙ m)))

-- a node's box that is not entered: no more are the boxes of its edges
pub part_missed : (n : ℕ) (corners : List ℤ) (rings : List ℕ) (boxes : List (List ℤ)) (parts : List (List ℕ)) (edges : List ℕ) → IndexSound n corners rings boxes parts edges
    → (query : Query) (p : ℕ) → p < node_count n → enters query (rect_at boxes p) ≡ false → (k : ℕ) → first_at parts p ≤ k → k < first_at parts p + count_at parts p → enters query (edge_box corners rings (get_or edges k 0)) ≡ false
part_missed n corners rings boxes parts edges S query p l m k a b =
    held_missed query (box_of corners rings edges (first_at parts p) (count_at parts p)) (edge_box corners rings (get_or edges k 0)) (box_holds corners rings edges (first_at parts p) (count_at parts p) k a b)
    (ap (λ r. enters query r) (sym (smallest_rect corners rings edges parts boxes p (S.smallest p l))) ∙ m)
