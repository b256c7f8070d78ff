-- Boxes of parts of the edge list: how they grow and join, and that only the part's edges decide. Assumes nothing.
use mathlib.Core.Path.{◌≡◌, refl, sym, ap, ◌∙◌}
use mathlib.Core.List.{List}
use Prim.Native.Nat.{ℕ, zero, suc, ◌+◌, ◌≤◌, ◌<◌}
use native.Mathlib.Numerals.{add-one}
use native.Mathlib.Omega.{arith}
use lib.IntN.{ℤ}
use lib.ListN.{get_or}
use Rattle.geom.specs.Boxes.{union_of, empty_rect}
use Rattle.geom.proofs.Boxes.{union_assoc}
use Rattle.boxes.specs.Boxes.{edge_box, box_of}

pub box_none : (corners : List ℤ) (rings edges : List ℕ) (f : ℕ) → box_of corners rings edges f 0 ≡ empty_rect
unfolding box_of
box_none corners rings edges f = refl

pub box_one : (corners : List ℤ) (rings edges : List ℕ) (f : ℕ) → box_of corners rings edges f 1 ≡ edge_box corners rings (get_or edges f 0)
unfolding box_of
box_one corners rings edges f = refl

-- one more edge
pub box_more : (corners : List ℤ) (rings edges : List ℕ) (f k : ℕ) → 0 < k → box_of corners rings edges f (k + 1) ≡ union_of (box_of corners rings edges f k) (edge_box corners rings (get_or edges (f + k) 0))
unfolding box_of
box_more corners rings edges f zero h = absurd (omega arith)
box_more corners rings edges f (suc k) h = ap (box_of corners rings edges f) (add-one (suc k))

-- two parts that lie side by side, neither empty
pub box_join : (corners : List ℤ) (rings edges : List ℕ) (f a b : ℕ) → 0 < a → box_of corners rings edges f (a + suc b) ≡ union_of (box_of corners rings edges f a) (box_of corners rings edges (f + a) (suc b))
box_join corners rings edges f a zero h = box_more corners rings edges f a h ∙ ap (union_of (box_of corners rings edges f a)) (sym (box_one corners rings edges (f + a)))
box_join corners rings edges f a (suc b) h =
    let ih = box_join corners rings edges f a b h in
    let e : a + suc (suc b) ≡ a + suc b + 1 = omega arith in
    let g : f + (a + suc b) ≡ f + a + suc b = omega arith in
    let last = edge_box corners rings (get_or edges (f + a + suc b) 0) in
    ap (box_of corners rings edges f) e ∙ box_more corners rings edges f (a + suc b) (omega arith)
    ∙ (λ i. union_of (ih i) (edge_box corners rings (get_or edges (g i) 0)))
    ∙ union_assoc (box_of corners rings edges f a) (box_of corners rings edges (f + a) (suc b)) last
    ∙ ap (union_of (box_of corners rings edges f a)) (sym (box_more corners rings edges (f + a) (suc b) (omega arith)) ∙ ap (box_of corners rings edges (f + a)) (add-one (suc b)))

-- a part's box is as before if the part's edges have the boxes that they had
pub box_same : (corners corners' : List ℤ) (rings edges edges' : List ℕ) (f m : ℕ)
    → ((k : ℕ) → f ≤ k → k < f + m → edge_box corners' rings (get_or edges' k 0) ≡ edge_box corners rings (get_or edges k 0))
    → box_of corners' rings edges' f m ≡ box_of corners rings edges f m
unfolding box_of
box_same corners corners' rings edges edges' f zero h = refl
box_same corners corners' rings edges edges' f (suc zero) h = h f (omega arith) (omega arith)
box_same corners corners' rings edges edges' f (suc (suc m)) h =
    let ih = box_same corners corners' rings edges edges' f (suc m) (λ k a b. h k a (omega arith)) in
    let e = h (f + suc m) (omega arith) (omega arith) in
    λ i. union_of (ih i) (e i)
