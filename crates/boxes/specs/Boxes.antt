-- Boxes of edges and of parts of the edge list (document 01, item 9 and "The correction book").
use Rattle.std.specs.Prelude.{◌≡◌, true, ◌⊎◌, List, [], ℕ, zero, suc, ◌+◌, ◌^◌, ◌≤◌, ◌<◌, ℤ, nat_abs, length, get_or}
use Rattle.geom.specs.declared.Point.{Point}
use Rattle.geom.specs.declared.Rect.{Rect}
use Rattle.geom.specs.Boxes.{rect_of, union_of, empty_rect, holds_point, rect_in}
pub use Rattle.geom.specs.Boxes.{row_of}
use Rattle.boxes.specs.Rings.{edge_of}

-- the smallest box round edge e
unfoldable pub edge_box : List ℤ → List ℕ → ℕ → Rect
edge_box corners rings e = rect_of (edge_of corners rings e).0 (edge_of corners rings e).1

-- the smallest box round the edges at the m places from f on of the edge list; item 1's with no edges
unfoldable pub box_of : List ℤ → List ℕ → List ℕ → ℕ → ℕ → Rect
box_of corners rings edges f zero = empty_rect
box_of corners rings edges f (suc zero) = edge_box corners rings (get_or edges f 0)
box_of corners rings edges f (suc (suc m)) = union_of (box_of corners rings edges f (suc m)) (edge_box corners rings (get_or edges (f + suc m) 0))

-- the box at place p of the box table
abbrev pub rect_at : List (List ℤ) → ℕ → Rect
rect_at boxes p = rect_in (get_or boxes p [])

-- the m places from f on stand in the edge list, and each names one of n edges
pub record Names (n : ℕ) (edges : List ℕ) (f m : ℕ) : Type 0 where
  pub inside : f + m ≤ length edges
  pub each : (k : ℕ) → f ≤ k → k < f + m → get_or edges k 0 < n

-- the ends of the box are coordinates in range
pub record NearRect (r : Rect) : Type 0 where
  pub min_x : nat_abs r.min.x ≤ 2 ^ 40
  pub min_y : nat_abs r.min.y ≤ 2 ^ 40
  pub max_x : nat_abs r.max.x ≤ 2 ^ 40
  pub max_y : nat_abs r.max.y ≤ 2 ^ 40

-- ---- what `box_of` says in plain words

-- z is a coordinate, read by h, of an end point of an edge at the m places from f on
abbrev pub Reached : (Point → ℤ) → List ℤ → List ℕ → List ℕ → ℕ → ℕ → ℤ → Type 0
Reached h corners rings edges f m z =
    (k : ℕ) × (f ≤ k) × (k < f + m) × ((h (edge_of corners rings (get_or edges k 0)).0 ≡ z) ⊎ (h (edge_of corners rings (get_or edges k 0)).1 ≡ z))

-- the box holds the end points of the edges at the m places from f on, and each of its ends is that of one of them
pub record SmallestRound (corners : List ℤ) (rings edges : List ℕ) (f m : ℕ) (r : Rect) : Type 0 where
  pub starts : (k : ℕ) → f ≤ k → k < f + m → holds_point r (edge_of corners rings (get_or edges k 0)).0 ≡ true
  pub stops : (k : ℕ) → f ≤ k → k < f + m → holds_point r (edge_of corners rings (get_or edges k 0)).1 ≡ true
  pub min_x : Reached (λ p. p.x) corners rings edges f m r.min.x
  pub min_y : Reached (λ p. p.y) corners rings edges f m r.min.y
  pub max_x : Reached (λ p. p.x) corners rings edges f m r.max.x
  pub max_y : Reached (λ p. p.y) corners rings edges f m r.max.y
