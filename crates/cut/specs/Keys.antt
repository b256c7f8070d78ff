-- The cut of a node's part of the edge list (document 01, item 5).
use Rattle.std.specs.Prelude.{◌≡◌, cond, List, ℕ, ◌+◌, ◌*◌, ◌/◌, ◌%◌, ◌^◌, ◌≤◌, ◌<◌, ℤ, pos, nat_abs, ◌+ℤ◌, ◌-ℤ◌, length, get_or, ◌≤ℤ◌}
use Rattle.std.specs.Int.Signed.{le_z}
use Rattle.geom.specs.declared.Rect.{Rect}
use Rattle.boxes.specs.Boxes.{edge_box}
use Rattle.cut.specs.declared.keys.Axis.{Axis}
use Rattle.cut.specs.declared.keys.Axis.TheVariants.{X, Y}
use Rattle.cut.specs.Shuffle.{Shuffled}
use Rattle.cut.specs.Selection.{Selected}

-- x if the node's box is at least as wide as high, else y
abbrev pub axis_of : Rect → Axis
axis_of b = cond (le_z (b.max.y -ℤ b.min.y) (b.max.x -ℤ b.min.x)) X Y

-- least plus greatest of a box on an axis
abbrev pub key_of : Axis → Rect → ℤ
key_of X b = b.min.x +ℤ b.max.x
key_of Y b = b.min.y +ℤ b.max.y

-- the cutting key of edge e
unfoldable pub edge_key : List ℤ → List ℕ → Axis → ℕ → ℤ
edge_key corners rings axis e = key_of axis (edge_box corners rings e)

-- item 5, of the m places from f on: floor(m / 2) of them are on the left, and no key on the left exceeds one on the right
abbrev pub CutRule : List ℤ → List ℕ → Axis → ℕ → ℕ → List ℕ → Type 0
CutRule corners rings axis f m edges =
    (j k : ℕ) → f ≤ j → j < f + m / 2 → f + m / 2 ≤ k → k < f + m → edge_key corners rings axis (get_or edges j 0) ≤ℤ edge_key corners rings axis (get_or edges k 0)

-- ---- packed numbers

-- a key, moved above zero, and an edge number of 20 bits below it
unfoldable pub packed_of : ℤ → ℕ → ℕ
packed_of key e = nat_abs (key +ℤ pos (2 ^ 41)) * 2 ^ 20 + e

abbrev pub number_of : ℕ → ℕ
number_of x = x % 2 ^ 20

abbrev pub packed_edge : List ℤ → List ℕ → Axis → ℕ → ℕ
packed_edge corners rings axis e = packed_of (edge_key corners rings axis e) e

-- ys is xs with g of what stood there at each place of [lo, hi)
pub record Mapped (g : ℕ → ℕ) (lo hi : ℕ) (xs ys : List ℕ) : Type 0 where
  pub long : length ys ≡ length xs
  pub inside : (k : ℕ) → lo ≤ k → k < hi → get_or ys k 0 ≡ g (get_or xs k 0)
  pub before : (k : ℕ) → k < lo → get_or ys k 0 ≡ get_or xs k 0
  pub after : (k : ℕ) → hi ≤ k → get_or ys k 0 ≡ get_or xs k 0

-- ---- the cut

-- what is read when the part is cut: its packed numbers, by the selection that cuts them
pub record CutReads (corners : List ℤ) (rings : List ℕ) (axis : Axis) (f m : ℕ) (xs : List ℕ) (reads : ℕ) : Type 0 where
  pub packed : List ℕ
  pub selected : List ℕ
  pub packs : Mapped (packed_edge corners rings axis) f (f + m) xs packed
  pub selects : Selected f (f + m / 2) (f + m) packed selected reads

-- the part is cut: a reordering of what it was, by the cut rule, with at most 65 reads an edge
pub record CutPart (corners : List ℤ) (rings : List ℕ) (axis : Axis) (f m : ℕ) (xs ys : List ℕ) (reads : ℕ) : Type 0 where
  pub moved : Shuffled f (f + m) xs ys
  pub rule : CutRule corners rings axis f m ys
  pub counted : CutReads corners rings axis f m xs reads
  pub few : reads ≤ 65 * m
