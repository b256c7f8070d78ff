-- The one notion of reordering: a list reached by swaps of two places in a window. A cut reorders a node's part of the edge list by
-- it (document 01, item 5).
use Rattle.std.specs.Prelude.{List, ℕ, ◌≤◌, ◌<◌, length, get_or, set}

-- xs with its elements at places i and j exchanged
unfoldable pub swapped : ℕ → ℕ → List ℕ → List ℕ
swapped i j xs = set (set xs i (get_or xs j 0)) j (get_or xs i 0)

-- ys is reached from xs by swaps of two places in [lo, hi)
pub data Shuffled (lo hi : ℕ) (xs : List ℕ) : List ℕ → Type 0 where
  same : Shuffled lo hi xs xs
  more : {ys : List ℕ} (i j : ℕ) → lo ≤ i → i < hi → lo ≤ j → j < hi → hi ≤ length ys → Shuffled lo hi xs ys → Shuffled lo hi xs (swapped i j ys)
