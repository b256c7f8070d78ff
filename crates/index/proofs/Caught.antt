-- Wrong builders that the contract rules out, whatever their code is. Assumes nothing.
use mathlib.Core.Path.{◌≡◌, refl}
use mathlib.Core.List.{List, []}
use Prim.Native.Nat.{ℕ, ◌+◌, ◌/◌, ◌<◌}
use lib.IntN.{ℤ}
use lib.ListN.{get_or}
use Rattle.rules.specs.Nodes.{nodes_within, node_count}
use Rattle.boxes.specs.Boxes.{box_of, row_of}
use Rattle.index.specs.Parts.{first_at, count_at, child_at}
use Rattle.index.specs.Sound.{Smallest}
use Rattle.index.specs.Build.{Built}
use Rattle.index.proofs.Soundness.{root_child, node_places}

-- a leaf of nine edges: nine are cut
nine_cut : node_count 9 ≡ 3
unfolding nodes_within node_count
nine_cut = refl

-- a count of nodes that is not N(n), where parts of eight and of nine stand side by side
eight_and_nine : node_count 17 ≡ 5
unfolding nodes_within node_count
eight_and_nine = refl

module _ (n : ℕ) (corners : List ℤ) (rings : List ℕ) (boxes boxes' : List (List ℤ)) (parts parts' : List (List ℕ)) (edges edges' : List ℕ) (nodes reads : ℕ) (built : Built n corners rings boxes parts edges boxes' parts' edges' nodes reads) where
  -- so many nodes are told
  nodes_told : nodes ≡ node_count n
  nodes_told = built.counted

  module _ (p : ℕ) (node : p < node_count n) (large : 8 < count_at parts' p) where
    -- a left part that is one edge larger than it may be
    left_half : count_at parts' (child_at parts' p) ≡ count_at parts' p / 2
    left_half = (built.sound.halves p node large).left_count

    -- a left part that is cut first: the nodes below the right part come next
    right_cut_first : 8 < count_at parts' (child_at parts' p + 1) → child_at parts' (child_at parts' p + 1) ≡ child_at parts' p + 2
    right_cut_first = (node_places n corners rings boxes' parts' edges' built.sound p node large).right_place

  -- a right part that is placed first: the left part takes the next free place, and the root names it
  left_placed_first : 8 < count_at parts' 0 → child_at parts' 0 ≡ 1
  left_placed_first = root_child n corners rings boxes' parts' edges' built.sound

  -- a box without the last edge of its part
  all_edges_lem : (p : ℕ) → p < node_count n → get_or boxes' p [] ≡ row_of (box_of corners rings edges' (first_at parts' p) (count_at parts' p))
  unfolding Smallest
  all_edges_lem p node = built.sound.smallest p node
