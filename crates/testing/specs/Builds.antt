-- A build with its keys packed, and the cut of a part: what is asked of the tables, and what comes of them.
use Rattle.std.specs.Prelude.{◌≡◌, true, List, [], ◌∷◌, ℕ, ◌+◌, ◌/◌, ◌≤◌, ◌<◌, ℤ, length}
use Rattle.rules.specs.Plans.{corners_of, all_in_range}
use Rattle.cut.specs.declared.keys.Axis.TheVariants.{X}
use Rattle.cut.specs.Keys.{packed_edge, Mapped}
use Rattle.cut.specs.Selection.{Selected}
use Rattle.index.specs.Build.{Built}
use Rattle.walk.specs.Places.{IndexReach}
use Rattle.testing.specs.declared.builds.BuildNumbers.{BuildNumbers}

-- ---- a build over one ring

-- n corners in range, under the ceiling, and no table too short
pub record RingBuildable (n : ℕ) (corners : List ℤ) (boxes parts edges : ℕ) : Type 0 where
  pub few : n ≤ 1048576
  pub reach : n ≤ length corners / 2
  pub tables : IndexReach n boxes parts edges
  pub near : all_in_range (corners_of corners) ≡ true

-- the index is built, and the packed keys of cuts along x take the place of its edge numbers
pub record Packed (n : ℕ) (corners : List ℤ) (boxes : List (List ℤ)) (parts : List (List ℕ)) (edges : List ℕ) (boxes' : List (List ℤ)) (parts' : List (List ℕ)) (edges' : List ℕ) (r : BuildNumbers) : Type 0 where
  pub numbers : List ℕ
  pub built : Built n corners (n ∷ []) boxes parts edges boxes' parts' numbers r.nodes r.reads
  pub packed : Mapped (packed_edge corners (n ∷ []) X) 0 n numbers edges'

-- else nothing is written
pub record Unbuilt (boxes : List (List ℤ)) (parts : List (List ℕ)) (edges : List ℕ) (boxes' : List (List ℤ)) (parts' : List (List ℕ)) (edges' : List ℕ) (r : BuildNumbers) : Type 0 where
  pub boxes_are : boxes' ≡ boxes
  pub parts_are : parts' ≡ parts
  pub edges_are : edges' ≡ edges
  pub numbers : r ≡ record { nodes = 0; reads = 0 }

pub record BuildsPacked (n : ℕ) (corners : List ℤ) (boxes : List (List ℤ)) (parts : List (List ℕ)) (edges : List ℕ) (boxes' : List (List ℤ)) (parts' : List (List ℕ)) (edges' : List ℕ) (r : BuildNumbers) : Type 0 where
  pub accepted : RingBuildable n corners (length boxes) (length parts) (length edges) → Packed n corners boxes parts edges boxes' parts' edges' r
  pub refused : (RingBuildable n corners (length boxes) (length parts) (length edges) → ⊥) → Unbuilt boxes parts edges boxes' parts' edges' r

-- ---- the cut of a part

-- a part that is not empty, within a list and the ceiling
pub record PartOf (first size long : ℕ) : Type 0 where
  pub some : 0 < size
  pub few : first + size ≤ 1048576
  pub inside : first + size ≤ long

-- it is cut in its middle, with its reads counted; else nothing is written or read
pub record Selects (first size : ℕ) (xs ys : List ℕ) (reads : ℕ) : Type 0 where
  pub accepted : PartOf first size (length xs) → Selected first (first + size / 2) (first + size) xs ys reads
  pub refused : (PartOf first size (length xs) → ⊥) → (ys ≡ xs) × (reads ≡ 0)
