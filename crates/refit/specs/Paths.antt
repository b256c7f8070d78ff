-- The path from the root to a place of the edge list, and what a refit along it reads (document 01, item 9 and refusal 15).
use Rattle.std.specs.Prelude.{◌≡◌, Bool, true, false, List, ℕ, ◌+◌, ◌-◌, ◌/◌, ◌≤◌, ◌<◌, ℤ, length, get_or, Option, Some, None, Result, Ok, Err}
use Rattle.rules.specs.declared.Refusal as Refusal
use Rattle.rules.specs.declared.Unsound.{Unsound}
use Rattle.rules.specs.Nodes.{node_count}
use Rattle.rules.specs.Numbers.{refusal_number}
use Rattle.boxes.specs.Boxes.{Names}
use Rattle.boxes.specs.Rings.{next_corner, RingEnds}
use Rattle.index.specs.Build.{KeptFrom}
use Rattle.index.specs.Parts.{first_at, count_at, child_at}
use Rattle.index.specs.Sound.{IndexSound}

-- 0 for a path, or the refusal
abbrev pub way_number : Result ℕ Unsound → ℕ
way_number (Ok depth) = 0
way_number (Err _) = refusal_number Refusal.TheVariants.Unsound

-- a flag says whether something holds
abbrev pub Whether : Type 0 → Bool → Type 0
Whether A true = A
Whether A false = A → ⊥

-- place k of the edge list lies in node p's part
pub record Holds (parts : List (List ℕ)) (p k : ℕ) : Type 0 where
  pub from : first_at parts p ≤ k
  pub to : k < first_at parts p + count_at parts p

-- ---- one node

-- what a step from node p towards place k reads is inside its table
pub record Open (parts : List (List ℕ)) (n nodes k p : ℕ) : Type 0 where
  pub node : p < nodes
  pub from : first_at parts p ≤ k
  pub fits : first_at parts p + count_at parts p ≤ n
  pub children : 8 < count_at parts p → child_at parts p + 1 < nodes

-- node p is a leaf
pub record LeafAt (parts : List (List ℕ)) (n nodes p : ℕ) : Type 0 where
  pub node : p < nodes
  pub small : count_at parts p ≤ 8
  pub fits : first_at parts p + count_at parts p ≤ n

-- node p is cut, and place k lies on the side of its child c
pub record Below (parts : List (List ℕ)) (nodes k p c : ℕ) : Type 0 where
  pub node : p < nodes
  pub big : 8 < count_at parts p
  pub children : child_at parts p + 1 < nodes
  pub left : k < first_at parts p + count_at parts p / 2 → c ≡ child_at parts p
  pub right : first_at parts p + count_at parts p / 2 ≤ k → c ≡ child_at parts p + 1

abbrev pub StepSays : List (List ℕ) → ℕ → ℕ → ℕ → ℕ → Result (Option ℕ) Unsound → Type 0
StepSays parts n nodes k p (Ok None) = LeafAt parts n nodes p
StepSays parts n nodes k p (Ok (Some c)) = Below parts nodes k p c
StepSays parts n nodes k p (Err _) = Open parts n nodes k p → ⊥

-- the m places from f on stand in the edge list, and their edges start and end at corners below n
pub record Spans (n : ℕ) (edges stops : List ℕ) (f m : ℕ) : Type 0 where
  pub edges_reach : f + m ≤ length edges
  pub stops_reach : m ≤ length stops
  pub start : (j : ℕ) → j < m → get_or edges (f + j) 0 < n
  pub stop : (j : ℕ) → j < m → get_or stops j 0 < n

-- ---- a path

-- the first `depth` nodes of a path lead from the root down towards place k; the ceiling of 1,048,576 corners leaves at most
-- 18
pub record Leads (parts : List (List ℕ)) (nodes k : ℕ) (path : List ℕ) (depth : ℕ) : Type 0 where
  pub some : 0 < depth
  pub few : depth ≤ 18
  pub root : get_or path 0 0 ≡ 0
  pub down : (j : ℕ) → j + 1 < depth → Below parts nodes k (get_or path j 0) (get_or path (j + 1) 0)

-- and end at a leaf
pub record PathTo (n : ℕ) (parts : List (List ℕ)) (nodes k : ℕ) (path : List ℕ) (depth : ℕ) : Type 0 where
  pub leads : Leads parts nodes k path depth
  pub leaf : LeafAt parts n nodes (get_or path (depth - 1) 0)

-- soundness as far as a refit rests on it: rings and index of a plan under the ceiling of 1,048,576 corners
pub record RefitSound (n count : ℕ) (corners : List ℤ) (rings : List ℕ) (boxes : List (List ℤ)) (parts : List (List ℕ)) (edges : List ℕ) : Type 0 where
  pub few : n ≤ 1048576
  pub ends : RingEnds n count rings
  pub index : IndexSound n corners rings boxes parts edges

abbrev pub PathSays : ℕ → List (List ℕ) → ℕ → ℕ → List ℕ → Result ℕ Unsound → Type 0
PathSays n parts nodes k path (Ok depth) = PathTo n parts nodes k path depth
PathSays n parts nodes k path (Err _) = (count : ℕ) (corners : List ℤ) (rings : List ℕ) (boxes : List (List ℤ)) (edges : List ℕ) → RefitSound n count corners rings boxes parts edges → ⊥

-- ---- the corners at which a leaf's edges end

-- of the edges at the m places from f on, one after another
pub record Stops (n count : ℕ) (rings edges : List ℕ) (f m : ℕ) (stops : List ℕ) : Type 0 where
  pub edge : (j : ℕ) → j < m → get_or edges (f + j) 0 < n
  pub inside : (j : ℕ) → j < m → get_or stops j 0 < n
  pub named : RingEnds n count rings → (j : ℕ) → j < m → get_or stops j 0 ≡ next_corner rings (get_or edges (f + j) 0)

abbrev pub StopsSay : ℕ → ℕ → List ℕ → List ℕ → ℕ → ℕ → List ℕ → Result Unit Unsound → Type 0
StopsSay n count rings edges f m stops (Ok _) = Stops n count rings edges f m stops
StopsSay n count rings edges f m stops (Err _) = RingEnds n count rings → Names n edges f m → ⊥

-- ---- the way to a place

-- the path and the corners have room, no table is shorter than the state says, the last ring ends at the last corner, and the edge
-- list has a place k
pub record Lent (n count k path stops : ℕ) (rings : List ℕ) (parts edges : ℕ) : Type 0 where
  pub path_reach : 18 ≤ path
  pub stops_reach : 8 ≤ stops
  pub some : 0 < count
  pub rings_reach : count ≤ length rings
  pub last_end : get_or rings (count - 1) 0 ≡ n
  pub parts_reach : node_count n ≤ parts
  pub edges_reach : n ≤ edges
  pub place : k < n

-- all that a refit along a path of so many nodes reads is inside its table
pub record Fine (n : ℕ) (parts : List (List ℕ)) (edges path stops : List ℕ) (depth : ℕ) : Type 0 where
  pub some : 0 < depth
  pub path_reach : depth ≤ length path
  pub parts_reach : node_count n ≤ length parts
  pub nodes : (j : ℕ) → j < depth → get_or path j 0 < node_count n
  pub children : (j : ℕ) → j + 1 < depth → child_at parts (get_or path j 0) + 1 < node_count n
  pub spans : Spans n edges stops (first_at parts (get_or path (depth - 1) 0)) (count_at parts (get_or path (depth - 1) 0))

-- the way to place k: its path, and where the edges of its leaf end. Whatever is too short for the state has no way
pub record Found (n count : ℕ) (rings : List ℕ) (parts : List (List ℕ)) (edges : List ℕ) (k : ℕ) (path stops : List ℕ) (depth : ℕ) : Type 0 where
  pub number : way_number (Ok depth) ≡ 0
  pub place : k < n
  pub lent : Lent n count k (length path) (length stops) rings (length parts) (length edges)
  pub fine : Fine n parts edges path stops depth
  pub path_to : PathTo n parts (node_count n) k path depth
  pub stops_are : Stops n count rings edges (first_at parts (get_or path (depth - 1) 0)) (count_at parts (get_or path (depth - 1) 0)) stops

-- the way found, in what was lent as working space: of the path only the first 18 numbers may have changed, and of the stops the first 8
pub record WayFound (n count : ℕ) (rings : List ℕ) (parts : List (List ℕ)) (edges : List ℕ) (k : ℕ) (path stops path' stops' : List ℕ) (depth : ℕ) : Type 0 where
  pub found : Found n count rings parts edges k path' stops' depth
  pub path_space : KeptFrom 18 path path'
  pub stops_space : KeptFrom 8 stops stops'

-- 15: never on sound tables that have a place k, with room. Path and stops are working space, of which only the first 18 and the first 8
-- numbers may have changed, and none where a table or one of the two is too short
pub record WayRefused (n count : ℕ) (rings : List ℕ) (parts : List (List ℕ)) (edges : List ℕ) (k : ℕ) (path stops path' stops' : List ℕ) : Type 0 where
  pub number : way_number (Err (record {})) ≡ 15
  pub never : 18 ≤ length path → 8 ≤ length stops → k < n → (corners : List ℤ) (boxes : List (List ℤ)) → RefitSound n count corners rings boxes parts edges → ⊥
  pub path_space : KeptFrom 18 path path'
  pub stops_space : KeptFrom 8 stops stops'
  pub unlent : (Lent n count k (length path) (length stops) rings (length parts) (length edges) → ⊥) → (path' ≡ path) × (stops' ≡ stops)

abbrev pub WaySays : ℕ → ℕ → List ℕ → List (List ℕ) → List ℕ → ℕ → List ℕ → List ℕ → List ℕ → List ℕ → Result ℕ Unsound → Type 0
WaySays n count rings parts edges k path stops path' stops' (Ok depth) = WayFound n count rings parts edges k path stops path' stops' depth
WaySays n count rings parts edges k path stops path' stops' (Err _) = WayRefused n count rings parts edges k path stops path' stops'
