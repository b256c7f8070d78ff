-- A walk through the hierarchy of boxes, step by step (document 01, items 5 and 9, refusal 15).
use Rattle.std.specs.Prelude.{◌≡◌, Bool, true, false, List, ℕ, zero, suc, ◌+◌, ◌-◌, ◌*◌, ◌^◌, ◌≤◌, ◌<◌, ℤ, length, get_or, Option, Some, None, Result, Ok, Err}
use Rattle.geom.specs.declared.Rect.{Rect}
use Rattle.geom.specs.Boxes.{meets, holds_rect}
use Rattle.rules.specs.declared.Refusal as Refusal
use Rattle.rules.specs.declared.Unsound.{Unsound}
use Rattle.rules.specs.Nodes.{node_count}
use Rattle.rules.specs.Numbers.{refusal_number}
use Rattle.boxes.specs.Boxes.{rect_at, edge_box}
use Rattle.index.specs.Build.{KeptFrom}
use Rattle.index.specs.Parts.{first_at, count_at, child_at}
use Rattle.index.specs.Sound.{IndexSound}
use Rattle.walk.specs.declared.Cursor.{Cursor}
use Rattle.walk.specs.declared.LentPlan.{LentPlan}
use Rattle.walk.specs.declared.Query.{Query}
use Rattle.walk.specs.declared.Query.TheVariants.{Meeting, Holding}
use Rattle.walk.specs.declared.Node.{Node}
use Rattle.walk.specs.declared.Node.TheVariants.{Missed, Leaf, Cut}
use Rattle.walk.specs.declared.Step.{Step}

-- 0 for an edge or the end, or the refusal
abbrev pub step_number : Result (Option Step) Unsound → ℕ
step_number (Ok (Some step)) = 0
step_number (Ok None) = 0
step_number (Err _) = refusal_number Refusal.TheVariants.Unsound

-- and the same up to a leaf
abbrev pub stop_number : Result (Option Cursor) Unsound → ℕ
stop_number (Ok (Some here)) = 0
stop_number (Ok None) = 0
stop_number (Err _) = refusal_number Refusal.TheVariants.Unsound

-- what is looked for lies in a box: the box is entered. Boxes are closed, so one that meets the rectangle in its rim alone is entered too
abbrev pub enters : Query → Rect → Bool
enters (Meeting rect) box = meets box rect
enters (Holding rect) box = holds_rect box rect

-- a flag says whether something holds
abbrev pub Whether : Type 0 → Bool → Type 0
Whether A true = A
Whether A false = A → ⊥

-- ---- on any tables

-- stack and tables are as long as the state says, and the cursor's numbers within them
pub record Lent (n stack boxes parts edges : ℕ) (cursor : Cursor) : Type 0 where
  pub stack_reach : 18 ≤ stack
  pub boxes_reach : cursor.nodes ≤ boxes
  pub parts_reach : cursor.nodes ≤ parts
  pub edges_reach : n ≤ edges
  pub few_waiting : cursor.waiting ≤ 18
  pub inside : cursor.to ≤ n

-- and a node waits while no leaf is in hand
pub record Waiting (stack boxes parts : ℕ) (cursor : Cursor) : Type 0 where
  pub stack_reach : 18 ≤ stack
  pub boxes_reach : cursor.nodes ≤ boxes
  pub parts_reach : cursor.nodes ≤ parts
  pub few_waiting : cursor.waiting ≤ 18
  pub some : 0 < cursor.waiting
  pub passed : cursor.to ≤ cursor.at

-- a node's own number, its part and its children are inside their tables
abbrev pub Inside : List (List ℕ) → ℕ → ℕ → ℕ → Type 0
Inside parts n nodes p = (p < nodes) × (first_at parts p + count_at parts p ≤ n) × (8 < count_at parts p → child_at parts p + 1 < nodes)

-- its box is not entered, and its part ends at t
pub record MissedTo (boxes : List (List ℤ)) (parts : List (List ℕ)) (n nodes : ℕ) (query : Query) (p t : ℕ) : Type 0 where
  pub node : p < nodes
  pub to : t ≡ first_at parts p + count_at parts p
  pub fits : t ≤ n
  pub misses : enters query (rect_at boxes p) ≡ false

-- its box is entered and it is a leaf, with the places from f to t
pub record LeafFrom (boxes : List (List ℤ)) (parts : List (List ℕ)) (n nodes : ℕ) (query : Query) (p f t : ℕ) : Type 0 where
  pub node : p < nodes
  pub entered : enters query (rect_at boxes p) ≡ true
  pub from : f ≡ first_at parts p
  pub to : t ≡ first_at parts p + count_at parts p
  pub fits : t ≤ n
  pub small : count_at parts p ≤ 8

-- its box is entered and it is cut: its part starts at f, and its left child stands at l
pub record CutInto (boxes : List (List ℤ)) (parts : List (List ℕ)) (n nodes : ℕ) (query : Query) (p f l : ℕ) : Type 0 where
  pub node : p < nodes
  pub entered : enters query (rect_at boxes p) ≡ true
  pub from : f ≡ first_at parts p
  pub left : l ≡ child_at parts p
  pub fits : first_at parts p + count_at parts p ≤ n
  pub big : 8 < count_at parts p
  pub children : child_at parts p + 1 < nodes

abbrev pub NodeSays : List (List ℤ) → List (List ℕ) → ℕ → ℕ → Query → ℕ → Result Node Unsound → Type 0
NodeSays boxes parts n nodes query p (Err _) = Inside parts n nodes p → ⊥
NodeSays boxes parts n nodes query p (Ok (Missed t)) = MissedTo boxes parts n nodes query p t
NodeSays boxes parts n nodes query p (Ok (Leaf f t)) = LeafFrom boxes parts n nodes query p f t
NodeSays boxes parts n nodes query p (Ok (Cut f l)) = CutInto boxes parts n nodes query p f l

-- one more node is met
abbrev pub after_node : Cursor → ℕ → ℕ → ℕ → Cursor
after_node cursor waiting at to = record { nodes = cursor.nodes; waiting = waiting; met = cursor.met + 1; at = at; to = to }

-- at another place of the leaf in hand
abbrev pub at_place : Cursor → ℕ → Cursor
at_place cursor at = record { nodes = cursor.nodes; waiting = cursor.waiting; met = cursor.met; at = at; to = cursor.to }

-- how far a walk through any tables is from its end: a leaf has at most 8 places
abbrev pub remaining : Cursor → ℕ
remaining cursor = 9 * (cursor.nodes - cursor.met) + (cursor.to - cursor.at)

-- ---- on sound tables

-- soundness as far as a walk rests on it: the index of a plan under the ceiling of 1,048,576 corners
pub record WalkSound (n : ℕ) (corners : List ℤ) (rings : List ℕ) (boxes : List (List ℤ)) (parts : List (List ℕ)) (edges : List ℕ) : Type 0 where
  pub few : n ≤ 1048576
  pub index : IndexSound n corners rings boxes parts edges

-- where the parts of the lowest j nodes waiting begin: they end at n
unfoldable pub begin : List (List ℕ) → List ℕ → ℕ → ℕ → ℕ
begin parts stack n zero = n
begin parts stack n (suc j) = first_at parts (get_or stack j 0)

-- how many nodes there are from the lowest j nodes waiting down
unfoldable pub owed : List (List ℕ) → List ℕ → ℕ → ℕ
owed parts stack zero = 0
owed parts stack (suc j) = owed parts stack j + node_count (count_at parts (get_or stack j 0))

-- where a walk of sound tables stands: every place before `at` is behind it, the leaf in hand reaches from there to `to`, and the parts
-- of the nodes waiting lie end to end from `to` to n. Met and still below are not more than N(n); the j-th to wait is 2^(20 − j) at most
pub record Walking (n : ℕ) (parts : List (List ℕ)) (stack : List ℕ) (cursor : Cursor) : Type 0 where
  pub room : 18 ≤ length stack
  pub all : cursor.nodes ≡ node_count n
  pub few : cursor.waiting ≤ 18
  pub below : (j : ℕ) → j < cursor.waiting → get_or stack j 0 < cursor.nodes
  pub seam : (j : ℕ) → j < cursor.waiting → first_at parts (get_or stack j 0) + count_at parts (get_or stack j 0) ≡ begin parts stack n j
  pub small : (j : ℕ) → j < cursor.waiting → count_at parts (get_or stack j 0) ≤ 2 ^ (20 - j)
  pub owes : cursor.met + owed parts stack cursor.waiting ≤ cursor.nodes
  pub from : begin parts stack n cursor.waiting ≡ cursor.to
  pub here : cursor.at ≤ cursor.to
  pub inside : cursor.to ≤ n

-- a walk that starts: the root alone waits
pub record Begun (n : ℕ) (cursor : Cursor) : Type 0 where
  pub nodes : cursor.nodes ≡ node_count n
  pub waiting : cursor.waiting ≡ 1
  pub met : cursor.met ≡ 0
  pub at : cursor.at ≡ 0
  pub to : cursor.to ≡ 0

-- the box of the edge at place k of the edge list is not one to enter
abbrev pub MissedAt : List ℤ → List ℕ → List ℕ → Query → ℕ → Type 0
MissedAt corners rings edges query k = enters query (edge_box corners rings (get_or edges k 0)) ≡ false

-- the places from one to another can be passed over: none of their edges has a box to enter
abbrev pub Over : List ℤ → List ℕ → List ℕ → Query → ℕ → ℕ → Type 0
Over corners rings edges query from to = (k : ℕ) → from ≤ k → k < to → MissedAt corners rings edges query k

-- ---- one node met
pub record Turned (n : ℕ) (corners : List ℤ) (rings edges : List ℕ) (parts : List (List ℕ)) (query : Query) (cursor : Cursor) (stack' : List ℕ) (cursor' : Cursor) : Type 0 where
  pub walking : Walking n parts stack' cursor'
  pub on : cursor.at ≤ cursor'.at
  pub over : Over corners rings edges query cursor.at cursor'.at

pub record Advanced (n : ℕ) (boxes : List (List ℤ)) (parts : List (List ℕ)) (query : Query) (stack : List ℕ) (cursor : Cursor) (stack' : List ℕ) (cursor' : Cursor) : Type 0 where
  pub same : cursor'.nodes ≡ cursor.nodes
  pub few : cursor'.waiting ≤ 18
  pub inside : cursor'.to ≤ n
  pub met : cursor'.met ≡ cursor.met + 1
  pub more : cursor.met < cursor.nodes
  pub less : remaining cursor' < remaining cursor
  pub space : KeptFrom 18 stack stack'
  pub turned : (corners : List ℤ) (rings edges : List ℕ) → WalkSound n corners rings boxes parts edges → Walking n parts stack cursor → Turned n corners rings edges parts query cursor stack' cursor'

-- no sound tables with a walk that stands so
abbrev pub Never : ℕ → List (List ℤ) → List (List ℕ) → List ℕ → List ℕ → Cursor → Type 0
Never n boxes parts edges stack cursor = (corners : List ℤ) (rings : List ℕ) → WalkSound n corners rings boxes parts edges → Walking n parts stack cursor → ⊥

-- a node that stops the walk: nothing is written
pub record Halted (n : ℕ) (boxes : List (List ℤ)) (parts : List (List ℕ)) (stack : List ℕ) (cursor : Cursor) (stack' : List ℕ) : Type 0 where
  pub same : stack' ≡ stack
  pub never : (edges : List ℕ) → Never n boxes parts edges stack cursor

abbrev pub TurnSays : ℕ → List (List ℤ) → List (List ℕ) → Query → List ℕ → Cursor → List ℕ → Result Cursor Unsound → Type 0
TurnSays n boxes parts query stack cursor stack' (Ok cursor') = Advanced n boxes parts query stack cursor stack' cursor'
TurnSays n boxes parts query stack cursor stack' (Err _) = Halted n boxes parts stack cursor stack'

-- ---- a step

-- on sound tables a step went to the place of the edge that it yields, over places whose edges have no box to enter
pub record Went (n : ℕ) (corners : List ℤ) (rings : List ℕ) (parts : List (List ℕ)) (edges : List ℕ) (query : Query) (cursor : Cursor) (place : ℕ) (stack' : List ℕ) (cursor' : Cursor) : Type 0 where
  pub on : cursor.at ≤ place
  pub over : Over corners rings edges query cursor.at place
  pub walking : Walking n parts stack' cursor'

-- an edge: one of n, read at the place before the cursor's, from tables long enough, and nearer to the end. Of the stack only the first 18
-- numbers may have changed
pub record Yields (n : ℕ) (boxes : List (List ℤ)) (parts : List (List ℕ)) (edges : List ℕ) (query : Query) (stack : List ℕ) (cursor : Cursor) (stack' : List ℕ) (step : Step) : Type 0 where
  pub number : step_number (Ok (Some step)) ≡ 0
  pub edge : step.edge < n
  pub place : ℕ
  pub next : step.after.at ≡ place + 1
  pub inside : place < n
  pub read : get_or edges place 0 ≡ step.edge
  pub lent : Lent n (length stack) (length boxes) (length parts) (length edges) cursor
  pub same : step.after.nodes ≡ cursor.nodes
  pub lent_next : Lent n (length stack') (length boxes) (length parts) (length edges) step.after
  pub less : remaining step.after < remaining cursor
  pub space : KeptFrom 18 stack stack'
  pub went : (corners : List ℤ) (rings : List ℕ) → WalkSound n corners rings boxes parts edges → Walking n parts stack cursor → Went n corners rings parts edges query cursor place stack' step.after

-- the end, of a step and up to a leaf: on sound tables every place that is left can be passed over. Of the stack, again, only the first 18
-- numbers may have changed
pub record Ends (n : ℕ) (boxes : List (List ℤ)) (parts : List (List ℕ)) (edges : List ℕ) (query : Query) (stack : List ℕ) (cursor : Cursor) (stack' : List ℕ) : Type 0 where
  pub number : step_number (Ok None) ≡ 0
  pub leaf_number : stop_number (Ok None) ≡ 0
  pub lent : Lent n (length stack) (length boxes) (length parts) (length edges) cursor
  pub space : KeptFrom 18 stack stack'
  pub over : (corners : List ℤ) (rings : List ℕ) → WalkSound n corners rings boxes parts edges → Walking n parts stack cursor → Over corners rings edges query cursor.at n

-- 15, of a step and up to a leaf: never on sound tables with a walk that stands so. The stack is working space, of which only the first 18
-- numbers may have changed, and none where a leaf was in hand, or a table or the stack itself is too short
pub record Refused (n : ℕ) (boxes : List (List ℤ)) (parts : List (List ℕ)) (edges : List ℕ) (stack : List ℕ) (cursor : Cursor) (stack' : List ℕ) : Type 0 where
  pub number : step_number (Err (record {})) ≡ 15
  pub leaf_number : stop_number (Err (record {})) ≡ 15
  pub never : Never n boxes parts edges stack cursor
  pub space : KeptFrom 18 stack stack'
  pub in_hand : cursor.at < cursor.to → stack' ≡ stack
  pub unlent : (Lent n (length stack) (length boxes) (length parts) (length edges) cursor → ⊥) → stack' ≡ stack

-- ---- up to a leaf

-- a walk goes on from one cursor to another: the tables are long enough, the numbers stay within them, and it is no farther from its end;
-- with a leaf in hand it stays. On sound tables the places passed over have no edge whose box is one to enter
pub record Going (n : ℕ) (boxes : List (List ℤ)) (parts : List (List ℕ)) (edges : List ℕ) (query : Query) (stack : List ℕ) (cursor : Cursor) (stack' : List ℕ) (here : Cursor) : Type 0 where
  pub lent : Lent n (length stack) (length boxes) (length parts) (length edges) cursor
  pub space : KeptFrom 18 stack stack'
  pub same : here.nodes ≡ cursor.nodes
  pub few : here.waiting ≤ 18
  pub inside : here.to ≤ n
  pub near : remaining here ≤ remaining cursor
  pub stays : cursor.at < cursor.to → here ≡ cursor
  pub in_hand : cursor.at < cursor.to → stack' ≡ stack
  pub turned : (corners : List ℤ) (rings : List ℕ) → WalkSound n corners rings boxes parts edges → Walking n parts stack cursor → Turned n corners rings edges parts query cursor stack' here

-- it has a leaf in hand
pub record InHand (n : ℕ) (boxes : List (List ℤ)) (parts : List (List ℕ)) (edges : List ℕ) (query : Query) (stack : List ℕ) (cursor : Cursor) (stack' : List ℕ) (here : Cursor) : Type 0 where
  pub number : stop_number (Ok (Some here)) ≡ 0
  pub going : Going n boxes parts edges query stack cursor stack' here
  pub some : here.at < here.to

abbrev pub StopSays : ℕ → List (List ℤ) → List (List ℕ) → List ℕ → Query → List ℕ → Cursor → List ℕ → Result (Option Cursor) Unsound → Type 0
StopSays n boxes parts edges query stack cursor stack' (Ok (Some here)) = InHand n boxes parts edges query stack cursor stack' here
StopSays n boxes parts edges query stack cursor stack' (Ok None) = Ends n boxes parts edges query stack cursor stack'
StopSays n boxes parts edges query stack cursor stack' (Err _) = Refused n boxes parts edges stack cursor stack'

-- ---- an edge
abbrev pub Says : ℕ → List (List ℤ) → List (List ℕ) → List ℕ → Query → List ℕ → Cursor → List ℕ → Result (Option Step) Unsound → Type 0
Says n boxes parts edges query stack cursor stack' (Ok (Some step)) = Yields n boxes parts edges query stack cursor stack' step
Says n boxes parts edges query stack cursor stack' (Ok None) = Ends n boxes parts edges query stack cursor stack'
Says n boxes parts edges query stack cursor stack' (Err _) = Refused n boxes parts edges stack cursor stack'

-- ---- of a plan that is lent
abbrev pub StopIn : LentPlan → Query → List ℕ → Cursor → List ℕ → Result (Option Cursor) Unsound → Type 0
StopIn plan query stack cursor stack' r = StopSays plan.n plan.boxes.now plan.parts.now plan.edges.now query stack cursor stack' r

abbrev pub StepIn : LentPlan → Query → List ℕ → Cursor → List ℕ → Result (Option Step) Unsound → Type 0
StepIn plan query stack cursor stack' r = Says plan.n plan.boxes.now plan.parts.now plan.edges.now query stack cursor stack' r
