-- Wrong ways of preparing that the contract rules out, whatever the code is. Assumes nothing.
use Rattle.std.specs.Prelude.{Err, Ok, Option, Some, None}
use mathlib.Core.Path.{◌≡◌, sym, ◌∙◌, ap}
use mathlib.Core.Bool.{true, false, not}
use mathlib.Core.List.{List, [], ◌∷◌}
use Prim.Native.Nat.{ℕ, ◌+◌, ◌*◌, ◌^◌, ◌≤◌}
use native.Mathlib.Omega.{arith}
use lib.IntN.{ℤ, pos}
use lib.ListN.{length, get_or, replicate}
use Rattle.geom.specs.Boxes.{empty_rect}
use Rattle.rules.specs.declared.Kind.{Kind}
use Rattle.rules.specs.declared.Kind.TheVariants.{Polygons, Tree}
use Rattle.rules.specs.declared.Refusal.{Refusal}
use Rattle.rules.specs.declared.Refusal.TheVariants.{Uneven, TooMany, TableTooShort}
use Rattle.rules.specs.declared.State.{State}
use Rattle.rules.specs.declared.Table.TheVariants as Table
use Rattle.rules.specs.Lists.{any_of, total}
use Rattle.rules.specs.Nodes.{nodes_within, node_count}
use Rattle.rules.specs.Plans.{Plan, corners_of, corner_count, too_many, uneven, plan_verdict, all_in_range, plan_in_range}
use Rattle.rules.specs.Tables.{ends_from}
use Rattle.rules.proofs.Verdicts.{too_many_first, uneven_second}
use Rattle.boxes.specs.Boxes.{box_of, row_of}
use Rattle.index.specs.Parts.{first_at}
use Rattle.index.specs.Sound.{Smallest}
use Rattle.index.proofs.Counts.{node_count_some}
use Rattle.prepare.specs.declared.Room.{Room}
use Rattle.prepare.specs.Answers.{preparing_number, preparing_detail, nodes_number, state_of, with_nodes, with_room, preparing, Preparing, ready_with}
use Rattle.prepare.specs.Tables.{Tables, room_of, Left, Prepared}
use Rattle.prepare.proofs.Readiness.{state_is, index_sound, nodes_all, nodes_none, index_unwritten}
use Rattle.prepare.proofs.Rooms.{refused_first, accepted_next, ready_unindexed, ready_indexed, different}
use Rattle.rules.specs.Answering.{Accepted}

-- ---- each number under its condition alone, in the order 4, 3, 11

-- a plan's own tables have room for it
pub record Enough (plan : Plan) (room : Room) : Type 0 where
  pub corners_reach : 2 * corner_count plan ≤ room.corners
  pub rings_reach : length plan.lengths ≤ room.rings
  pub polygons_reach : (state_of plan).polygons ≤ room.polygons

-- and nodes and edges have room for its index
pub record EnoughNodes (plan : Plan) (room : Room) : Type 0 where
  pub boxes_reach : node_count (corner_count plan) ≤ room.boxes
  pub parts_reach : node_count (corner_count plan) ≤ room.parts
  pub edges_reach : corner_count plan ≤ room.edges

module _ (plan : Plan) (before after : Tables) (r : Preparing) (P : Prepared plan before after r) where
  -- 4 comes before 3 and 11, however short the tables are
  pub too_many_named : too_many plan ≡ true → r ≡ Err TooMany
  too_many_named e = P.answer ∙ sym (refused_first plan (room_of before) TooMany (too_many_first plan e))

  -- 3 comes before 11, however short the tables are
  pub uneven_named : too_many plan ≡ false → uneven plan ≡ true → r ≡ Err Uneven
  uneven_named e f = P.answer ∙ sym (refused_first plan (room_of before) Uneven (uneven_second plan e f))

  module _ (accepted : plan_verdict plan ≡ Accepted) (room : Enough plan (room_of before)) where
    -- 11 always, or any refusal throughout: a plan in range that has room is ready, with N(n)
    pub near_ready : plan_in_range plan ≡ true → EnoughNodes plan (room_of before) → r ≡ ready_with (state_of plan) (Some (node_count (corner_count plan)))
    near_ready near nodes =
        P.answer
        ∙ sym (ready_indexed (state_of plan) (room_of before) room.corners_reach room.rings_reach room.polygons_reach (ap not near) nodes.boxes_reach nodes.parts_reach nodes.edges_reach
        ∙ accepted_next plan (room_of before) accepted)

    -- 11 for nodes or edges of a marked plan, which needs none
    pub stray_ready : plan_in_range plan ≡ false → r ≡ ready_with (state_of plan) None
    stray_ready stray =
        P.answer
        ∙ sym (ready_unindexed (state_of plan) (room_of before) room.corners_reach room.rings_reach room.polygons_reach (ap not stray) ∙ accepted_next plan (room_of before) accepted)

-- refusal throughout
module _ (plan : Plan) (before after : Tables) (refusal : Refusal) (P : Prepared plan before after (Err refusal)) (accepted : plan_verdict plan ≡ Accepted) (room : Enough plan (room_of before)) where
  pub not_refused_near : plan_in_range plan ≡ true → EnoughNodes plan (room_of before) → ⊥
  not_refused_near near nodes = different (state_of plan) (Some (node_count (corner_count plan))) refusal (sym (near_ready plan before after (Err refusal) P accepted room near nodes))

  pub not_refused_stray : plan_in_range plan ≡ false → ⊥
  not_refused_stray stray = different (state_of plan) None refusal (sym (stray_ready plan before after (Err refusal) P accepted room stray))

-- tables written before a refusal
pub refusal_writes_nothing : (plan : Plan) (before after : Tables) (refusal : Refusal) → Prepared plan before after (Err refusal) → after ≡ before
refusal_writes_nothing plan before after refusal P = P.tables

-- ---- the nodes reported
module _ (plan : Plan) (before after : Tables) (state : State) (nodes : Option ℕ) (P : Prepared plan before after (ready_with state nodes)) where
  -- a node count that is not N(n)
  pub not_other_than_all : plan_in_range plan ≡ true → (nodes ≡ Some (node_count (corner_count plan)) → ⊥) → ⊥
  not_other_than_all near f = f (nodes_all plan before after state nodes P near ∙ ap (λ s. Some (node_count s.corners)) (state_is plan before after state nodes P))

  -- 0 nodes of a plan in range, or none
  pub not_zero_nodes : plan_in_range plan ≡ true → nodes_number nodes ≡ 0 → ⊥
  not_zero_nodes near e = omega (arith, ap nodes_number (nodes_all plan before after state nodes P near), node_count_some state.corners)

  -- ---- a marked plan indexed: its nodes counted, its boxes, parts or edges written
  pub not_counted : plan_in_range plan ≡ false → (nodes ≡ None → ⊥) → ⊥
  not_counted stray f = f (nodes_none plan before after state nodes P stray)

  pub not_indexed : plan_in_range plan ≡ false → ((after.boxes ≡ before.boxes) × (after.parts ≡ before.parts) × (after.edges ≡ before.edges) → ⊥) → ⊥
  not_indexed stray f = f (index_unwritten plan before after state nodes P stray)

  -- with no edges there is one node, round nothing
  pub one_empty_node : plan_in_range plan ≡ true → corner_count plan ≡ 0 → (nodes ≡ Some 1) × (get_or after.boxes 0 [] ≡ row_of empty_rect)
  unfolding Smallest box_of node_count nodes_within
  one_empty_node near none =
      let empty : state.corners ≡ 0 = ap (λ s. s.corners) (state_is plan before after state nodes P) ∙ none in
      let sound = index_sound plan before after state nodes P near in (
        nodes_all plan before after state nodes P near ∙ ap (λ n. Some (node_count n)) empty,
        sound.smallest 0 (node_count_some state.corners) ∙ ap (λ n. row_of (box_of after.corners after.rings after.edges (first_at after.parts 0) n)) (sound.root_count ∙ empty),
      )

-- ---- a tree's polygon table
module _ (coordinates : List ℤ) (lengths counts : List ℕ) (before after : Tables) (r : Preparing) where
  abbrev tree : Plan
  tree = record { kind = Tree; coordinates = coordinates; lengths = lengths; counts = counts }

  -- written
  pub tree_polygons_unwritten : Prepared tree before after r → after.polygons ≡ before.polygons
  tree_polygons_unwritten P = go r P.tables
    where
      go : (q : Preparing) → Left tree before after q → after.polygons ≡ before.polygons
      go (Ok ready) left = left.plan_put.polygons_are
      go (Err refusal) left = ap (λ t. t.polygons) left

-- tested: room for no polygons is enough
pub tree_polygons_unneeded : (coordinates : List ℤ) (lengths counts : List ℕ) (room : Room) → (state_of (record { kind = Tree; coordinates = coordinates; lengths = lengths; counts = counts })).polygons ≤ room.polygons
tree_polygons_unneeded coordinates lengths counts room = omega arith

-- ---- 11 names the first table that is too short
abbrev one : Kind → Plan
one kind = record { kind = kind; coordinates = pos 3 ∷ pos 3 ∷ []; lengths = 1 ∷ []; counts = 1 ∷ [] }

-- tables of so many entries
abbrev lent : ℕ → ℕ → ℕ → ℕ → ℕ → ℕ → Tables
lent corners rings polygons boxes parts edges =
    record { corners = replicate corners (pos 7); rings = replicate rings 7; polygons = replicate polygons 7; boxes = replicate boxes []; parts = replicate parts []; edges = replicate edges 7 }

module _ (after : Tables) (r : Preparing) where
  pub corners_named : Prepared (one Polygons) (lent 1 0 0 0 0 0) after r → r ≡ Err (TableTooShort Table.Corners)
  unfolding preparing plan_verdict too_many uneven total any_of with_room
  corners_named P = P.answer

  pub rings_named : Prepared (one Polygons) (lent 2 0 0 0 0 0) after r → r ≡ Err (TableTooShort Table.Rings)
  unfolding preparing plan_verdict too_many uneven total any_of with_room
  rings_named P = P.answer

  pub polygons_named : Prepared (one Polygons) (lent 2 1 0 0 0 0) after r → r ≡ Err (TableTooShort Table.Polygons)
  unfolding preparing plan_verdict too_many uneven total any_of with_room
  polygons_named P = P.answer

  -- either table of the nodes
  pub boxes_named : Prepared (one Polygons) (lent 2 1 1 0 1 0) after r → r ≡ Err (TableTooShort Table.Nodes)
  unfolding preparing plan_verdict too_many uneven total any_of plan_in_range all_in_range corners_of with_room with_nodes node_count nodes_within
  boxes_named P = P.answer

  pub parts_named : Prepared (one Polygons) (lent 2 1 1 1 0 0) after r → r ≡ Err (TableTooShort Table.Nodes)
  unfolding preparing plan_verdict too_many uneven total any_of plan_in_range all_in_range corners_of with_room with_nodes node_count nodes_within
  parts_named P = P.answer

  pub edges_named : Prepared (one Polygons) (lent 2 1 1 1 1 0) after r → (preparing_number r ≡ 11) × (preparing_detail r ≡ 5)
  unfolding preparing plan_verdict too_many uneven total any_of plan_in_range all_in_range corners_of with_room with_nodes node_count nodes_within
  edges_named P = (ap preparing_number P.answer, ap preparing_detail P.answer)

  pub one_ready : Prepared (one Polygons) (lent 2 1 1 1 1 1) after r → (preparing_number r ≡ 0) × (preparing_detail r ≡ 1)
  unfolding preparing plan_verdict too_many uneven total any_of plan_in_range all_in_range corners_of with_room with_nodes node_count nodes_within
  one_ready P = (ap preparing_number P.answer, ap preparing_detail P.answer)

  pub tree_ready : Prepared (one Tree) (lent 2 1 0 1 1 1) after r → (preparing_number r ≡ 0) × (preparing_detail r ≡ 1)
  unfolding preparing plan_verdict too_many uneven total any_of plan_in_range all_in_range corners_of with_room with_nodes node_count nodes_within
  tree_ready P = (ap preparing_number P.answer, ap preparing_detail P.answer)

-- a plan with a corner at 2^40 + 1 needs neither nodes nor edges, and reports 0 nodes
pub stray_one : (after : Tables) (r : Preparing) → Prepared (record { kind = Polygons; coordinates = pos (2 ^ 40 + 1) ∷ pos 0 ∷ []; lengths = 1 ∷ []; counts = 1 ∷ [] }) (lent 2 1 1 0 0 0) after r → (preparing_number r ≡ 0) × (preparing_detail r ≡ 0)
unfolding preparing plan_verdict too_many uneven total any_of plan_in_range all_in_range corners_of with_room
stray_one after r P = (ap preparing_number P.answer, ap preparing_detail P.answer)

-- 3 however short the tables are: an odd list of coordinates
pub odd_named : (after : Tables) (r : Preparing) → Prepared (record { kind = Polygons; coordinates = pos 0 ∷ []; lengths = []; counts = [] }) (lent 0 0 0 0 0 0) after r → preparing_number r ≡ 3
unfolding preparing plan_verdict too_many uneven total any_of
odd_named after r P = ap preparing_number P.answer

-- ---- ends kept as lengths: rings of 1 and 2 corners end at 1 and 3, a polygon of 1 ring and one of 1 end at 1 and 2
pub ends_kept : (after : Tables) (state : State) (nodes : Option ℕ) → Prepared (record { kind = Polygons; coordinates = pos 0 ∷ pos 0 ∷ pos 1 ∷ pos 0 ∷ pos 1 ∷ pos 1 ∷ []; lengths = 1 ∷ 2 ∷ []; counts = 1 ∷ 1 ∷ [] }) (lent 6 3 2 1 1 3) after (ready_with state nodes)
    → (after.rings ≡ 1 ∷ 3 ∷ 7 ∷ []) × (after.polygons ≡ 1 ∷ 2 ∷ [])
unfolding ends_from
ends_kept after state nodes P = (P.tables.plan_put.rings_are, P.tables.plan_put.polygons_are)
