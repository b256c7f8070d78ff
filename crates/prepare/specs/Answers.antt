-- What preparing a plan answers (document 01, items 5 and 6, refusals 4, 3 and 11).
use Rattle.std.specs.Prelude.{not, cond, ◌||◌, ℕ, ◌*◌, eqb, ltb, length, Option, Some, None, Result, Ok, Err}
use Rattle.rules.specs.declared.Refusal.{Refusal}
use Rattle.rules.specs.declared.Refusal.TheVariants.{TableTooShort}
use Rattle.rules.specs.declared.State.{State}
use Rattle.rules.specs.declared.Table.TheVariants.{Corners, Rings, Polygons, Nodes, Edges}
use Rattle.rules.specs.Nodes.{node_count}
use Rattle.rules.specs.Numbers.{refusal_number, refusal_detail}
use Rattle.rules.specs.Plans.{Plan, corner_count, too_many, uneven, plan_verdict, plan_in_range}
use Rattle.rules.specs.Tables.{polygons_in}
use Rattle.prepare.specs.declared.Ready.{Ready}
use Rattle.prepare.specs.declared.Room.{Room}
use Rattle.rules.specs.Answering.{Verdict}

-- ready, or refused
abbrev pub Preparing : Type 0
Preparing = Result Ready Refusal

abbrev pub ready_with : State → Option ℕ → Preparing
ready_with state nodes = Ok (record { state = state; nodes = nodes })

-- the number of nodes as a number: 0 where the plan has no index
abbrev pub nodes_number : Option ℕ → ℕ
nodes_number (Some nodes) = nodes
nodes_number None = 0

-- 0 where the plan was prepared, or the refusal's number
abbrev pub preparing_number : Preparing → ℕ
preparing_number (Ok ready) = 0
preparing_number (Err refusal) = refusal_number refusal

-- the number of nodes reported where the plan was prepared, 11's table, and 0 with any other refusal
abbrev pub preparing_detail : Preparing → ℕ
preparing_detail (Ok ready) = nodes_number ready.nodes
preparing_detail (Err refusal) = refusal_detail refusal

-- the state of a plan just prepared. Item 6: it is marked where a corner is out of range. A tree has no polygons; nothing is to undo
abbrev pub state_of : Plan → State
state_of plan =
    record {
      kind = plan.kind;
      out_of_range = not (plan_in_range plan);
      corners = corner_count plan;
      rings = length plan.lengths;
      polygons = polygons_in plan.kind (length plan.counts);
      undo_depth = 0;
    }

-- 11: nodes, N(n) rows of boxes and of parts, then edges, n of them; item 5: N(n) is reported
unfoldable pub with_nodes : State → Room → Preparing
with_nodes state room =
    cond (ltb room.boxes (node_count state.corners) || ltb room.parts (node_count state.corners)) (Err (TableTooShort Nodes))
    (cond (ltb room.edges state.corners) (Err (TableTooShort Edges)) (ready_with state (Some (node_count state.corners))))

-- 11: the first table that is too short, of corners (two numbers a corner), rings, polygons (none for a tree), nodes, edges. A marked
-- plan needs no nodes and no edges, and none are reported
unfoldable pub with_room : State → Room → Preparing
with_room state room =
    cond (ltb room.corners (2 * state.corners)) (Err (TableTooShort Corners))
    (cond (ltb room.rings state.rings) (Err (TableTooShort Rings))
    (cond (ltb room.polygons state.polygons) (Err (TableTooShort Polygons))
    (cond state.out_of_range (ready_with state None) (with_nodes state room))))

-- a plan that is refused gets that refusal
abbrev pub judged : Verdict → Preparing → Preparing
judged (Ok _) other = other
judged (Err refusal) other = Err refusal

-- "plan 4, 3, 11"
unfoldable pub preparing : Plan → Room → Preparing
preparing plan room = judged (plan_verdict plan) (with_room (state_of plan) room)

-- ---- the same in numbers

-- 11's table: nodes (4), then edges (5); 0 where both have room
unfoldable pub short_index : State → Room → ℕ
short_index state room =
    cond (ltb room.boxes (node_count state.corners) || ltb room.parts (node_count state.corners)) 4
    (cond (ltb room.edges state.corners) 5 0)

-- 11's table, the first of corners (1), rings (2), polygons (3), nodes, edges that is too short; 0 where none is
unfoldable pub short_table : State → Room → ℕ
short_table state room =
    cond (ltb room.corners (2 * state.corners)) 1
    (cond (ltb room.rings state.rings) 2
    (cond (ltb room.polygons state.polygons) 3
    (cond state.out_of_range 0 (short_index state room))))

-- the nodes that are reported: N(n), and 0 of a marked plan
abbrev pub nodes_reported : State → ℕ
nodes_reported state = cond state.out_of_range 0 (node_count state.corners)

-- 4, then 3, then 11, else 0; with 11's table, or the nodes
unfoldable pub number_due : Plan → Room → ℕ
number_due plan room = cond (too_many plan) 4 (cond (uneven plan) 3 (cond (eqb (short_table (state_of plan) room) 0) 0 11))

unfoldable pub detail_due : Plan → Room → ℕ
detail_due plan room = cond (too_many plan) 0 (cond (uneven plan) 0 (cond (eqb (short_table (state_of plan) room) 0) (nodes_reported (state_of plan)) (short_table (state_of plan) room)))
