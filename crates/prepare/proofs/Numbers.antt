-- What preparing answers, in numbers. Assumes nothing.
use Rattle.std.specs.Prelude.{Err, Ok, Option, Some, None}
use mathlib.Core.Path.{◌≡◌, refl, ap, ◌∙◌}
use mathlib.Core.Bool.{Bool, true, false, cond, ◌||◌}
use Prim.Native.Nat.{ℕ, ◌*◌}
use lib.Dec.{eqb, ltb}
use Rattle.rules.specs.declared.Refusal.TheVariants.{Uneven, TooMany, TableTooShort}
use Rattle.rules.specs.declared.State.{State}
use Rattle.rules.specs.declared.Table.TheVariants.{Corners, Rings, Polygons, Nodes, Edges}
use Rattle.rules.specs.Nodes.{node_count}
use Rattle.rules.specs.Numbers.{refusal_detail}
use Rattle.rules.specs.Plans.{Plan, too_many, uneven, plan_verdict}
use Rattle.prepare.specs.declared.Room.{Room}
use Rattle.prepare.specs.Answers.{preparing_number, preparing_detail, state_of, with_nodes, with_room, judged, preparing, short_index, short_table, nodes_reported, number_due, detail_due, Preparing, ready_with}
use Rattle.prepare.specs.Tables.{Tables, room_of, Left, Prepared}
use Rattle.rules.specs.Answering.{Accepted}

-- a table's number, and 0 where none is too short, decide the answer's number and detail
abbrev pub number_by : ℕ → ℕ
number_by table = cond (eqb table 0) 0 11

abbrev pub detail_by : ℕ → ℕ → ℕ
detail_by nodes table = cond (eqb table 0) nodes table

-- what a refusal names
abbrev pub named : Preparing → ℕ
named (Ok ready) = 0
named (Err refusal) = refusal_detail refusal

-- an answer with these
pub record Told (r : Preparing) (nodes table : ℕ) : Type 0 where
  pub number : preparing_number r ≡ number_by table
  pub detail : preparing_detail r ≡ detail_by nodes table
  pub names : named r ≡ table

module _ (state : State) (room : Room) where
  index_told : Told (with_nodes state room) (node_count state.corners) (short_index state room)
  unfolding with_nodes short_index
  index_told = go (ltb room.boxes (node_count state.corners) || ltb room.parts (node_count state.corners)) (ltb room.edges state.corners)
    where
      go : (a b : Bool) → Told (cond a (Err (TableTooShort Nodes)) (cond b (Err (TableTooShort Edges)) (ready_with state (Some (node_count state.corners))))) (node_count state.corners) (cond a 4 (cond b 5 0))
      go true b = record { number = refl; detail = refl; names = refl }
      go false true = record { number = refl; detail = refl; names = refl }
      go false false = record { number = refl; detail = refl; names = refl }

  pub room_told : Told (with_room state room) (nodes_reported state) (short_table state room)
  unfolding with_room short_table
  room_told = go (ltb room.corners (2 * state.corners)) (ltb room.rings state.rings) (ltb room.polygons state.polygons) state.out_of_range
    where
      go : (a b c m : Bool) → Told (cond a (Err (TableTooShort Corners)) (cond b (Err (TableTooShort Rings)) (cond c (Err (TableTooShort Polygons)) (cond m (ready_with state None) (with_nodes state room))))) (cond m 0 (node_count state.corners))
          (cond a 1 (cond b 2 (cond c 3 (cond m 0 (short_index state room)))))
      go true b c m = record { number = refl; detail = refl; names = refl }
      go false true c m = record { number = refl; detail = refl; names = refl }
      go false false true m = record { number = refl; detail = refl; names = refl }
      go false false false true = record { number = refl; detail = refl; names = refl }
      go false false false false = index_told

module _ (plan : Plan) (room : Room) where
  number_due_lem : preparing_number (preparing plan room) ≡ number_due plan room
  unfolding preparing plan_verdict number_due
  number_due_lem = go (too_many plan) (uneven plan)
    where
      go : (many odd : Bool) → preparing_number (judged (cond many (Err TooMany) (cond odd (Err Uneven) Accepted)) (with_room (state_of plan) room)) ≡ cond many 4 (cond odd 3 (number_by (short_table (state_of plan) room)))
      go true odd = refl
      go false true = refl
      go false false = (room_told (state_of plan) room).number

  detail_due_lem : preparing_detail (preparing plan room) ≡ detail_due plan room
  unfolding preparing plan_verdict detail_due
  detail_due_lem = go (too_many plan) (uneven plan)
    where
      go : (many odd : Bool) → preparing_detail (judged (cond many (Err TooMany) (cond odd (Err Uneven) Accepted)) (with_room (state_of plan) room)) ≡ cond many 0 (cond odd 0 (detail_by (nodes_reported (state_of plan)) (short_table (state_of plan) room)))
      go true odd = refl
      go false true = refl
      go false false = (room_told (state_of plan) room).detail

-- what the promise says, from the answer and what became of the tables
pub prepared_as : (plan : Plan) (before after : Tables) (r : Preparing) → r ≡ preparing plan (room_of before) → Left plan before after r → Prepared plan before after r
prepared_as plan before after r e l = record { answer = e; number = ap preparing_number e ∙ number_due_lem plan (room_of before); detail = ap preparing_detail e ∙ detail_due_lem plan (room_of before); tables = l }
