-- What preparing answers, test by test. Assumes nothing.
use Rattle.std.specs.Prelude.{Err, Ok, Option, Some, None}
use mathlib.Core.Path.{◌≡◌, refl, sym, ap, ◌∙◌}
use mathlib.Core.Bool.{Bool, true, false, true≢false, cond, ◌||◌}
use Prim.Native.Nat.{ℕ, ◌*◌, ◌/◌, ◌≤◌, ◌<◌}
use native.Mathlib.Omega.{arith}
use borrow.Author.Tests.{lt-ltb, le-ltb, ltb-false}
use lib.Dec.{ltb}
use Rattle.integers.proofs.Tests.{or_false}
use Rattle.rules.specs.declared.Refusal.{Refusal}
use Rattle.rules.specs.declared.Refusal.TheVariants.{TableTooShort}
use Rattle.rules.specs.declared.State.{State}
use Rattle.rules.specs.declared.Table.TheVariants.{Corners, Rings, Polygons, Nodes, Edges}
use Rattle.rules.specs.Nodes.{node_count}
use Rattle.rules.specs.Plans.{Plan, plan_verdict}
use Rattle.prepare.specs.declared.Room.{Room}
use Rattle.prepare.specs.Answers.{Preparing, state_of, with_nodes, with_room, judged, preparing, ready_with}
use Rattle.rules.specs.Answering.{Verdict, Accepted}

module _ (state : State) (room : Room) where
  -- ---- nodes and edges
  module _ (nodes : ℕ) (is : nodes ≡ node_count state.corners) where
    pub nodes_short : ltb room.boxes nodes || ltb room.parts nodes ≡ true → Err (TableTooShort Nodes) ≡ with_nodes state room
    unfolding with_nodes
    nodes_short e = sym (rw (sym is, e) refl)

    module _ (e : ltb room.boxes nodes || ltb room.parts nodes ≡ false) where
      pub edges_short : room.edges < state.corners → Err (TableTooShort Edges) ≡ with_nodes state room
      unfolding with_nodes
      edges_short h = sym (rw (sym is, e, lt-ltb room.edges state.corners h) refl)

      pub nodes_enough : state.corners ≤ room.edges → ready_with state (Some nodes) ≡ with_nodes state room
      unfolding with_nodes
      nodes_enough h = sym (rw (sym is, e, le-ltb room.edges state.corners h) refl)

  -- ---- the plan's own tables
  pub corners_short : room.corners / 2 < state.corners → Err (TableTooShort Corners) ≡ with_room state room
  unfolding with_room
  corners_short a = sym (rw (lt-ltb room.corners (2 * state.corners) (omega arith)) refl)

  module _ (a : state.corners ≤ room.corners / 2) where
    pub rings_short : room.rings < state.rings → Err (TableTooShort Rings) ≡ with_room state room
    unfolding with_room
    rings_short b = sym (rw (le-ltb room.corners (2 * state.corners) (omega arith), lt-ltb room.rings state.rings b) refl)

    module _ (b : state.rings ≤ room.rings) where
      pub polygons_short : room.polygons < state.polygons → Err (TableTooShort Polygons) ≡ with_room state room
      unfolding with_room
      polygons_short c = sym (rw (le-ltb room.corners (2 * state.corners) (omega arith), le-ltb room.rings state.rings b, lt-ltb room.polygons state.polygons c) refl)

      module _ (c : state.polygons ≤ room.polygons) where
        pub unneeded : state.out_of_range ≡ true → ready_with state None ≡ with_room state room
        unfolding with_room
        unneeded d = sym (rw (le-ltb room.corners (2 * state.corners) (omega arith), le-ltb room.rings state.rings b, le-ltb room.polygons state.polygons c, d) refl)

        pub needed : state.out_of_range ≡ false → with_nodes state room ≡ with_room state room
        unfolding with_room
        needed d = sym (rw (le-ltb room.corners (2 * state.corners) (omega arith), le-ltb room.rings state.rings b, le-ltb room.polygons state.polygons c, d) refl)

-- ---- 4 and 3 before 11
module _ (plan : Plan) (room : Room) where
  pub refused_first : (refusal : Refusal) → plan_verdict plan ≡ Err refusal → Err refusal ≡ preparing plan room
  unfolding preparing
  refused_first refusal e = sym (ap (λ v. judged v (with_room (state_of plan) room)) e)

  pub accepted_next : plan_verdict plan ≡ Accepted → with_room (state_of plan) room ≡ preparing plan room
  unfolding preparing
  accepted_next e = sym (ap (λ v. judged v (with_room (state_of plan) room)) e)

-- ---- enough room: ready
module _ (state : State) (room : Room) (a : 2 * state.corners ≤ room.corners) (b : state.rings ≤ room.rings) (c : state.polygons ≤ room.polygons) where
  pub ready_unindexed : state.out_of_range ≡ true → ready_with state None ≡ with_room state room
  ready_unindexed d = unneeded state room (omega arith) b c d

  pub ready_indexed : state.out_of_range ≡ false → node_count state.corners ≤ room.boxes → node_count state.corners ≤ room.parts → state.corners ≤ room.edges → ready_with state (Some (node_count state.corners)) ≡ with_room state room
  ready_indexed d e f g =
      nodes_enough state room (node_count state.corners) refl (λ i. le-ltb room.boxes (node_count state.corners) e i || le-ltb room.parts (node_count state.corners) f i) g
      ∙ needed state room (omega arith) b c d

-- ---- what is known where a plan is ready
pub different : {A : Type 0} (state : State) (nodes : Option ℕ) (refusal : Refusal) → ready_with state nodes ≡ Err refusal → A
different state nodes refusal e = let one : ◌≡◌ {A = ℕ} 0 1 = cc in absurd (omega arith)

state_in : State → Preparing → State
state_in other (Ok ready) = ready.state
state_in other (Err refusal) = other

nodes_in : Option ℕ → Preparing → Option ℕ
nodes_in other (Ok ready) = ready.nodes
nodes_in other (Err refusal) = other

same_ready : (state state' : State) (nodes nodes' : Option ℕ) → ready_with state nodes ≡ ready_with state' nodes' → (state ≡ state') × (nodes ≡ nodes')
unfolding state_in nodes_in
same_ready state state' nodes nodes' e = (ap (state_in state) e, ap (nodes_in nodes) e)

pub record Needed (state : State) (room : Room) (nodes : Option ℕ) : Type 0 where
  pub counted : nodes ≡ Some (node_count state.corners)
  pub boxes_reach : node_count state.corners ≤ room.boxes
  pub parts_reach : node_count state.corners ≤ room.parts
  pub edges_reach : state.corners ≤ room.edges

-- there is room for the plan, and for its index unless it is marked
pub record Roomy (state : State) (room : Room) (nodes : Option ℕ) : Type 0 where
  pub corners_reach : 2 * state.corners ≤ room.corners
  pub rings_reach : state.rings ≤ room.rings
  pub polygons_reach : state.polygons ≤ room.polygons
  pub unindexed : state.out_of_range ≡ true → nodes ≡ None
  pub indexed : state.out_of_range ≡ false → Needed state room nodes

module _ (state : State) (room : Room) (given : State) (nodes : Option ℕ) where
  room_nodes : ready_with given nodes ≡ with_nodes state room → (given ≡ state) × Needed state room nodes
  unfolding with_nodes
  room_nodes e = go (ltb room.boxes (node_count state.corners) || ltb room.parts (node_count state.corners)) (ltb room.edges state.corners) refl refl e
    where
      go : (a b : Bool) → ltb room.boxes (node_count state.corners) || ltb room.parts (node_count state.corners) ≡ a → ltb room.edges state.corners ≡ b
          → ready_with given nodes ≡ cond a (Err (TableTooShort Nodes)) (cond b (Err (TableTooShort Edges)) (ready_with state (Some (node_count state.corners)))) → (given ≡ state) × Needed state room nodes
      go true b p q h = different given nodes (TableTooShort Nodes) h
      go false true p q h = different given nodes (TableTooShort Edges) h
      go false false p q h =
          let both = or_false (ltb room.boxes (node_count state.corners)) _ p in
          let same = same_ready _ _ _ _ h in
          (same.0, record { counted = same.1; boxes_reach = ltb-false room.boxes (node_count state.corners) both.0; parts_reach = ltb-false room.parts (node_count state.corners) both.1; edges_reach = ltb-false room.edges state.corners q })

  room_given : ready_with given nodes ≡ with_room state room → (given ≡ state) × Roomy state room nodes
  unfolding with_room
  room_given e = go (ltb room.corners (2 * state.corners)) (ltb room.rings state.rings) (ltb room.polygons state.polygons) state.out_of_range refl refl refl refl e
    where
      go : (a b c d : Bool) → ltb room.corners (2 * state.corners) ≡ a → ltb room.rings state.rings ≡ b → ltb room.polygons state.polygons ≡ c → state.out_of_range ≡ d
          → ready_with given nodes ≡ cond a (Err (TableTooShort Corners)) (cond b (Err (TableTooShort Rings)) (cond c (Err (TableTooShort Polygons)) (cond d (ready_with state None) (with_nodes state room)))) → (given ≡ state) × Roomy state room nodes
      go true b c d p q r s h = different given nodes (TableTooShort Corners) h
      go false true c d p q r s h = different given nodes (TableTooShort Rings) h
      go false false true d p q r s h = different given nodes (TableTooShort Polygons) h
      go false false false true p q r s h =
          let same = same_ready _ _ _ _ h in (
            same.0,
            record {
              corners_reach = ltb-false room.corners (2 * state.corners) p;
              rings_reach = ltb-false room.rings state.rings q;
              polygons_reach = ltb-false room.polygons state.polygons r;
              unindexed = λ marked. same.1;
              indexed = λ near. absurd (true≢false (sym s ∙ near));
            },
          )
      go false false false false p q r s h =
          let found = room_nodes h in (
            found.0,
            record {
              corners_reach = ltb-false room.corners (2 * state.corners) p;
              rings_reach = ltb-false room.rings state.rings q;
              polygons_reach = ltb-false room.polygons state.polygons r;
              unindexed = λ marked. absurd (true≢false (sym marked ∙ s));
              indexed = λ near. found.1;
            },
          )

-- a plan that was prepared: accepted, with room, and this is its state
pub record Given (plan : Plan) (room : Room) (state : State) (nodes : Option ℕ) : Type 0 where
  pub accepted : plan_verdict plan ≡ Accepted
  pub state_is : state ≡ state_of plan
  pub roomy : Roomy (state_of plan) room nodes

pub given : (plan : Plan) (room : Room) (state : State) (nodes : Option ℕ) → ready_with state nodes ≡ preparing plan room → Given plan room state nodes
unfolding preparing
given plan room state nodes e = go (plan_verdict plan) refl e
  where
    go : (v : Verdict) → plan_verdict plan ≡ v → ready_with state nodes ≡ judged v (with_room (state_of plan) room) → Given plan room state nodes
    go Accepted p h = let found = room_given (state_of plan) room state nodes h in record { accepted = p; state_is = found.0; roomy = found.1 }
    go (Err refusal) p h = different state nodes refusal h
