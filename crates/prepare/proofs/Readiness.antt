-- What preparing leaves to look-ups and corrections, from its contract alone. Assumes nothing.
use Rattle.std.specs.Prelude.{Err, Ok, Option, Some, None}
use mathlib.Core.Path.{◌≡◌, refl, sym, ◌∙◌, ap, subst}
use mathlib.Core.Bool.{Bool, true, false, true≢false, not, ◌||◌}
use mathlib.Core.List.{List, [], ◌∷◌, ◌++◌}
use Prim.Native.Nat.{ℕ, suc, ◌+◌, ◌*◌, ◌≤◌, ◌<◌}
use native.Mathlib.Omega.{arith}
use lib.IntN.{pos}
use lib.ListN.{length, get_or, drop, length-append, length-drop, get_or-append}
use Rattle.integers.proofs.Tests.{not_true, not_false, not_both}
use Rattle.geom.specs.declared.Point.{Point}
use Rattle.geom.specs.Range.{in_range}
use Rattle.rules.specs.declared.Kind.{Kind}
use Rattle.rules.specs.declared.Kind.TheVariants.{Polygons, Tree}
use Rattle.rules.specs.declared.State.{State}
use Rattle.rules.specs.Lists.{any_of}
use Rattle.rules.specs.Nodes.{node_count}
use Rattle.rules.specs.Plans.{Plan, corners_of, corner_at, corner_count, rings_of, plan_verdict, all_in_range, plan_in_range, kind_reply, plan_reply, plan_half_reply}
use Rattle.rules.specs.Tables.{ends_from, polygons_in, plan_of, PlanSound}
use Rattle.rules.proofs.Tables.{ends_length}
use Rattle.rules.proofs.Corners.{corners_length, near_at, corner_is}
use Rattle.index.specs.Build.{Built}
use Rattle.index.specs.Sound.{IndexSound}
use Rattle.prepare.specs.Answers.{state_of, Preparing, ready_with}
use Rattle.prepare.specs.Tables.{Tables, room_of, polygons_end, Prepared}
use Rattle.prepare.proofs.Holding.{corners_even, kept, kept_verdict, kept_range, kept_rings, kept_place, kept_reply, kept_half, put_held, put_sound}
use Rattle.prepare.proofs.Rooms.{Given, given}
use Rattle.rules.specs.Answering.{Accepted}

-- ---- a plan is out of range by one of its corners

-- a list with a corner out of range, and where it stands
stray_in : (corners : List Point) (d : Point) → all_in_range corners ≡ false → (i : ℕ) × (i < length corners) × (in_range (get_or corners i d) ≡ false)
unfolding all_in_range any_of
stray_in [] d e = absurd (true≢false e)
stray_in (corner ∷ corners) d e = go (in_range corner) refl e (stray_in corners d)
  where
    go : (b : Bool) → in_range corner ≡ b → not (not b || any_of (λ c. not (in_range c)) corners) ≡ false
        → (all_in_range corners ≡ false → (i : ℕ) × (i < length corners) × (in_range (get_or corners i d) ≡ false))
        → (i : ℕ) × (i < suc (length corners)) × (in_range (get_or (corner ∷ corners) i d) ≡ false)
    go true h f ih = let found = ih f in (suc found.0, omega (arith, found.1), found.2)
    go false h f ih = (0, omega arith, h)

module _ (plan : Plan) where
  origin : Point
  origin = record { x = pos 0; y = pos 0 }

  pub stray_corner : plan_in_range plan ≡ false → (i : ℕ) × (i < corner_count plan) × (in_range (corner_at plan.coordinates i) ≡ false)
  unfolding plan_in_range
  stray_corner e =
      let found = stray_in (corners_of plan.coordinates) origin e in
      let inside : found.0 < corner_count plan = omega (arith, found.1, corners_length plan.coordinates) in
      (found.0, inside, ap in_range (sym (corner_is plan.coordinates found.0 origin (omega arith))) ∙ found.2)

  pub corner_strays : (i : ℕ) → i < corner_count plan → in_range (corner_at plan.coordinates i) ≡ false → plan_in_range plan ≡ false
  unfolding plan_in_range
  corner_strays i h e =
      not_both (plan_in_range plan) (λ near. true≢false (sym (near_at (corners_of plan.coordinates) near i origin (omega (arith, corners_length plan.coordinates))) ∙ ap in_range (corner_is plan.coordinates i origin (omega arith)) ∙ e))

-- the plan in the tables
abbrev pub held_in : State → Tables → Plan
held_in state t = plan_of state t.corners t.rings t.polygons

module _ (plan : Plan) (before after : Tables) (state : State) (nodes : Option ℕ) (P : Prepared plan before after (ready_with state nodes)) where
  pub ready : Given plan (room_of before) state nodes
  ready = given plan (room_of before) state nodes P.answer

  -- ---- the plan in the tables is the plan handed in; a tree's counts are not kept
  pub held : held_in state after ≡ kept plan
  held =
      ap (λ s. held_in s after) ready.state_is
      ∙ put_held plan before.corners before.rings before.polygons after.corners after.rings after.polygons P.tables.plan_put ready.accepted

  -- so it has its verdict, its rings and its replies
  pub held_verdict : plan_verdict (held_in state after) ≡ plan_verdict plan
  held_verdict = ap plan_verdict held ∙ kept_verdict plan

  pub held_range : plan_in_range (held_in state after) ≡ plan_in_range plan
  held_range = ap plan_in_range held ∙ kept_range plan

  pub held_rings : rings_of (held_in state after) ≡ rings_of plan
  held_rings = ap rings_of held ∙ kept_rings plan

  pub held_place : (p : Point) → kind_reply state.kind (held_in state after) p ≡ kind_reply plan.kind plan p
  held_place p = ap (λ s. kind_reply s.kind (held_in state after) p) ready.state_is ∙ ap (λ q. kind_reply plan.kind q p) held ∙ kept_place plan p

  pub held_reply : (p : Point) → plan_reply (held_in state after) p ≡ plan_reply plan p
  held_reply p = ap (λ q. plan_reply q p) held ∙ kept_reply plan p

  pub held_half : (p : Point) → plan_half_reply (held_in state after) p ≡ plan_half_reply plan p
  held_half p = ap (λ q. plan_half_reply q p) held ∙ kept_half plan p

  -- ---- the state
  pub accepted : plan_verdict plan ≡ Accepted
  accepted = ready.accepted

  pub state_is : state ≡ state_of plan
  state_is = ready.state_is

  -- marked exactly if some corner is out of range
  pub marked_is : state.out_of_range ≡ not (plan_in_range plan)
  marked_is = ap (λ s. s.out_of_range) state_is

  pub near_unmarked : plan_in_range plan ≡ true → state.out_of_range ≡ false
  near_unmarked e = marked_is ∙ ap not e

  pub unmarked_near : state.out_of_range ≡ false → plan_in_range plan ≡ true
  unmarked_near e = not_false (plan_in_range plan) (sym marked_is ∙ e)

  pub marked_stray : state.out_of_range ≡ true → plan_in_range plan ≡ false
  marked_stray e = not_true (plan_in_range plan) (sym marked_is ∙ e)

  -- the corners of the tables are the plan's
  pub corner_held : (i : ℕ) → i < corner_count plan → corner_at after.corners i ≡ corner_at plan.coordinates i
  corner_held i h =
      ap (λ corners. corner_at corners i) P.tables.plan_put.corners_are
      ∙ (λ t. record {
        x = get_or-append plan.coordinates (drop (length plan.coordinates) before.corners) (pos 0) (2 * i) (omega arith) t;
        y = get_or-append plan.coordinates (drop (length plan.coordinates) before.corners) (pos 0) (2 * i + 1) (omega arith) t;
      })

  pub marked_corner : state.out_of_range ≡ true → (i : ℕ) × (i < state.corners) × (in_range (corner_at after.corners i) ≡ false)
  marked_corner e =
      let found = stray_corner plan (marked_stray e) in
      (found.0, omega (arith, found.1, ap (λ s. s.corners) state_is), ap in_range (corner_held found.0 found.1) ∙ found.2)

  pub corner_marks : (i : ℕ) → i < state.corners → in_range (corner_at after.corners i) ≡ false → state.out_of_range ≡ true
  corner_marks i h e =
      let inside : i < corner_count plan = omega (arith, ap (λ s. s.corners) state_is) in
      marked_is ∙ ap not (corner_strays plan i inside (sym (ap in_range (corner_held i inside)) ∙ e))

  -- ---- the index of a plan in range
  module _ (near : plan_in_range plan ≡ true) where
    pub plan_sound : PlanSound state after.corners after.rings after.polygons
    plan_sound =
        subst (λ s. PlanSound s after.corners after.rings after.polygons) (sym state_is)
        (put_sound plan before.corners before.rings before.polygons after.corners after.rings after.polygons P.tables.plan_put accepted near)

    pub index_built : (reads : ℕ) × Built state.corners after.corners after.rings before.boxes before.parts before.edges after.boxes after.parts after.edges (node_count state.corners) reads
    index_built =
        subst (λ s. (reads : ℕ) × Built s.corners after.corners after.rings before.boxes before.parts before.edges after.boxes after.parts after.edges (node_count s.corners) reads) (sym state_is)
        (P.tables.indexed.built (ap not near))

    pub index_sound : IndexSound state.corners after.corners after.rings after.boxes after.parts after.edges
    index_sound = index_built.1.sound

    pub nodes_all : nodes ≡ Some (node_count state.corners)
    nodes_all = (ready.roomy.indexed (ap not near)).counted ∙ ap (λ s. Some (node_count s.corners)) (sym state_is)

  -- ---- a marked plan has none
  module _ (stray : plan_in_range plan ≡ false) where
    pub nodes_none : nodes ≡ None
    nodes_none = ready.roomy.unindexed (ap not stray)

    pub index_unwritten : (after.boxes ≡ before.boxes) × (after.parts ≡ before.parts) × (after.edges ≡ before.edges)
    index_unwritten = P.tables.indexed.unwritten (ap not stray)

-- ---- every table keeps its length
pub room_kept : (plan : Plan) (before after : Tables) (r : Preparing) → Prepared plan before after r → room_of after ≡ room_of before
room_kept plan before after r P = go r P
  where
    starting : {A : Type 0} (xs table table' : List A) (n : ℕ) → length xs ≡ n → n ≤ length table → table' ≡ xs ++ drop n table → length table' ≡ length table
    starting xs table table' n e h p = omega (arith, ap length p, length-append xs (drop n table), length-drop n table)

    polygons : (kind : Kind) (counts table table' : List ℕ) → polygons_in kind (length counts) ≤ length table → table' ≡ polygons_end kind counts table → length table' ≡ length table
    polygons Polygons counts table table' h p = starting (ends_from 0 counts) table table' (length counts) (ends_length 0 counts) h p
    polygons Tree counts table table' h p = ap length p

    go : (q : Preparing) → Prepared plan before after q → room_of after ≡ room_of before
    go (Err refusal) Q = ap room_of Q.tables
    go (Ok prepared) Q =
        let g = ready plan before after prepared.state prepared.nodes Q in
        let put = Q.tables.plan_put in
        let corners = starting plan.coordinates before.corners after.corners (length plan.coordinates) refl (omega (arith, corners_even plan g.accepted, g.roomy.corners_reach)) put.corners_are in
        let rings = starting (ends_from 0 plan.lengths) before.rings after.rings (length plan.lengths) (ends_length 0 plan.lengths) g.roomy.rings_reach put.rings_are in
        let ends = polygons plan.kind plan.counts before.polygons after.polygons g.roomy.polygons_reach put.polygons_are in
        let index = lengths (plan_in_range plan) refl prepared.state prepared.nodes Q in
        λ i. record { corners = corners i; rings = rings i; polygons = ends i; boxes = index.0 i; parts = index.1 i; edges = index.2 i }
      where
        lengths : (b : Bool) → plan_in_range plan ≡ b → (state : State) (nodes : Option ℕ) → Prepared plan before after (ready_with state nodes) → (length after.boxes ≡ length before.boxes) × (length after.parts ≡ length before.parts) × (length after.edges ≡ length before.edges)
        lengths true e state nodes Q = let b = (index_built plan before after state nodes Q e).1 in (b.boxes_long, b.parts_long, b.edges_long)
        lengths false e state nodes Q = let u = index_unwritten plan before after state nodes Q e in (ap length u.0, ap length u.1, ap length u.2)
