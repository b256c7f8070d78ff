-- The tables after a correction: sound again where the index is, and what a move and an undo are then said to do. Assumes nothing.
use mathlib.Core.Path.{◌≡◌, refl, sym, ap, ◌∙◌, subst}
use mathlib.Core.Bool.{Bool, true, false}
use mathlib.Core.List.{List, []}
use Prim.Native.Nat.{ℕ, ◌+◌, ◌-◌, ◌*◌, ◌<◌}
use native.Mathlib.Decide.{ℕ_discrete}
use native.Mathlib.Omega.{arith}
use lib.IntN.{ℤ, pos}
use lib.ListN.{length, get_or, set, take, length-set}
use lib.Seq.{get_or-set_same, get_or-set_other, length-take-le}
use Rattle.geom.specs.declared.Point.{Point}
use Rattle.geom.specs.Range.{in_range}
use Rattle.rules.specs.declared.State.{State}
use Rattle.rules.specs.Plans.{corners_of, corner_at, plan_verdict, plan_in_range}
use Rattle.rules.specs.Tables.{plan_of, PlanSound}
use Rattle.rules.proofs.Corners.{corners_length, corner_is}
use Rattle.boxes.proofs.PlanEdges.{plan_corners}
use Rattle.index.specs.Sound.{IndexSound}
use Rattle.model.specs.declared.Answer.{Answer}
use Rattle.model.specs.declared.Answer.TheVariants.{Accepted}
use Rattle.model.specs.declared.Call.TheVariants.{Move, Undo}
use Rattle.model.specs.Entries.{put_corner, put_back, Entry, entry_of, entry_in, undo_row, is_recorded}
use Rattle.model.specs.Model.{standing}
use Rattle.model.specs.Prepared.{Prepared, prepared_of, UndoSound, Sound, Above}
use Rattle.model.specs.Steps.{move_early, undo_early, early, at_depth, moved_state, moved_undo, Moves, latest, TakesBack, Reaches, NamesCorner, Step, Open, Settled}
use Rattle.model.specs.Demand.{Fresh}
use Rattle.model.proofs.Corners.{put_length, corner_put, corner_other, put_take, corner_take, verdict_standing, all_near}
use Rattle.model.proofs.Ways.{always_recorded, early_move, settled_step, accepted_step, OpenMove, open_move, open_undo}

-- ---- the plan's own tables
module _ (state : State) (corners : List ℤ) (rings polygons : List ℕ) (depth i : ℕ) (place : Point) (h : i < state.corners) where
  -- the plan held has that one corner put
  pub held_put : plan_of (at_depth state depth) (put_corner corners i place) rings polygons ≡ standing (plan_of state corners rings polygons) (put_corner (take (2 * state.corners) corners) i place)
  unfolding plan_of
  held_put = λ t. standing (plan_of state corners rings polygons) (put_take state.corners corners i place h t)

  held_verdict : plan_verdict (plan_of (at_depth state depth) (put_corner corners i place) rings polygons) ≡ plan_verdict (plan_of state corners rings polygons)
  unfolding plan_of
  held_verdict =
      let coordinates = take (2 * state.corners) corners in
      ap plan_verdict held_put ∙ verdict_standing (plan_of state corners rings polygons) (put_corner coordinates i place) (put_length coordinates i place)

  module _ (s : PlanSound state corners rings polygons) (near : in_range place ≡ true) where
    put_near : (j : ℕ) → j < state.corners → in_range (corner_at (put_corner corners i place) j) ≡ true
    put_near j l = go (ℕ_discrete j i)
      where
        go : Dec (j ≡ i) → in_range (corner_at (put_corner corners i place) j) ≡ true
        go (yes e) = ap (λ k. in_range (corner_at (put_corner corners i place) k)) e ∙ ap in_range (corner_put corners i place (omega (arith, s.corners_reach))) ∙ near
        go (no n) = ap in_range (corner_other corners i place j n) ∙ (plan_corners state corners rings polygons s).near j l

    held_near : plan_in_range (plan_of (at_depth state depth) (put_corner corners i place) rings polygons) ≡ true
    unfolding plan_of plan_in_range
    held_near =
        let table = put_corner corners i place in
        let long : length (take (2 * state.corners) table) ≡ 2 * state.corners = length-take-le (2 * state.corners) table (omega (arith, s.corners_reach, put_length corners i place)) in
        let p : Point = record { x = pos 0; y = pos 0 } in
        all_near (corners_of (take (2 * state.corners) table)) p
        (λ j l.
        let few = corners_length (take (2 * state.corners) table) in
        ap in_range (corner_is (take (2 * state.corners) table) j p (omega arith) ∙ corner_take state.corners table j (omega arith)) ∙ put_near j (omega arith))

    pub plan_put : PlanSound (at_depth state depth) (put_corner corners i place) rings polygons
    plan_put = record {
      corners_reach = omega (arith, s.corners_reach, put_length corners i place);
      rings_reach = s.rings_reach;
      polygons_reach = s.polygons_reach;
      ring_ends = s.ring_ends;
      polygon_ends = s.polygon_ends;
      passes = held_verdict ∙ s.passes;
      near = held_near;
    }

-- ---- the undo records
undo_pushed : (state : State) (undo : List (List ℤ)) (entry : Entry) → UndoSound state undo → entry.corner < state.corners → in_range entry.place ≡ true → state.undo_depth < length undo
    → UndoSound (at_depth state (state.undo_depth + 1)) (set undo state.undo_depth (undo_row entry))
undo_pushed state undo entry s h near room = record {
  reach = omega (arith, length-set undo state.undo_depth (undo_row entry));
  corner = λ k l. each (λ (e : Entry). e.corner < state.corners) h s.corner k l;
  place = λ k l. each (λ (e : Entry). in_range e.place ≡ true) near s.place k l;
}
  where
    each : (P : Entry → Type 0) → P entry → ((k : ℕ) → k < state.undo_depth → P (entry_in (get_or undo k []))) → (k : ℕ) → k < state.undo_depth + 1 → P (entry_in (get_or (set undo state.undo_depth (undo_row entry)) k []))
    each P new old k l = go (ℕ_discrete k state.undo_depth)
      where
        go : Dec (k ≡ state.undo_depth) → P (entry_in (get_or (set undo state.undo_depth (undo_row entry)) k []))
        go (yes e) = subst (λ (row : List ℤ). P (entry_in row)) (sym (ap (λ m. get_or (set undo state.undo_depth (undo_row entry)) m []) e ∙ get_or-set_same undo state.undo_depth (undo_row entry) [] room)) new
        go (no n) = subst (λ (row : List ℤ). P (entry_in row)) (sym (get_or-set_other undo state.undo_depth k (undo_row entry) [] n)) (old k (omega arith))

undo_popped : (state : State) (undo : List (List ℤ)) → UndoSound state undo → UndoSound (at_depth state (state.undo_depth - 1)) undo
undo_popped state undo s = record { reach = omega (arith, s.reach); corner = λ k l. s.corner k (omega arith); place = λ k l. s.place k (omega arith) }

-- ---- what a move leaves, given the boxes that it leaves
abbrev pub moved_to : Prepared → ℕ → Point → List (List ℤ) → Prepared
moved_to d i place boxes =
    prepared_of (moved_state (is_recorded (corner_at d.corners i) place) d.state) (put_corner d.corners i place) d.rings d.polygons boxes d.parts d.edges
    (moved_undo (is_recorded (corner_at d.corners i) place) d.state.undo_depth (entry_of d.corners i) d.undo)

-- the boxes that a correction of corner i leaves: of the same length, as they were where not above the corner's edges, and an index over
-- the corners now standing
pub record Refitted (d : Prepared) (i : ℕ) (put : List ℤ) (boxes : List (List ℤ)) : Type 0 where
  pub long : length boxes ≡ length d.boxes
  pub kept : (p : ℕ) → (Above d i p → ⊥) → get_or boxes p [] ≡ get_or d.boxes p []
  pub index : IndexSound d.state.corners put d.rings boxes d.parts d.edges

module _ (d : Prepared) (s : Sound d) (i : ℕ) (place : Point) (boxes : List (List ℤ)) (w : Refitted d i (put_corner d.corners i place) boxes) where
  -- recorded or not
  moved_as : (recorded : Bool) → OpenMove d.state (length d.undo) recorded i place
      → Sound (prepared_of (moved_state recorded d.state) (put_corner d.corners i place) d.rings d.polygons boxes d.parts d.edges (moved_undo recorded d.state.undo_depth (entry_of d.corners i) d.undo))
  moved_as true o = record {
    plan = plan_put d.state d.corners d.rings d.polygons (d.state.undo_depth + 1) i place o.corner s.plan o.near;
    index = w.index;
    records = undo_pushed d.state d.undo (entry_of d.corners i) s.records o.corner ((plan_corners d.state d.corners d.rings d.polygons s.plan).near i o.corner) (o.room refl);
  }
  moved_as false o = record {
    plan = plan_put d.state d.corners d.rings d.polygons d.state.undo_depth i place o.corner s.plan o.near;
    index = w.index;
    records = s.records;
  }

  pub moved_does : early (Move i place) d ≡ Open → Moves i place d Accepted (moved_to d i place boxes)
  moved_does e = record {
    answer = refl;
    state = refl;
    undo = refl;
    corrected = record {
      corners = refl;
      rings = refl;
      polygons = refl;
      parts = refl;
      edges = refl;
      boxes_long = w.long;
      boxes = w.kept;
      sound = moved_as (is_recorded (corner_at d.corners i) place) (open_move d.state (length d.undo) (is_recorded (corner_at d.corners i) place) i place e);
    };
  }

-- ---- and what an undo leaves
abbrev pub taken_back : Prepared → List (List ℤ) → Prepared
taken_back d boxes = prepared_of (at_depth d.state (d.state.undo_depth - 1)) (put_back d.corners (latest d)) d.rings d.polygons boxes d.parts d.edges d.undo

pub taken_does : (d : Prepared) → Sound d → (boxes : List (List ℤ)) → Refitted d (latest d).corner (put_back d.corners (latest d)) boxes → early Undo d ≡ Open → TakesBack d Accepted (taken_back d boxes)
taken_does d s boxes w e =
    let some = (open_undo d.state e).1 in
    let k = d.state.undo_depth - 1 in
    record {
      answer = refl;
      state = refl;
      undo = refl;
      corrected = record {
        corners = refl;
        rings = refl;
        polygons = refl;
        parts = refl;
        edges = refl;
        boxes_long = w.long;
        boxes = w.kept;
        sound = record {
          plan = plan_put d.state d.corners d.rings d.polygons k (latest d).corner (latest d).place (s.records.corner k (omega arith)) s.plan (s.records.place k (omega arith));
          index = w.index;
          records = undo_popped d.state d.undo s.records;
        };
      };
    }

-- ---- the ways out of a move and of an undo, as their code has them

-- what a move leaves: the state a record deeper, and the record on top
abbrev pub recorded : Prepared → ℕ → Point → List (List ℤ) → Prepared
recorded d i place boxes =
    prepared_of (at_depth d.state (d.state.undo_depth + 1)) (put_corner d.corners i place) d.rings d.polygons boxes d.parts d.edges
    (set d.undo d.state.undo_depth (undo_row (entry_of d.corners i)))

module _ (d : Prepared) (i : ℕ) (place : Point) where
  pub move_settled : (a : Answer) → move_early d.state (length d.undo) true i place ≡ Settled a → Step (Move i place) d a d
  move_settled a e = settled_step (Move i place) d a (early_move d i place ∙ e)

  module _ (clear : move_early d.state (length d.undo) true i place ≡ Open) where
    pub move_done : (boxes : List (List ℤ)) → Reaches (Move i place) d → (Sound d → Refitted d i (put_corner d.corners i place) boxes) → Step (Move i place) d Accepted (recorded d i place boxes)
    move_done boxes reaches w =
        subst (λ (v : Prepared). Step (Move i place) d Accepted v) as_recorded
        (accepted_step (Move i place) d (moved_to d i place boxes) (early_move d i place ∙ clear) refl reaches tt (λ s. moved_does d s i place boxes (w s) (early_move d i place ∙ clear)))
      where
        as_recorded : moved_to d i place boxes ≡ recorded d i place boxes
        as_recorded = λ t.
            prepared_of (moved_state (always_recorded (corner_at d.corners i) place t) d.state) (put_corner d.corners i place) d.rings d.polygons boxes d.parts d.edges
            (moved_undo (always_recorded (corner_at d.corners i) place t) d.state.undo_depth (entry_of d.corners i) d.undo)

pub undo_done : (d : Prepared) → undo_early d.state ≡ Open → (boxes : List (List ℤ)) → Reaches Undo d → NamesCorner Undo d → (Sound d → Refitted d (latest d).corner (put_back d.corners (latest d)) boxes) → Step Undo d Accepted (taken_back d boxes)
undo_done d e boxes reaches names w = accepted_step Undo d (taken_back d boxes) e refl reaches names (λ s. taken_does d s boxes (w s) e)

-- ---- a plan just prepared in range, with any undo table
pub fresh_tables : (d : Prepared) → PlanSound d.state d.corners d.rings d.polygons → IndexSound d.state.corners d.corners d.rings d.boxes d.parts d.edges → d.state.out_of_range ≡ false → d.state.undo_depth ≡ 0 → Fresh d
fresh_tables d plan index unmarked nothing = record {
  sound = record { plan = plan; index = index; records = record { reach = omega arith; corner = λ k l. absurd (omega arith); place = λ k l. absurd (omega arith) } };
  unmarked = unmarked;
  nothing = nothing;
}
