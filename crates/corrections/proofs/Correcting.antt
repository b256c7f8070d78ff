-- From a correction to what the public calls promise. Assumes nothing.
use Rattle.std.specs.Prelude.{Err}
use mathlib.Core.Path.{◌≡◌, refl, sym, ap, ◌∙◌, subst}
use mathlib.Core.Bool.{true}
use mathlib.Core.Logic.{inl, inr}
use mathlib.Core.List.{List}
use Prim.Native.Nat.{ℕ, ◌+◌, ◌<◌}
use native.Mathlib.Omega.{arith}
use lib.IntN.{ℤ}
use lib.ListN.{length, set}
use Rattle.geom.specs.declared.Point.{Point}
use Rattle.geom.specs.Range.{in_range}
use Rattle.rules.specs.declared.Refusal.TheVariants.{Unsound}
use Rattle.rules.specs.declared.State.{State}
use Rattle.boxes.proofs.PlanEdges.{plan_rings, plan_corners}
use Rattle.index.specs.Sound.{IndexSound}
use Rattle.model.specs.declared.Answer.{Answer}
use Rattle.model.specs.declared.Answer.TheVariants.{Accepted, Refused}
use Rattle.model.specs.declared.Call.{Call}
use Rattle.model.specs.declared.Call.TheVariants.{Move, Undo}
use Rattle.model.specs.Entries.{Entry, entry_of, undo_row, put_corner, put_back}
use Rattle.model.specs.Prepared.{Prepared, prepared_of, Sound}
use Rattle.model.specs.Steps.{move_early, undo_early, early, at_depth, latest, ReachesBeside, Reaches, NamesCorner, Step, Open}
use Rattle.model.proofs.Ways.{unsound_step, open_move}
use Rattle.model.proofs.Tables.{Refitted, recorded, move_done, taken_back, undo_done}
use Rattle.corrections.specs.Answering.{Correction, answered, state_after}
use Rattle.placing.specs.Ways.{CorrectionSound}
use Rattle.placing.specs.Places.{MadeAt, Unmade}
use Rattle.corrections.specs.TakingBack.{PutBack, TakenBack}
use Rattle.corrections.specs.Records.{LatestIs}

module _ (state : State) (corners : List ℤ) (rings polygons : List ℕ) (boxes : List (List ℤ)) (parts : List (List ℕ)) (edges : List ℕ) (undo : List (List ℤ)) where
  abbrev given : Prepared
  given = prepared_of state corners rings polygons boxes parts edges undo

  -- sound tables are sound as far as a correction rests on them
  correction_sound : Sound given → CorrectionSound state.corners state.rings corners rings boxes parts edges
  correction_sound S =
      let near = plan_corners state corners rings polygons S.plan in
      record { reach = near.reach; few = near.few; ends = plan_rings state corners rings polygons S.plan; index = S.index }

  -- 15: nothing changed, and no sound tables get it
  pub refused_step : (corners' : List ℤ) (boxes' : List (List ℤ)) (call : Call) (r : Correction) → r ≡ Err Unsound → early call given ≡ Open → corners' ≡ corners → boxes' ≡ boxes → (Sound given → ⊥)
      → Step call given (answered r) (prepared_of (state_after state r) corners' rings polygons boxes' parts edges undo)
  refused_step corners' boxes' call r is e same same₂ never =
      subst (λ (q : Correction). Step call given (answered q) (prepared_of (state_after state q) corners' rings polygons boxes' parts edges undo)) (sym is)
      (subst (λ (d : Prepared). Step call given (Refused Unsound) d) (λ t. prepared_of state (sym same t) rings polygons (sym same₂ t) parts edges undo)
      (unsound_step call given e never))

  module _ (i : ℕ) (place : Point) (corners' : List ℤ) (boxes' : List (List ℤ)) where
    made_refitted : (old : Point) → MadeAt state.corners state.rings rings parts edges i place corners boxes corners' boxes' old → Sound given → Refitted given i (put_corner corners i place) boxes'
    made_refitted old M S = record {
      long = M.boxes_long;
      kept = λ p off. M.rest (correction_sound S) p (λ A. off (record { node = A.node; at = A.at; from = A.from; to = A.to; touched = A.touched }));
      index = subst (λ (c : List ℤ). IndexSound state.corners c rings boxes' parts edges) M.corners_are (M.sound (correction_sound S));
    }

    -- what a correction was made with reaches
    made_reaches : (old : Point) → MadeAt state.corners state.rings rings parts edges i place corners boxes corners' boxes' old → (call : Call) → ReachesBeside call given → Reaches call given
    made_reaches old M call beside =
        let E = M.enough in
        record { corners = E.corners_reach; rings = E.rings_reach; boxes = E.boxes_reach; parts = E.parts_reach; edges = E.edges_reach; beside = beside }

    -- a move that was made and recorded
    pub moved_step : (old : Point) → MadeAt state.corners state.rings rings parts edges i place corners boxes corners' boxes' old → (state' : State) → state' ≡ at_depth state (state.undo_depth + 1)
        → (undo' : List (List ℤ)) → undo' ≡ set undo state.undo_depth (undo_row (record { corner = i; place = old })) → move_early state (length undo) true i place ≡ Open
        → Step (Move i place) given Accepted (prepared_of state' corners' rings polygons boxes' parts edges undo')
    moved_step old M state' s undo' u e =
        subst (λ (d : Prepared). Step (Move i place) given Accepted d) (sym left) (move_done given i place e boxes' (made_reaches old M (Move i place) (omega (arith, (open_move state (length undo) true i place e).room refl))) (made_refitted old M))
      where
        row : undo' ≡ set undo state.undo_depth (undo_row (entry_of corners i))
        row = u ∙ ap (λ (p : Point). set undo state.undo_depth (undo_row (record { corner = i; place = p }))) M.old_is

        left : prepared_of state' corners' rings polygons boxes' parts edges undo' ≡ recorded given i place boxes'
        left = λ t. prepared_of (s t) (M.corners_are t) rings polygons boxes' parts edges (row t)

    -- a correction that was not made
    pub unmade_step : (call : Call) (r : Correction) → r ≡ Err Unsound → early call given ≡ Open → i < state.corners → Unmade state.corners state.rings rings parts edges i corners boxes corners' boxes'
        → Step call given (answered r) (prepared_of (state_after state r) corners' rings polygons boxes' parts edges undo)
    unmade_step call r is e one U = refused_step corners' boxes' call r is e U.corners_same U.boxes_same (λ S. U.never (correction_sound S) one)

    -- a corner put back where the latest record says
    module _ (L : LatestIs state undo i place) (r : Correction) where
      left : Prepared
      left = prepared_of (state_after state r) corners' rings polygons boxes' parts edges undo

      taken_is : PutBack state rings parts edges i place corners boxes corners' boxes' r → left ≡ taken_back given boxes'
      unfolding left
      taken_is B = λ t. prepared_of (state_after state (B.accepted t)) ((B.made.corners_are ∙ (λ u. put_corner corners (L.corner u) (L.place_is u))) t) rings polygons boxes' parts edges undo

      taken_refitted : PutBack state rings parts edges i place corners boxes corners' boxes' r → Sound given → Refitted given (latest given).corner (put_back corners (latest given)) boxes'
      taken_refitted B S = subst (λ (e : Entry). Refitted given e.corner (put_back corners e) boxes') (λ t. record { corner = L.corner t; place = L.place_is t }) (made_refitted B.old B.made S)

      -- it names a corner and a place in range
      taken_names : NamesCorner Undo given
      taken_names = (subst (λ k. k < state.corners) L.corner L.one, sym (ap in_range L.place_is) ∙ L.near)

      pub taken_step : undo_early state ≡ Open → TakenBack state rings parts edges i place corners boxes corners' boxes' r → Step Undo given (answered r) (prepared_of (state_after state r) corners' rings polygons boxes' parts edges undo)
      unfolding left
      taken_step e (inl B) =
          subst (λ (a : Answer). Step Undo given a left) (sym (ap answered B.accepted))
          (subst (λ (d : Prepared). Step Undo given Accepted d) (sym (taken_is B))
          (undo_done given e boxes' (made_reaches B.old B.made Undo L.reach) taken_names (taken_refitted B)))
      taken_step e (inr N) = unmade_step Undo r N.is e L.one N.unmade
