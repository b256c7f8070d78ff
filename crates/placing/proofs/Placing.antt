-- A corner put at a place, and the paths to its two edges refitted: what that makes of the tables. Assumes nothing.
use mathlib.Core.Path.{◌≡◌, refl, ap, ◌∙◌}
use mathlib.Core.Logic.{inl, inr}
use mathlib.Core.List.{List, []}
use Prim.Native.Nat.{ℕ, ◌^◌, ◌<◌}
use native.Mathlib.Decide.{dec_lt}
use native.Mathlib.Omega.{arith}
use lib.IntN.{ℤ}
use lib.ListN.{length, get_or}
use Rattle.geom.specs.declared.Point.{Point}
use Rattle.rules.specs.Nodes.{node_count}
use Rattle.rules.specs.Plans.{corner_at}
use Rattle.index.specs.Sound.{IndexSound}
use Rattle.index.proofs.Soundness.{edge_in}
use Rattle.refit.specs.Paths.{Holds}
use Rattle.refit.specs.Refits.{refitted, Refit}
use Rattle.refit.proofs.Fitting.{refit_done}
use Rattle.refit.proofs.Moving.{OnlyCorner, EdgesOf, moved_beyond, moved_rest, moved_sound}
use Rattle.model.specs.Prepared.{EdgeOf}
use Rattle.model.proofs.Corners.{corner_other}
use Rattle.placing.specs.Ways.{CorrectionSound, WaysFound}
use Rattle.placing.specs.Places.{Placed, AboveEdges, MadeAt}

module _ (n count : ℕ) (corners : List ℤ) (rings : List ℕ) (boxes : List (List ℤ)) (parts : List (List ℕ)) (edges : List ℕ) (i : ℕ) (path stops path₂ stops₂ : List ℕ) (depth depth₂ : ℕ) (W : WaysFound n count corners rings boxes parts edges i path stops path₂ stops₂ depth depth₂) where
  module _ (place : Point) (corners' : List ℤ) (boxes' : List (List ℤ)) (P : Placed i place corners boxes parts edges path stops path₂ stops₂ depth depth₂ corners' boxes') where
    abbrev between : List (List ℤ)
    between = refitted corners' boxes parts edges path stops depth

    first : Refit n corners' boxes parts edges path stops depth between
    first = refit_done corners' boxes parts edges path stops depth n W.one.fine between refl

    second : Refit n corners' between parts edges path₂ stops₂ depth₂ boxes'
    second = refit_done corners' between parts edges path₂ stops₂ depth₂ n W.other.fine boxes' P.boxes_are

    only : OnlyCorner n i corners corners'
    only j l d = ap (λ (c : List ℤ). corner_at c j) P.corners_are ∙ corner_other corners i place j d

    module _ (S : CorrectionSound n count corners rings boxes parts edges) where
      stand : EdgesOf n rings edges i W.at.after W.at.before
      stand = record { start_place = W.places.start_place; stop_place = W.places.stop_place; starts = W.places.starts; stops = W.places.stops S.ends }

      sound : IndexSound n corners' rings boxes' parts edges
      sound = moved_sound n count corners rings boxes parts edges S.ends S.index W.at.after W.at.before path stops depth W.one path₂ stops₂ depth₂ W.other corners' between boxes' first second i only stand

      -- the nodes on the two paths have one of the corner's edges among their edges
      above : (p k : ℕ) → p < node_count n → Holds parts p k → EdgeOf n rings i (get_or edges k 0) → AboveEdges n rings parts edges i p
      above p k l H E = record { node = l; at = k; from = H.from; to = H.to; touched = E }

      rest : (p : ℕ) → (AboveEdges n rings parts edges i p → ⊥) → get_or boxes' p [] ≡ get_or boxes p []
      rest p off = go (dec_lt p (node_count n))
        where
          inside : (k : ℕ) → k < n → get_or edges k 0 < n
          inside = edge_in n corners rings boxes parts edges S.index

          go : Dec (p < node_count n) → get_or boxes' p [] ≡ get_or boxes p []
          go (yes l) =
              moved_rest n count corners rings boxes parts edges S.ends S.index W.at.after W.at.before path stops depth W.one path₂ stops₂ depth₂ W.other corners' between boxes' first second p
              (λ H. off (above p W.at.after l H (record { edge = inside W.at.after W.places.start_place; end = inl W.places.starts })))
              (λ H. off (above p W.at.before l H (record { edge = inside W.at.before W.places.stop_place; end = inr (W.places.stops S.ends) })))
          go (no l) = moved_beyond n count corners rings boxes parts edges S.ends S.index W.at.after W.at.before path stops depth W.one path₂ stops₂ depth₂ W.other corners' between boxes' first second p (omega arith)

    pub placed_made : (old : Point) → old ≡ corner_at corners i → i < 2 ^ 63 → MadeAt n count rings parts edges i place corners boxes corners' boxes' old
    placed_made old e h = record {
      number = refl;
      enough = record {
        corners_reach = W.places.corners_reach;
        rings_reach = W.one.lent.rings_reach;
        boxes_reach = W.places.boxes_reach;
        parts_reach = W.one.lent.parts_reach;
        edges_reach = W.one.lent.edges_reach;
      };
      one = W.places.one;
      named = h;
      old_is = e;
      corners_are = P.corners_are;
      boxes_long = second.long ∙ first.long;
      sound = sound;
      rest = rest;
    }
