-- The definitions at work: a plan just prepared, and what the model says of lists of calls. Assumes nothing.
use mathlib.Core.Path.{◌≡◌, refl, sym, subst}
use mathlib.Core.Bool.{true, false}
use mathlib.Core.List.{List, [], ◌∷◌, map}
use Prim.Native.Nat.{ℕ, zero, suc, ◌<◌}
use native.Mathlib.Omega.{arith}
use lib.Dec.{eqb}
use lib.IntN.{ℤ, pos, negsuc}
use lib.ListN.{get_or}
use Rattle.geom.specs.declared.Point.{Point}
use Rattle.geom.specs.Range.{in_range}
use Rattle.predicates.specs.Turn.{orientation, on_segment}
use Rattle.rules.specs.declared.Kind.TheVariants.{Polygons}
use Rattle.rules.specs.Edges.{edges_from, edges_of, all_edges, edge_winding, winding, on_edge}
use Rattle.rules.specs.Lists.{any_of, count_of, sum_of, total, parts_of}
use Rattle.rules.specs.Nodes.{node_count}
use Rattle.rules.specs.Plans.{Plan, corners_of, rings_of, polygons_of, too_many, uneven, plan_verdict, all_in_range, plan_in_range}
use Rattle.rules.specs.Replies.{ring_reply, holes_reply, polygon_reply, list_reply, doubled_edges, half_reply}
use Rattle.rules.specs.Tables.{ends_from, lengths_from, plan_of}
use Rattle.rules.proofs.Nodes.{node_count_leaf}
use Rattle.boxes.specs.Boxes.{edge_box, box_of}
use Rattle.boxes.specs.Rings.{next_from, next_corner, edge_of}
use Rattle.index.specs.Parts.{count_at, Laid}
use Rattle.index.specs.Parts.Laid.{leaf}
use Rattle.index.specs.Sound.{Smallest}
use Rattle.model.specs.declared.Call.{Call}
use Rattle.model.specs.declared.Call.TheVariants.{Move, Undo, Locate, LocateDoubled}
use Rattle.model.specs.Entries.{entry_in, is_recorded}
use Rattle.model.specs.Numbers.{answer_number}
use Rattle.model.specs.Model.{model_call, answers_from, model_answers}
use Rattle.model.specs.Prepared.{Prepared, prepared_of, plan_held, UndoSound, Sound}
use Rattle.model.specs.Demand.{Fresh}
use Rattle.rules.specs.Answering.{Accepted}

abbrev pub at : ℤ → ℤ → Point
at x y = record { x = x; y = y }

-- ---- (0,0) (x,0) (0,10) with its tables: one node, three edges
abbrev pub tables : ℤ → ℕ → List (List ℤ) → Prepared
tables x depth undo =
    prepared_of (record { kind = Polygons; out_of_range = false; corners = 3; rings = 1; polygons = 1; undo_depth = depth }) (pos 0 ∷ pos 0 ∷ x ∷ pos 0 ∷ pos 0 ∷ pos 10 ∷ []) (3 ∷ []) (1 ∷ [])
    ((pos 0 ∷ pos 0 ∷ x ∷ pos 10 ∷ []) ∷ []) ((0 ∷ 3 ∷ 0 ∷ []) ∷ []) (0 ∷ 1 ∷ 2 ∷ []) undo

module _ (x : ℤ) (depth : ℕ) (undo : List (List ℤ)) where
  accepted : plan_verdict (plan_held (tables x depth undo)) ≡ Accepted
  unfolding plan_of lengths_from any_of total too_many uneven plan_verdict
  accepted = refl

  rising : ends_from 0 (lengths_from 0 (3 ∷ [])) ≡ 3 ∷ []
  unfolding ends_from lengths_from
  rising = refl

  one : ends_from 0 (lengths_from 0 (1 ∷ [])) ≡ 1 ∷ []
  unfolding ends_from lengths_from
  one = refl

  one_node : node_count 3 ≡ 1
  one_node = node_count_leaf 3 (omega arith)

  once : (e : ℕ) → e < 3 → count_of (λ k. eqb k e) (0 ∷ 1 ∷ 2 ∷ []) ≡ 1
  unfolding count_of
  once zero h = refl
  once (suc zero) h = refl
  once (suc (suc zero)) h = refl
  once (suc (suc (suc e))) h = absurd (let z : ⊥ = omega arith in z)

  -- sound, given that x is in range, that the box is the smallest, and the undo records
  pub tables_sound : plan_in_range (plan_held (tables x depth undo)) ≡ true → Smallest (tables x depth undo).corners (3 ∷ []) (0 ∷ 1 ∷ 2 ∷ []) ((0 ∷ 3 ∷ 0 ∷ []) ∷ []) (tables x depth undo).boxes 0 → UndoSound (tables x depth undo).state undo → Sound (tables x depth undo)
  tables_sound near box records = record {
    plan = record {
      corners_reach = omega arith;
      rings_reach = omega arith;
      polygons_reach = omega arith;
      ring_ends = rising;
      polygon_ends = one;
      passes = accepted;
      near = near;
    };
    index = record {
      boxes_reach = omega (arith, one_node);
      parts_reach = omega (arith, one_node);
      edges_reach = omega arith;
      places = subst (Laid ((0 ∷ 3 ∷ 0 ∷ []) ∷ []) 0 1) (sym one_node) (leaf (omega arith));
      root_first = refl;
      root_count = refl;
      halves = λ p l big. absurd (leaf_only p (subst (λ n. p < n) one_node l) big);
      each_once = once;
      smallest = λ p l. only p (subst (λ n. p < n) one_node l);
    };
    records = records;
  }
    where
      leaf_only : (p : ℕ) → p < 1 → 8 < count_at ((0 ∷ 3 ∷ 0 ∷ []) ∷ []) p → ⊥
      leaf_only zero l big = omega arith
      leaf_only (suc p) l big = omega arith

      only : (p : ℕ) → p < 1 → Smallest (tables x depth undo).corners (3 ∷ []) (0 ∷ 1 ∷ 2 ∷ []) ((0 ∷ 3 ∷ 0 ∷ []) ∷ []) (tables x depth undo).boxes p
      only zero l = box
      only (suc p) l = absurd (let z : ⊥ = omega arith in z)

-- x = 10, just prepared, whatever stands in the undo table
near_10 : (depth : ℕ) (undo : List (List ℤ)) → plan_in_range (plan_held (tables (pos 10) depth undo)) ≡ true
unfolding plan_of any_of corners_of all_in_range plan_in_range
near_10 depth undo = refl

box_10 : (depth : ℕ) (undo : List (List ℤ)) → Smallest (tables (pos 10) depth undo).corners (3 ∷ []) (0 ∷ 1 ∷ 2 ∷ []) ((0 ∷ 3 ∷ 0 ∷ []) ∷ []) (tables (pos 10) depth undo).boxes 0
unfolding Smallest box_of edge_box edge_of next_corner next_from
box_10 depth undo = refl

pub fresh : (undo : List (List ℤ)) → Fresh (tables (pos 10) 0 undo)
fresh undo = record {
  sound = tables_sound (pos 10) 0 undo (near_10 0 undo) (box_10 0 undo) (record { reach = omega arith; corner = λ k l. absurd (let z : ⊥ = omega arith in z); place = λ k l. absurd (let z : ⊥ = omega arith in z) });
  unmarked = refl;
  nothing = refl;
}

-- x = 30, corner 1 moved there from 10 by way of 20
abbrev pub two_moves : List (List ℤ)
two_moves = (pos 1 ∷ pos 10 ∷ pos 0 ∷ []) ∷ (pos 1 ∷ pos 20 ∷ pos 0 ∷ []) ∷ []

near_30 : plan_in_range (plan_held (tables (pos 30) 2 two_moves)) ≡ true
unfolding plan_of any_of corners_of all_in_range plan_in_range
near_30 = refl

box_30 : Smallest (tables (pos 30) 2 two_moves).corners (3 ∷ []) (0 ∷ 1 ∷ 2 ∷ []) ((0 ∷ 3 ∷ 0 ∷ []) ∷ []) (tables (pos 30) 2 two_moves).boxes 0
unfolding Smallest box_of edge_box edge_of next_corner next_from
box_30 = refl

pub moved_twice : Sound (tables (pos 30) 2 two_moves)
moved_twice = tables_sound (pos 30) 2 two_moves near_30 box_30 (record { reach = omega arith; corner = corner; place = place })
  where
    corner : (k : ℕ) → k < 2 → (entry_in (get_or two_moves k [])).corner < 3
    corner zero l = omega arith
    corner (suc zero) l = omega arith
    corner (suc (suc k)) l = absurd (let z : ⊥ = omega arith in z)

    place : (k : ℕ) → k < 2 → in_range (entry_in (get_or two_moves k [])).place ≡ true
    place zero l = refl
    place (suc zero) l = refl
    place (suc (suc k)) l = absurd (let z : ⊥ = omega arith in z)

-- ---- what the model says, each answer by its number
abbrev polygon : List ℤ → ℕ → Plan
polygon coordinates n = record { kind = Polygons; coordinates = coordinates; lengths = n ∷ []; counts = 1 ∷ [] }

abbrev triangle : Plan
triangle = polygon (pos 0 ∷ pos 0 ∷ pos 10 ∷ pos 0 ∷ pos 0 ∷ pos 10 ∷ []) 3

abbrev said : Plan → ℕ → List Call → List ℤ
said plan lent calls = map answer_number (model_answers plan lent calls)

-- room for one record: 5 before 6, 6 before 13, 13, and an undo that makes room
one_record : said triangle 1
    (Locate (at (pos 9) (pos 1)) ∷ Move 3 (at (pos 0) (pos 1099511627777)) ∷ Move 1 (at (pos 5) (pos 0)) ∷ Move 0 (at (pos 1) (pos 1)) ∷ Move 0 (at (pos 0) (pos 1099511627777))
    ∷ Locate (at (pos 9) (pos 1)) ∷ Locate (at (pos 5) (pos 0)) ∷ Undo ∷ Undo ∷ Locate (at (pos 9) (pos 1)) ∷ Move 0 (at (pos 1) (pos 1)) ∷ [])
    ≡ pos 2 ∷ negsuc 4 ∷ pos 3 ∷ negsuc 12 ∷ negsuc 5 ∷ pos 0 ∷ pos 2 ∷ pos 3 ∷ negsuc 13 ∷ pos 2 ∷ pos 3 ∷ []
unfolding orientation on_segment edges_from edges_of edge_winding winding on_edge any_of sum_of parts_of corners_of rings_of polygons_of ring_reply holes_reply polygon_reply list_reply is_recorded model_call answers_from
one_record = refl

-- no room at all
no_record : said triangle 0 (Move 1 (at (pos 5) (pos 0)) ∷ Undo ∷ Locate (at (pos 9) (pos 1)) ∷ []) ≡ negsuc 12 ∷ negsuc 13 ∷ pos 2 ∷ []
unfolding orientation on_segment edges_from edges_of edge_winding winding on_edge any_of sum_of parts_of corners_of rings_of polygons_of ring_reply holes_reply polygon_reply list_reply is_recorded model_call answers_from
no_record = refl

-- a move in place takes a record; undos give back the latest place first
in_place : said triangle 3
    (Move 1 (at (pos 20) (pos 0)) ∷ Move 1 (at (pos 20) (pos 0)) ∷ Move 1 (at (pos 30) (pos 0)) ∷ Move 1 (at (pos 40) (pos 0)) ∷ Undo ∷ Locate (at (pos 20) (pos 0)) ∷ Locate (at (pos 21) (pos 0)) ∷ Undo ∷ Undo
    ∷ Locate (at (pos 11) (pos 0)) ∷ Undo ∷ [])
    ≡ pos 3 ∷ pos 3 ∷ pos 3 ∷ negsuc 12 ∷ pos 3 ∷ pos 2 ∷ pos 0 ∷ pos 3 ∷ pos 3 ∷ pos 0 ∷ negsuc 13 ∷ []
unfolding orientation on_segment edges_from edges_of edge_winding winding on_edge any_of sum_of parts_of corners_of rings_of polygons_of ring_reply holes_reply polygon_reply list_reply is_recorded model_call answers_from
in_place = refl

-- a square gone round twice: inside on the grid, outside by the half-grid's even-odd rule; points out of range are outside
twice : said (polygon (pos 0 ∷ pos 0 ∷ pos 10 ∷ pos 0 ∷ pos 10 ∷ pos 10 ∷ pos 0 ∷ pos 10 ∷ pos 0 ∷ pos 0 ∷ pos 10 ∷ pos 0 ∷ pos 10 ∷ pos 10 ∷ pos 0 ∷ pos 10 ∷ []) 8) 0
    (Locate (at (pos 5) (pos 5)) ∷ LocateDoubled (at (pos 10) (pos 10)) ∷ LocateDoubled (at (pos 20) (pos 1)) ∷ Locate (at (pos 1099511627777) (pos 5)) ∷ LocateDoubled (at (pos 2199023255553) (pos 5)) ∷ [])
    ≡ pos 1 ∷ pos 0 ∷ pos 2 ∷ pos 0 ∷ pos 0 ∷ []
unfolding orientation on_segment edges_from edges_of all_edges edge_winding winding on_edge any_of count_of sum_of parts_of corners_of rings_of polygons_of ring_reply holes_reply polygon_reply list_reply doubled_edges half_reply model_call answers_from
twice = refl
