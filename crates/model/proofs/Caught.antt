-- Wrong engines that the contracts of the calls rule out, whatever their code is. An engine gives each call on each prepared plan an
-- answer and what it leaves; it meets the contracts if that is a step. Assumes nothing.
use mathlib.Core.Path.{◌≡◌, refl, sym, ap, ◌∙◌, subst}
use mathlib.Core.Bool.{Bool, true, false, cond}
use mathlib.Core.List.{List, [], ◌∷◌}
use Prim.Native.Nat.{ℕ, ◌+◌, ◌-◌, ◌*◌, ◌^◌, ◌<◌}
use native.Mathlib.Omega.{arith}
use lib.IntN.{ℤ, pos, nat_abs}
use lib.ListN.{length, get_or}
use Rattle.geom.specs.declared.Point.{Point}
use Rattle.geom.specs.Boxes.{holds_rect}
use Rattle.geom.specs.Range.{in_range}
use Rattle.predicates.specs.Turn.{orientation, on_segment}
use Rattle.rules.specs.declared.Location.{Location}
use Rattle.rules.specs.declared.Location.TheVariants.{Outside, Inside}
use Rattle.rules.specs.declared.Refusal.{Refusal}
use Rattle.rules.specs.declared.Refusal.TheVariants.{PlaceOutOfRange, UndoFull, NothingToUndo, Unsound}
use Rattle.rules.specs.declared.State.{State}
use Rattle.rules.specs.Edges.{edges_from, edges_of, all_edges, edge_winding, winding, on_edge}
use Rattle.rules.specs.Lists.{any_of, count_of, sum_of, parts_of}
use Rattle.rules.specs.Nodes.{node_count}
use Rattle.rules.specs.Plans.{corner_at, corners_of, rings_of, polygons_of, all_in_range, plan_in_range, plan_reply, plan_half_reply}
use Rattle.rules.specs.Replies.{ring_reply, holes_reply, polygon_reply, list_reply, doubled_edges, half_reply}
use Rattle.rules.specs.Tables.{lengths_from, plan_of}
use Rattle.rules.proofs.Nodes.{node_count_leaf}
use Rattle.boxes.specs.Boxes.{edge_box, box_of, rect_at, row_of}
use Rattle.boxes.specs.Rings.{next_from, next_corner, edge_of}
use Rattle.index.specs.Parts.{first_at, count_at}
use Rattle.index.specs.Sound.{Smallest}
use Rattle.model.specs.declared.Answer.{Answer}
use Rattle.model.specs.declared.Answer.TheVariants.{At, Accepted, Refused}
use Rattle.model.specs.declared.Call.{Call}
use Rattle.model.specs.declared.Call.TheVariants.{Move, Undo, Locate, LocateDoubled}
use Rattle.model.specs.Entries.{put_corner, put_back, entry_in, is_recorded}
use Rattle.model.specs.Prepared.{Prepared, plan_held, Sound}
use Rattle.model.specs.Steps.{refusing, early, Corrected, moved_state, Moves, TakesBack, is_look_up, Step, Open}
use Rattle.model.proofs.Corners.{corner_put, corner_other}
use Rattle.model.proofs.Ways.{true_false, at_refused, accepted_refused, always_recorded, early_move}
use Rattle.model.proofs.Worked.{at, tables, fresh, two_moves, moved_twice}

pub record Given : Type 0 where
  pub answer : Answer
  pub left : Prepared

abbrev pub Engine : Type 0
Engine = Call → Prepared → Given

abbrev pub Meets : Engine → Type 0
Meets f = (call : Call) (d : Prepared) → Step call d (f call d).answer (f call d).left

-- ---- what the contracts say of a correction on sound tables

state_corners : (recorded : Bool) (state : State) → (moved_state recorded state).corners ≡ state.corners
state_corners true state = refl
state_corners false state = refl

-- every node's box is the smallest for the corners now standing
boxes_refit : (i : ℕ) (place : Point) (d d' : Prepared) → Corrected i (put_corner d.corners i place) d d' → d'.state.corners ≡ d.state.corners → (p : ℕ) → p < node_count d.state.corners
    → get_or d'.boxes p [] ≡ row_of (box_of (put_corner d.corners i place) d.rings d.edges (first_at d.parts p) (count_at d.parts p))
unfolding Smallest
boxes_refit i place d d' w e p h =
    w.sound.index.smallest p (subst (λ n. p < node_count n) (sym e) h)
    ∙ (λ t. row_of (box_of (w.corners t) (w.rings t) (w.edges t) (first_at (w.parts t) p) (count_at (w.parts t) p)))

module _ (f : Engine) (meets : Meets f) (i : ℕ) (place : Point) (d : Prepared) (s : Sound d) (o : early (Move i place) d ≡ Open) where
  moves : Moves i place d (f (Move i place) d).answer (f (Move i place) d).left
  moves = (meets (Move i place) d).does s o

  -- the corner stands at the new place, every other number of the corner table stays, and the boxes are the smallest again
  pub moved_there : 2 * i + 1 < length d.corners → corner_at (f (Move i place) d).left.corners i ≡ place
  moved_there h = ap (λ (l : List ℤ). corner_at l i) moves.corrected.corners ∙ corner_put d.corners i place h

  pub neighbours_stay : (j : ℕ) → (j ≡ i → ⊥) → corner_at (f (Move i place) d).left.corners j ≡ corner_at d.corners j
  neighbours_stay j n = ap (λ (l : List ℤ). corner_at l j) moves.corrected.corners ∙ corner_other d.corners i place j n

  pub boxes_after : (p : ℕ) → p < node_count d.state.corners → get_or (f (Move i place) d).left.boxes p [] ≡ row_of (box_of (put_corner d.corners i place) d.rings d.edges (first_at d.parts p) (count_at d.parts p))
  boxes_after p h =
      boxes_refit i place d (f (Move i place) d).left moves.corrected (ap (λ (t : State). t.corners) moves.state ∙ state_corners (is_recorded (corner_at d.corners i) place) d.state) p h

-- ---- engines: each is ruled out by one triangle, just prepared or with two moves made
abbrev first : Prepared
first = tables (pos 10) 0 two_moves

abbrev later : Prepared
later = tables (pos 30) 2 two_moves

open_first : (x : ℤ) → in_range (at x (pos 0)) ≡ true → early (Move 1 (at x (pos 0))) first ≡ Open
open_first x h = early_move first 1 (at x (pos 0)) ∙ ap (λ b. cond b Open (refusing PlaceOutOfRange)) h

wider : (f : Engine) → Meets f → get_or (f (Move 1 (at (pos 20) (pos 0))) first).left.boxes 0 [] ≡ pos 0 ∷ pos 0 ∷ pos 20 ∷ pos 10 ∷ []
unfolding box_of edge_box edge_of next_corner next_from
wider f meets = boxes_after f meets 1 (at (pos 20) (pos 0)) first (fresh two_moves).sound (open_first (pos 20) refl) 0 (omega (arith, node_count_leaf 3 (omega arith)))

narrower : (f : Engine) → Meets f → get_or (f (Move 1 (at (pos 1) (pos 0))) first).left.boxes 0 [] ≡ pos 0 ∷ pos 0 ∷ pos 1 ∷ pos 10 ∷ []
unfolding box_of edge_box edge_of next_corner next_from
narrower f meets = boxes_after f meets 1 (at (pos 1) (pos 0)) first (fresh two_moves).sound (open_first (pos 1) refl) 0 (omega (arith, node_count_leaf 3 (omega arith)))

moved_first : (f : Engine) → Meets f → Moves 1 (at (pos 20) (pos 0)) first (f (Move 1 (at (pos 20) (pos 0))) first).answer (f (Move 1 (at (pos 20) (pos 0))) first).left
moved_first f meets = moves f meets 1 (at (pos 20) (pos 0)) first (fresh two_moves).sound (open_first (pos 20) refl)

taken_later : (f : Engine) → Meets f → TakesBack later (f Undo later).answer (f Undo later).left
taken_later f meets = (meets Undo later).does moved_twice refl

-- a move that does nothing, and one merely acknowledged
pub move_does_nothing : (f : Engine) → Meets f → ((i : ℕ) (place : Point) (d : Prepared) → (f (Move i place) d).left.corners ≡ d.corners) → ⊥
move_does_nothing f meets wrong = let e = ap (λ (l : List ℤ). nat_abs (get_or l 2 (pos 0))) (sym (moved_first f meets).corrected.corners ∙ wrong 1 (at (pos 20) (pos 0)) first) in omega arith

pub moves_acknowledged : (f : Engine) → Meets f → ((i : ℕ) (place : Point) (d : Prepared) → (f (Move i place) d).left ≡ d) → ⊥
moves_acknowledged f meets wrong = move_does_nothing f meets (λ i place d. ap (λ (v : Prepared). v.corners) (wrong i place d))

-- boxes right at preparing, and never again
pub boxes_as_prepared : (f : Engine) → Meets f → ((i : ℕ) (place : Point) (d : Prepared) → (f (Move i place) d).left.boxes ≡ d.boxes) → ⊥
boxes_as_prepared f meets wrong =
    let e = ap (λ (row : List ℤ). nat_abs (get_or row 2 (pos 0))) (sym (wider f meets) ∙ ap (λ (l : List (List ℤ)). get_or l 0 []) (wrong 1 (at (pos 20) (pos 0)) first)) in
    omega arith

-- boxes widened and never narrowed
pub never_narrowed : (f : Engine) → Meets f → ((i : ℕ) (place : Point) (d : Prepared) (p : ℕ) → holds_rect (rect_at (f (Move i place) d).left.boxes p) (rect_at d.boxes p) ≡ true) → ⊥
never_narrowed f meets wrong =
    true_false (sym (wrong 1 (at (pos 1) (pos 0)) first 0) ∙ ap (λ (row : List ℤ). holds_rect (record { min = at (get_or row 0 (pos 0)) (get_or row 1 (pos 0)); max = at (get_or row 2 (pos 0)) (get_or row 3 (pos 0)) }) (rect_at first.boxes 0)) (narrower f meets))

-- a neighbour's corner written
pub neighbour_written : (f : Engine) → Meets f → ((i : ℕ) (place : Point) (d : Prepared) → (f (Move i place) d).left.corners ≡ put_corner d.corners (i + 1) place) → ⊥
neighbour_written f meets wrong = let e = ap (λ (l : List ℤ). nat_abs (get_or l 2 (pos 0))) (sym (moved_first f meets).corrected.corners ∙ wrong 1 (at (pos 20) (pos 0)) first) in omega arith

-- undo that restores the place before last, that keeps the record, that does nothing
pub place_before_last : (f : Engine) → Meets f → ((d : Prepared) → (f Undo d).left.corners ≡ put_back d.corners (entry_in (get_or d.undo (d.state.undo_depth - 2) []))) → ⊥
place_before_last f meets wrong = let e = ap (λ (l : List ℤ). nat_abs (get_or l 2 (pos 0))) (sym (taken_later f meets).corrected.corners ∙ wrong later) in omega arith

pub record_kept : (f : Engine) → Meets f → ((d : Prepared) → (f Undo d).left.state.undo_depth ≡ d.state.undo_depth) → ⊥
record_kept f meets wrong = let e = sym (ap (λ (t : State). t.undo_depth) (taken_later f meets).state) ∙ wrong later in omega arith

pub undo_does_nothing : (f : Engine) → Meets f → ((d : Prepared) → (f Undo d).left.corners ≡ d.corners) → ⊥
undo_does_nothing f meets wrong = let e = ap (λ (l : List ℤ). nat_abs (get_or l 2 (pos 0))) (sym (taken_later f meets).corrected.corners ∙ wrong later) in omega arith

-- no record of a move
pub record_not_made : (f : Engine) → Meets f → ((i : ℕ) (place : Point) (d : Prepared) → (f (Move i place) d).left.state ≡ d.state) → ⊥
record_not_made f meets wrong =
    let e = ap (λ (t : State). t.undo_depth) (sym ((moved_first f meets).state ∙ ap (λ r. moved_state r first.state) (always_recorded (at (pos 10) (pos 0)) (at (pos 20) (pos 0)))) ∙ wrong 1 (at (pos 20) (pos 0)) first) in
    omega arith

-- 13 or 14 before looking, and refusal throughout
pub full_before_looking : (f : Engine) → Meets f → ((i : ℕ) (place : Point) (d : Prepared) → (f (Move i place) d).answer ≡ Refused UndoFull) → ⊥
full_before_looking f meets wrong = accepted_refused UndoFull (sym (moved_first f meets).answer ∙ wrong 1 (at (pos 20) (pos 0)) first)

pub nothing_before_looking : (f : Engine) → Meets f → ((d : Prepared) → (f Undo d).answer ≡ Refused NothingToUndo) → ⊥
nothing_before_looking f meets wrong = accepted_refused NothingToUndo (sym (taken_later f meets).answer ∙ wrong later)

pub refusal_throughout : (f : Engine) → Meets f → ((call : Call) (d : Prepared) → (refusal : Refusal) × ((f call d).answer ≡ Refused refusal)) → ⊥
refusal_throughout f meets wrong = let w = wrong Undo later in accepted_refused w.0 (sym (taken_later f meets).answer ∙ w.1)

-- and nothing refused
pub nothing_refused : (f : Engine) → Meets f → ((d : Prepared) → (f Undo d).answer ≡ Accepted) → ⊥
nothing_refused f meets wrong = accepted_refused NothingToUndo (sym (wrong first) ∙ ((meets Undo first).settled (Refused NothingToUndo) refl).0)

-- 15 never given: a corner table that is too short, and a latest record that names no corner, or a place out of range
abbrev without_corners : Prepared → Prepared
without_corners d = record { state = d.state; corners = []; rings = d.rings; polygons = d.polygons; boxes = d.boxes; parts = d.parts; edges = d.edges; undo = d.undo }

pub short_moved : (f : Engine) → Meets f → (f (Move 1 (at (pos 20) (pos 0))) (without_corners first)).answer ≡ Accepted → ⊥
short_moved f meets wrong =
    accepted_refused Unsound (sym wrong ∙ (meets (Move 1 (at (pos 20) (pos 0))) (without_corners first)).short (early_move (without_corners first) 1 (at (pos 20) (pos 0))) (λ R. let h = R.corners in omega arith))

pub short_undone : (f : Engine) → Meets f → (f Undo (without_corners later)).answer ≡ Accepted → ⊥
short_undone f meets wrong = accepted_refused Unsound (sym wrong ∙ (meets Undo (without_corners later)).short refl (λ R. let h = R.corners in omega arith))

pub short_answered : (f : Engine) → Meets f → (location : Location) → (f (Locate (at (pos 1) (pos 1))) (without_corners first)).answer ≡ At location → ⊥
short_answered f meets location wrong = at_refused location Unsound (sym wrong ∙ (meets (Locate (at (pos 1) (pos 1))) (without_corners first)).short refl (λ R. let h = R.corners in omega arith))

pub short_answered_doubled : (f : Engine) → Meets f → (location : Location) → (f (LocateDoubled (at (pos 1) (pos 1))) (without_corners first)).answer ≡ At location → ⊥
short_answered_doubled f meets location wrong = at_refused location Unsound (sym wrong ∙ (meets (LocateDoubled (at (pos 1) (pos 1))) (without_corners first)).short refl (λ R. let h = R.corners in omega arith))

abbrev no_corner : Prepared
no_corner = tables (pos 30) 1 ((pos 3 ∷ pos 10 ∷ pos 0 ∷ []) ∷ [])

pub no_corner_undone : (f : Engine) → Meets f → (f Undo no_corner).answer ≡ Accepted → ⊥
no_corner_undone f meets wrong = accepted_refused Unsound (sym wrong ∙ (meets Undo no_corner).stray refl (λ N. let h : 3 < 3 = N.0 in omega arith))

abbrev far_record : Prepared
far_record = tables (pos 30) 1 ((pos 1 ∷ pos (2 ^ 40 + 1) ∷ pos 0 ∷ []) ∷ [])

pub far_record_undone : (f : Engine) → Meets f → (f Undo far_record).answer ≡ Accepted → ⊥
far_record_undone f meets wrong = accepted_refused Unsound (sym wrong ∙ (meets Undo far_record).stray refl (λ N. true_false (sym N.1)))

-- always outside, on the grid and on the half-grid
inside : plan_reply (plan_held first) (at (pos 1) (pos 1)) ≡ Inside
unfolding plan_of lengths_from orientation on_segment edges_from edges_of edge_winding winding on_edge any_of sum_of parts_of corners_of rings_of polygons_of all_in_range plan_in_range plan_reply ring_reply holes_reply polygon_reply list_reply
inside = refl

inside_doubled : plan_half_reply (plan_held first) (at (pos 1) (pos 1)) ≡ Inside
unfolding plan_of lengths_from orientation on_segment edges_from edges_of all_edges edge_winding on_edge any_of count_of parts_of corners_of rings_of all_in_range plan_in_range plan_half_reply doubled_edges half_reply
inside_doubled = refl

apart : At Inside ≡ At Outside → ⊥
apart e = let z : ◌≡◌ {A = ℕ} 0 1 = cc in omega arith

pub always_outside : (f : Engine) → Meets f → ((p : Point) (d : Prepared) → (f (Locate p) d).answer ≡ At Outside) → ⊥
always_outside f meets wrong = apart (sym (ap At inside) ∙ sym ((meets (Locate (at (pos 1) (pos 1))) first).does (fresh two_moves).sound refl) ∙ wrong (at (pos 1) (pos 1)) first)

pub always_outside_doubled : (f : Engine) → Meets f → ((p : Point) (d : Prepared) → (f (LocateDoubled p) d).answer ≡ At Outside) → ⊥
always_outside_doubled f meets wrong = apart (sym (ap At inside_doubled) ∙ sym ((meets (LocateDoubled (at (pos 1) (pos 1))) first).does (fresh two_moves).sound refl) ∙ wrong (at (pos 1) (pos 1)) first)

-- a look-up that writes
pub look_up_writes : (f : Engine) → Meets f → (call : Call) (d : Prepared) → is_look_up call ≡ true → ((f call d).left ≡ d → ⊥) → ⊥
look_up_writes f meets call d l wrong = wrong ((meets call d).looked l)
