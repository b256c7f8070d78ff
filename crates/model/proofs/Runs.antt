-- From every plan just prepared in range, and for every list of calls, there is a run: the theorem speaks of something. A correction
-- may leave every node's box set to the smallest round its edges. Assumes nothing.
use mathlib.Core.Path.{◌≡◌, refl, sym, ap, ◌∙◌}
use mathlib.Core.Logic.{inl, inr}
use mathlib.Core.List.{List, [], ◌∷◌}
use Prim.Native.Nat.{ℕ, zero, suc, ◌+◌, ◌≤◌, ◌<◌}
use native.Mathlib.Decide.{ℕ_discrete, dec_lt}
use native.Mathlib.Omega.{arith}
use lib.IntN.{ℤ}
use lib.ListN.{length, get_or, set, length-set}
use lib.Seq.{get_or-set_same, get_or-set_other}
use Rattle.geom.specs.declared.Point.{Point}
use Rattle.rules.specs.Nodes.{node_count}
use Rattle.rules.specs.Plans.{plan_reply, plan_half_reply}
use Rattle.boxes.specs.Boxes.{edge_box, box_of, row_of}
use Rattle.boxes.proofs.Unions.{box_same}
use Rattle.index.specs.Parts.{first_at, count_at}
use Rattle.index.specs.Sound.{Smallest}
use Rattle.index.proofs.Soundness.{part_inside, edge_in}
use Rattle.model.specs.declared.Answer.{Answer}
use Rattle.model.specs.declared.Answer.TheVariants.{At, Accepted}
use Rattle.model.specs.declared.Call.{Call}
use Rattle.model.specs.declared.Call.TheVariants.{Move, Undo, Locate, LocateDoubled}
use Rattle.model.specs.Entries.{put_corner}
use Rattle.model.specs.Prepared.{Prepared, plan_held, Sound, Above}
use Rattle.model.specs.Steps.{early, latest, Step, Early, Open, Settled}
use Rattle.model.specs.Demand.{Turn, calls_of, Run, Fresh}
use Rattle.model.proofs.Corners.{edge_other}
use Rattle.model.proofs.Ways.{at_refused, settled_step, done_step, accepted_step, sound_reaches, sound_names, open_undo}
use Rattle.model.proofs.Tables.{moved_to, Refitted, moved_does, taken_back, taken_does}

-- ---- every node's box set to the smallest
module _ (corners : List ℤ) (rings : List ℕ) (parts : List (List ℕ)) (edges : List ℕ) where
  smallest_row : ℕ → List ℤ
  smallest_row p = row_of (box_of corners rings edges (first_at parts p) (count_at parts p))

  fitted : ℕ → List (List ℤ) → List (List ℤ)
  fitted zero boxes = boxes
  fitted (suc k) boxes = set (fitted k boxes) k (smallest_row k)

  fitted_long : (k : ℕ) (boxes : List (List ℤ)) → length (fitted k boxes) ≡ length boxes
  unfolding fitted
  fitted_long zero boxes = refl
  fitted_long (suc k) boxes = length-set (fitted k boxes) k (smallest_row k) ∙ fitted_long k boxes

  fitted_beyond : (k : ℕ) (boxes : List (List ℤ)) (p : ℕ) → k ≤ p → get_or (fitted k boxes) p [] ≡ get_or boxes p []
  unfolding fitted
  fitted_beyond zero boxes p h = refl
  fitted_beyond (suc k) boxes p h = get_or-set_other (fitted k boxes) k p (smallest_row k) [] (λ e. omega arith) ∙ fitted_beyond k boxes p (omega arith)

  fitted_below : (k : ℕ) (boxes : List (List ℤ)) (p : ℕ) → k ≤ length boxes → p < k → get_or (fitted k boxes) p [] ≡ smallest_row p
  unfolding fitted
  fitted_below zero boxes p r h = absurd (omega arith)
  fitted_below (suc k) boxes p r h = go (ℕ_discrete p k) (fitted_below k boxes p (omega arith))
    where
      go : Dec (p ≡ k) → (p < k → get_or (fitted k boxes) p [] ≡ smallest_row p) → get_or (set (fitted k boxes) k (smallest_row k)) p [] ≡ smallest_row p
      go (yes e) ih = ap (λ q. get_or (set (fitted k boxes) k (smallest_row k)) q []) e ∙ get_or-set_same (fitted k boxes) k (smallest_row k) [] (omega (arith, fitted_long k boxes)) ∙ ap smallest_row (sym e)
      go (no n) ih = get_or-set_other (fitted k boxes) k p (smallest_row k) [] n ∙ ih (omega arith)

module _ (d : Prepared) (s : Sound d) (i : ℕ) (place : Point) where
  -- a box that is not above the corner's edges is the smallest as it stands
  same_row : (p : ℕ) → p < node_count d.state.corners → (Above d i p → ⊥) → smallest_row (put_corner d.corners i place) d.rings d.parts d.edges p ≡ get_or d.boxes p []
  unfolding Smallest smallest_row
  same_row p h never =
      ap row_of (box_same d.corners (put_corner d.corners i place) d.rings d.edges d.edges (first_at d.parts p) (count_at d.parts p) each)
      ∙ sym (s.index.smallest p h)
    where
      each : (k : ℕ) → first_at d.parts p ≤ k → k < first_at d.parts p + count_at d.parts p → edge_box (put_corner d.corners i place) d.rings (get_or d.edges k 0) ≡ edge_box d.corners d.rings (get_or d.edges k 0)
      each k a b =
          let inside = part_inside d.state.corners d.corners d.rings d.boxes d.parts d.edges s.index p h in
          let known = edge_in d.state.corners d.corners d.rings d.boxes d.parts d.edges s.index k (omega arith) in
          edge_other d.corners d.rings i place (get_or d.edges k 0)
          (λ e. never (record { node = h; at = k; from = a; to = b; touched = record { edge = known; end = inl e } }))
          (λ e. never (record { node = h; at = k; from = a; to = b; touched = record { edge = known; end = inr e } }))

  refitted : List (List ℤ)
  refitted = fitted (put_corner d.corners i place) d.rings d.parts d.edges (node_count d.state.corners) d.boxes

  refitted_smallest : (p : ℕ) → p < node_count d.state.corners → Smallest (put_corner d.corners i place) d.rings d.edges d.parts refitted p
  unfolding Smallest smallest_row refitted
  refitted_smallest p h = fitted_below (put_corner d.corners i place) d.rings d.parts d.edges (node_count d.state.corners) d.boxes p s.index.boxes_reach h

  refitted_fits : Refitted d i (put_corner d.corners i place) refitted
  unfolding refitted
  refitted_fits = record {
    long = long;
    kept = λ p never. kept p never (dec_lt p (node_count d.state.corners));
    index = record {
      boxes_reach = omega (arith, long, s.index.boxes_reach);
      parts_reach = s.index.parts_reach;
      edges_reach = s.index.edges_reach;
      places = s.index.places;
      root_first = s.index.root_first;
      root_count = s.index.root_count;
      halves = s.index.halves;
      each_once = s.index.each_once;
      smallest = refitted_smallest;
    };
  }
    where
      corners : List ℤ
      corners = put_corner d.corners i place

      long : length (fitted (put_corner d.corners i place) d.rings d.parts d.edges (node_count d.state.corners) d.boxes) ≡ length d.boxes
      long = fitted_long corners d.rings d.parts d.edges (node_count d.state.corners) d.boxes

      kept : (p : ℕ) → (Above d i p → ⊥) → Dec (p < node_count d.state.corners) → get_or (fitted (put_corner d.corners i place) d.rings d.parts d.edges (node_count d.state.corners) d.boxes) p [] ≡ get_or d.boxes p []
      kept p never (yes h) = fitted_below corners d.rings d.parts d.edges (node_count d.state.corners) d.boxes p s.index.boxes_reach h ∙ same_row p h never
      kept p never (no h) = fitted_beyond corners d.rings d.parts d.edges (node_count d.state.corners) d.boxes p (omega arith)

-- ---- a step for every call
record Next (call : Call) (d : Prepared) : Type 0 where
  answer : Answer
  left : Prepared
  step : Step call d answer left
  sound : Sound left

stays : (call : Call) (d : Prepared) (a : Answer) → Sound d → early call d ≡ Settled a → Next call d
stays call d a s e = record { answer = a; left = d; step = settled_step call d a e; sound = s }

next : (call : Call) (d : Prepared) → Sound d → Next call d
next (Move i place) d s = go (early (Move i place) d) refl
  where
    go : (e : Early) → early (Move i place) d ≡ e → Next (Move i place) d
    go (Settled a) e = stays (Move i place) d a s e
    go Open e =
        let w = moved_does d s i place (refitted d s i place) (refitted_fits d s i place) e in
        record {
          answer = Accepted;
          left = moved_to d i place (refitted d s i place);
          step = accepted_step (Move i place) d (moved_to d i place (refitted d s i place)) e refl (sound_reaches (Move i place) d s) tt (λ t. w);
          sound = w.corrected.sound;
        }
next Undo d s = go (early Undo d) refl
  where
    go : (e : Early) → early Undo d ≡ e → Next Undo d
    go (Settled a) e = stays Undo d a s e
    go Open e =
        let boxes = refitted d s (latest d).corner (latest d).place in
        let w = taken_does d s boxes (refitted_fits d s (latest d).corner (latest d).place) e in
        record { answer = Accepted; left = taken_back d boxes; step = accepted_step Undo d (taken_back d boxes) e refl (sound_reaches Undo d s) (sound_names d s (open_undo d.state e).1) (λ t. w); sound = w.corrected.sound }
next (Locate p) d s = go (early (Locate p) d) refl
  where
    go : (e : Early) → early (Locate p) d ≡ e → Next (Locate p) d
    go (Settled a) e = stays (Locate p) d a s e
    go Open e = record { answer = At (plan_reply (plan_held d) p); left = d; step = done_step (Locate p) d (At (plan_reply (plan_held d) p)) d e (at_refused (plan_reply (plan_held d) p)) (λ l. refl) (λ n. n (sound_reaches (Locate p) d s)) tt (λ t. refl); sound = s }
next (LocateDoubled p) d s = go (early (LocateDoubled p) d) refl
  where
    go : (e : Early) → early (LocateDoubled p) d ≡ e → Next (LocateDoubled p) d
    go (Settled a) e = stays (LocateDoubled p) d a s e
    go Open e = record { answer = At (plan_half_reply (plan_held d) p); left = d; step = done_step (LocateDoubled p) d (At (plan_half_reply (plan_held d) p)) d e (at_refused (plan_half_reply (plan_held d) p)) (λ l. refl) (λ n. n (sound_reaches (LocateDoubled p) d s)) tt (λ t. refl); sound = s }

-- ---- and so a run for every list
pub record Runs (d : Prepared) (calls : List Call) : Type 0 where
  pub turns : List Turn
  pub run : Run d turns
  pub calls_are : calls_of turns ≡ calls

pub sound_run : (calls : List Call) (d : Prepared) → Sound d → Runs d calls
unfolding Run
sound_run [] d s = record { turns = []; run = tt; calls_are = refl }
sound_run (call ∷ calls) d s =
    let n = next call d s in
    let rest = sound_run calls n.left n.sound in
    record { turns = record { call = call; answer = n.answer; left = n.left } ∷ rest.turns; run = (n.step, rest.run); calls_are = ap (λ (l : List Call). call ∷ l) rest.calls_are }

pub run_exists : (d : Prepared) → Fresh d → (calls : List Call) → Runs d calls
run_exists d f calls = sound_run calls d f.sound
