-- Wrong walks, edges and places that the contracts rule out, whatever the code is. Each stands on sound tables, a walk with one that
-- starts over a stack of zeros, on tables too short, or on two boxes alone. Assumes nothing.
use mathlib.Core.Path.{◌≡◌, refl, sym, ap, ◌∙◌}
use mathlib.Core.Bool.{true, false, true≢false}
use Rattle.std.specs.Prelude.{Option, Some, None, Result, Ok, Err}
use mathlib.Core.List.{List, [], ◌∷◌}
use Prim.Native.Nat.{ℕ, suc, ◌+◌, ◌*◌, ◌≤◌, ◌<◌}
use native.Mathlib.Omega.{arith}
use borrow.Author.Tests.{eq-eqb}
use lib.Dec.{eqb}
use lib.IntN.{ℤ, pos}
use lib.ListN.{length, get_or}
use Rattle.geom.specs.declared.Rect.{Rect}
use Rattle.rules.specs.declared.Unsound.{Unsound}
use Rattle.rules.specs.Lists.{count_of}
use Rattle.boxes.specs.Boxes.{rect_at, edge_box}
use Rattle.boxes.specs.Rings.{start_of, next_in, edge_of, RingAt}
use Rattle.index.specs.Parts.{first_at, count_at}
use Rattle.walk.specs.declared.Cursor.{Cursor}
use Rattle.walk.specs.declared.Query.{Query}
use Rattle.walk.specs.declared.Query.TheVariants.{Holding}
use Rattle.walk.specs.declared.Node.{Node}
use Rattle.walk.specs.declared.Node.TheVariants.{Missed, Leaf, Cut}
use Rattle.walk.specs.declared.Step.{Step}
use Rattle.walk.specs.declared.edges.Edge.{Edge}
use Rattle.walk.specs.Edges.{EdgeSound, EdgeSays, edge_number}
use Rattle.walk.specs.Places.{PlaceSound, PlanReach, IndexReach, PlaceSays, place_number}
use Rattle.walk.specs.Steps.{step_number, enters, Lent, Inside, NodeSays, WalkSound, Begun, Says, stop_number, Walking, StopSays}
use Rattle.walk.specs.Walks.{Walked}
use Rattle.walk.proofs.Walked.{begun, stepped, some_edges, all_met, never_unsound}

-- a box that holds a rectangle is entered by a walk to boxes that hold it, and one that it holds is not
abbrev small : Rect
small = record { min = record { x = pos 1; y = pos 1 }; max = record { x = pos 2; y = pos 2 } }

abbrev large : Rect
large = record { min = record { x = pos 0; y = pos 0 }; max = record { x = pos 3; y = pos 3 } }

pub holder_entered : enters (Holding small) large ≡ true
holder_entered = refl

pub held_passed : enters (Holding large) small ≡ false
held_passed = refl

-- a node whose numbers are inside their tables and whose box is not entered is passed over: a walk that skips no box is none
pub passed_over : (boxes : List (List ℤ)) (parts : List (List ℕ)) (n nodes : ℕ) (query : Query) (p : ℕ) → Inside parts n nodes p → enters query (rect_at boxes p) ≡ false → (r : Result Node Unsound) → NodeSays boxes parts n nodes query p r
    → r ≡ Ok (Missed (first_at parts p + count_at parts p))
passed_over boxes parts n nodes query p I m (Err _) s = absurd (s I)
passed_over boxes parts n nodes query p I m (Ok (Missed t)) s = ap (λ (t : ℕ). Ok (Missed t)) s.to
passed_over boxes parts n nodes query p I m (Ok (Leaf f t)) s = absurd (true≢false (sym s.entered ∙ m))
passed_over boxes parts n nodes query p I m (Ok (Cut f l)) s = absurd (true≢false (sym s.entered ∙ m))

-- a table or a stack that is too short, or a cursor that is out of its ranges, gets 15
pub short_refused : (n : ℕ) (boxes : List (List ℤ)) (parts : List (List ℕ)) (edges : List ℕ) (query : Query) (stack : List ℕ) (c : Cursor) (stack' : List ℕ) (r : Result (Option Step) Unsound)
    → (Lent n (length stack) (length boxes) (length parts) (length edges) c → ⊥) → Says n boxes parts edges query stack c stack' r → step_number r ≡ 15
short_refused n boxes parts edges query stack c stack' (Ok (Some step)) f s = absurd (f s.lent)
short_refused n boxes parts edges query stack c stack' (Ok None) f s = absurd (f s.lent)
short_refused n boxes parts edges query stack c stack' (Err _) f s = s.number

-- and the same up to a leaf
pub short_stopped : (n : ℕ) (boxes : List (List ℤ)) (parts : List (List ℕ)) (edges : List ℕ) (query : Query) (stack : List ℕ) (c : Cursor) (stack' : List ℕ) (r : Result (Option Cursor) Unsound)
    → (Lent n (length stack) (length boxes) (length parts) (length edges) c → ⊥) → StopSays n boxes parts edges query stack c stack' r → stop_number r ≡ 15
short_stopped n boxes parts edges query stack c stack' (Ok (Some here)) f s = absurd (f s.going.lent)
short_stopped n boxes parts edges query stack c stack' (Ok None) f s = absurd (f s.lent)
short_stopped n boxes parts edges query stack c stack' (Err _) f s = s.leaf_number

-- 15 on sound tables
pub never_stopped : (n : ℕ) (corners : List ℤ) (rings : List ℕ) (boxes : List (List ℤ)) (parts : List (List ℕ)) (edges : List ℕ) (query : Query) (stack : List ℕ) (c : Cursor) (stack' : List ℕ) (r : Result (Option Cursor) Unsound)
    → WalkSound n corners rings boxes parts edges → Walking n parts stack c → StopSays n boxes parts edges query stack c stack' r → stop_number r ≡ 0
never_stopped n corners rings boxes parts edges query stack c stack' (Ok (Some here)) T W s = s.number
never_stopped n corners rings boxes parts edges query stack c stack' (Ok None) T W s = s.leaf_number
never_stopped n corners rings boxes parts edges query stack c stack' (Err _) T W s = absurd (s.never corners rings T W)

-- a step that writes past the first 18 numbers of the stack, whatever it gives
module _ (n : ℕ) (boxes : List (List ℤ)) (parts : List (List ℕ)) (edges : List ℕ) (query : Query) (stack : List ℕ) (c : Cursor) (stack' : List ℕ) (k : ℕ) (past : 18 ≤ k) (other : get_or stack' k 0 ≡ get_or stack k 0 → ⊥) where
  pub not_past_space : (r : Result (Option Step) Unsound) → Says n boxes parts edges query stack c stack' r → ⊥
  not_past_space (Ok (Some step)) s = other (s.space.rest k past)
  not_past_space (Ok None) s = other (s.space.rest k past)
  not_past_space (Err _) s = other (s.space.rest k past)

  -- and so up to a leaf
  pub not_stopped_past : (r : Result (Option Cursor) Unsound) → StopSays n boxes parts edges query stack c stack' r → ⊥
  not_stopped_past (Ok (Some here)) s = other (s.going.space.rest k past)
  not_stopped_past (Ok None) s = other (s.space.rest k past)
  not_stopped_past (Err _) s = other (s.space.rest k past)

module _ (n : ℕ) (corners : List ℤ) (rings : List ℕ) (boxes : List (List ℤ)) (parts : List (List ℕ)) (edges : List ℕ) (T : WalkSound n corners rings boxes parts edges) (query : Query) (stack : List ℕ) (c : Cursor) where
  module _ (room : 18 ≤ length stack) (root : get_or stack 0 0 ≡ 0) (B : Begun n c) where
    -- a walk that answers 15 at once
    pub not_refused_at_once : (stack' : List ℕ) → Says n boxes parts edges query stack c stack' (Err (record {})) → ⊥
    not_refused_at_once stack' s = never_unsound n corners rings boxes parts edges T query stack c [] (begun n corners rings boxes parts edges T query stack c room root B) s.never

    -- a walk that ends at once while an edge's box is one to enter, if only for a point of its rim
    pub not_ended_at_once : (stack' : List ℕ) (e : ℕ) → e < n → enters query (edge_box corners rings e) ≡ true → Says n boxes parts edges query stack c stack' (Ok None) → ⊥
    unfolding count_of
    not_ended_at_once stack' e h m s =
        omega (arith, (all_met n corners rings boxes parts edges T query stack c [] (begun n corners rings boxes parts edges T query stack c room root B) stack' s).all e h m)

  module _ (es : List ℕ) (W : Walked n corners rings parts edges query stack c es) where
    -- a walk that ends while an edge whose box is one to enter has not come: a forgotten child
    pub not_ended_early : (stack' : List ℕ) (e : ℕ) → e < n → enters query (edge_box corners rings e) ≡ true → count_of (λ x. eqb x e) es ≡ 0 → Says n boxes parts edges query stack c stack' (Ok None) → ⊥
    not_ended_early stack' e h m none s = omega (arith, (all_met n corners rings boxes parts edges T query stack c es W stack' s).all e h m)

    -- an edge that comes twice
    pub not_twice : (stack' : List ℕ) (step : Step) → 1 ≤ count_of (λ x. eqb x step.edge) es → Says n boxes parts edges query stack c stack' (Ok (Some step)) → ⊥
    unfolding count_of
    not_twice stack' step came s =
        let W' = stepped n corners rings boxes parts edges T query stack c es W stack' step s in
        let once = (some_edges n corners rings boxes parts edges T query stack' step.after (step.edge ∷ es) W').once step.edge in
        let twice : suc (count_of (λ x. eqb x step.edge) es) ≤ 1 = rw (eq-eqb step.edge step.edge refl) at once in
        omega arith

    -- a number that is no edge's
    pub not_beyond : (stack' : List ℕ) (step : Step) → n ≤ step.edge → Says n boxes parts edges query stack c stack' (Ok (Some step)) → ⊥
    not_beyond stack' step l s = omega (arith, s.edge)

-- ---- the edge of a number
module _ (n count : ℕ) (corners : List ℤ) (rings : List ℕ) (e : ℕ) where
  -- on sound tables: item 1's edge with its ring, and so no 15, no other ring and no other end point
  pub edge_is : EdgeSound n count corners rings e → (ring : ℕ) → RingAt rings count e ring → (r : Result Edge Unsound) → EdgeSays corners rings n count e r → r ≡ Ok (record { ring = ring; from = (edge_of corners rings e).0; to = (edge_of corners rings e).1 })
  edge_is S ring A (Ok found) s = λ i. Ok (record { ring = sym (s.only S.ends ring A) i; from = (s.edge_is S.ends i).0; to = (s.edge_is S.ends i).1 })
  edge_is S ring A (Err _) s = absurd (s.never S)

  -- no such edge, or a table too short: 15
  pub edge_refused : ((e < n) × (2 * n ≤ length corners) × (count ≤ length rings) → ⊥) → (r : Result Edge Unsound) → EdgeSays corners rings n count e r → edge_number r ≡ 15
  edge_refused f (Ok found) s = absurd (f (s.one, s.reach, s.rings_reach))
  edge_refused f (Err _) s = s.number

  -- on any tables: ring ends that lead past the plan, into the spare room of the corner table
  pub not_past : (found : Edge) → n ≤ next_in (start_of rings found.ring) (get_or rings found.ring 0) e → EdgeSays corners rings n count e (Ok found) → ⊥
  not_past found l s = omega (arith, s.next)

-- ---- the place of an edge
module _ (n count : ℕ) (corners : List ℤ) (rings : List ℕ) (boxes : List (List ℤ)) (parts : List (List ℕ)) (edges : List ℕ) (e : ℕ) where
  -- on sound tables: the place at which the edge stands, and so no 15 and no other place
  pub place_is : PlaceSound n count corners rings boxes parts edges e → (k : ℕ) → k < n → get_or edges k 0 ≡ e → (r : Result ℕ Unsound) → PlaceSays n count corners rings boxes parts edges e r → r ≡ Ok k
  place_is S k h here (Ok found) s = ap Ok (sym (s.stands.only corners rings boxes parts S.walk.index k h here))
  place_is S k h here (Err _) s = absurd (s.never S)

  -- on any tables: a place at which another edge stands, or one beyond the last
  pub place_holds : (k : ℕ) → ((k < n) × (get_or edges k 0 ≡ e) → ⊥) → PlaceSays n count corners rings boxes parts edges e (Ok k) → ⊥
  place_holds k f s = f (s.stands.inside, s.stands.edge)

  -- no such edge, or a table too short: 15
  pub place_refused : ((e < n) × PlanReach n count (length corners) (length rings) × IndexReach n (length boxes) (length parts) (length edges) → ⊥) → (r : Result ℕ Unsound) → PlaceSays n count corners rings boxes parts edges e r
      → place_number r ≡ 15
  place_refused f (Ok k) s = absurd (f (s.stands.one, s.plan, s.index))
  place_refused f (Err _) s = s.number
