-- The plan that filled tables hold is the plan handed in. Assumes nothing.
use mathlib.Core.Path.{◌≡◌, refl, sym, ◌∙◌, ap, subst}
use mathlib.Core.Bool.{true, not}
use mathlib.Core.List.{List, [], ◌++◌}
use Prim.Native.Nat.{ℕ, ◌*◌, ◌≤◌}
use native.Mathlib.Omega.{arith}
use lib.IntN.{ℤ}
use lib.ListN.{length, take, drop, length-take, length-append}
use lib.Seq.{take-append-le}
use Rattle.geom.specs.declared.Point.{Point}
use Rattle.rules.specs.declared.Kind.{Kind}
use Rattle.rules.specs.declared.Kind.TheVariants.{Polygons, Tree}
use Rattle.rules.specs.declared.State.{State}
use Rattle.rules.specs.Plans.{Plan, corner_count, rings_of, too_many, uneven, plan_verdict, plan_in_range, kind_reply, plan_reply, plan_half_reply}
use Rattle.rules.specs.Tables.{ends_from, lengths_from, polygons_in, plan_of, PlanSound}
use Rattle.rules.proofs.Tables.{ends_length, list_held, list_sound, tree_held, tree_sound}
use Rattle.prepare.specs.Answers.{state_of}
use Rattle.prepare.specs.Tables.{polygons_end, PlanPut}
use Rattle.rules.specs.Answering.{Accepted}

-- ---- what the tables keep of a plan

-- a tree's ring counts are not looked at, and not kept
abbrev pub kept_counts : Kind → List ℕ → List ℕ
kept_counts Polygons counts = counts
kept_counts Tree counts = []

abbrev pub kept : Plan → Plan
kept plan = record { kind = plan.kind; coordinates = plan.coordinates; lengths = plan.lengths; counts = kept_counts plan.kind plan.counts }

abbrev plan_with : List ℤ → List ℕ → List ℕ → Kind → Plan
plan_with coordinates lengths counts kind = record { kind = kind; coordinates = coordinates; lengths = lengths; counts = counts }

-- it is all that refusals and replies look at
pub kept_verdict : (plan : Plan) → plan_verdict (kept plan) ≡ plan_verdict plan
unfolding plan_verdict too_many uneven
kept_verdict plan = go plan.kind
  where
    go : (kind : Kind) → plan_verdict (kept (plan_with plan.coordinates plan.lengths plan.counts kind)) ≡ plan_verdict (plan_with plan.coordinates plan.lengths plan.counts kind)
    go Polygons = refl
    go Tree = refl

pub kept_range : (plan : Plan) → plan_in_range (kept plan) ≡ plan_in_range plan
unfolding plan_in_range
kept_range plan = refl

pub kept_rings : (plan : Plan) → rings_of (kept plan) ≡ rings_of plan
unfolding rings_of
kept_rings plan = refl

pub kept_place : (plan : Plan) (p : Point) → kind_reply (kept plan).kind (kept plan) p ≡ kind_reply plan.kind plan p
unfolding rings_of
kept_place plan p = go plan.kind
  where
    go : (kind : Kind) → kind_reply kind (kept (plan_with plan.coordinates plan.lengths plan.counts kind)) p ≡ kind_reply kind (plan_with plan.coordinates plan.lengths plan.counts kind) p
    go Polygons = refl
    go Tree = refl

pub kept_reply : (plan : Plan) (p : Point) → plan_reply (kept plan) p ≡ plan_reply plan p
unfolding plan_reply plan_in_range rings_of
kept_reply plan p = go plan.kind
  where
    go : (kind : Kind) → plan_reply (kept (plan_with plan.coordinates plan.lengths plan.counts kind)) p ≡ plan_reply (plan_with plan.coordinates plan.lengths plan.counts kind) p
    go Polygons = refl
    go Tree = refl

pub kept_half : (plan : Plan) (p : Point) → plan_half_reply (kept plan) p ≡ plan_half_reply plan p
unfolding plan_half_reply plan_in_range rings_of
kept_half plan p = refl

-- ---- tables that start alike
module _ (state : State) (corners corners' : List ℤ) (rings rings' polygons polygons' : List ℕ)
    (a : take (2 * state.corners) corners' ≡ take (2 * state.corners) corners)
    (b : take state.rings rings' ≡ take state.rings rings)
    (c : take (polygons_in state.kind state.polygons) polygons' ≡ take (polygons_in state.kind state.polygons) polygons) where
  pub alike_held : plan_of state corners' rings' polygons' ≡ plan_of state corners rings polygons
  unfolding plan_of
  alike_held = λ i. record { kind = state.kind; coordinates = a i; lengths = lengths_from 0 (b i); counts = lengths_from 0 (c i) }

  pub alike_sound : PlanSound state corners rings polygons → 2 * state.corners ≤ length corners' → state.rings ≤ length rings' → polygons_in state.kind state.polygons ≤ length polygons' → PlanSound state corners' rings' polygons'
  alike_sound s x y z =
      record {
        corners_reach = x;
        rings_reach = y;
        polygons_reach = z;
        ring_ends = subst (λ t. ends_from 0 (lengths_from 0 t) ≡ t) (sym b) s.ring_ends;
        polygon_ends = subst (λ t. ends_from 0 (lengths_from 0 t) ≡ t) (sym c) s.polygon_ends;
        passes = ap plan_verdict alike_held ∙ s.passes;
        near = ap plan_in_range alike_held ∙ s.near;
      }

-- ---- a plan put into its tables

-- the first entries of a table that starts with a list
starts : {A : Type 0} (n : ℕ) (xs rest table : List A) → n ≤ length xs → table ≡ xs ++ rest → take n table ≡ take n xs
starts n xs rest table h e = ap (take n) e ∙ take-append-le n xs rest h

reaches : {A : Type 0} (n : ℕ) (xs rest table : List A) → n ≤ length xs → table ≡ xs ++ rest → n ≤ length table
reaches n xs rest table h e = omega (arith, ap length e, length-append xs rest)

module _ (coordinates : List ℤ) (lengths counts : List ℕ) where
  -- by the laws of `rules`, whose tables hold nothing but the plan
  alone : (kind : Kind) → plan_verdict (plan_with coordinates lengths counts kind) ≡ Accepted
      → plan_of (state_of (plan_with coordinates lengths counts kind)) coordinates (ends_from 0 lengths) (ends_from 0 counts) ≡ kept (plan_with coordinates lengths counts kind)
  unfolding plan_of
  alone Polygons e = list_held coordinates lengths counts e
  alone Tree e = tree_held coordinates lengths 0 (ends_from 0 counts) (kept_verdict (plan_with coordinates lengths counts Tree) ∙ e)

  sound_alone : (kind : Kind) → plan_verdict (plan_with coordinates lengths counts kind) ≡ Accepted → plan_in_range (plan_with coordinates lengths counts kind) ≡ true
      → PlanSound (state_of (plan_with coordinates lengths counts kind)) coordinates (ends_from 0 lengths) (ends_from 0 counts)
  unfolding plan_in_range
  sound_alone Polygons e near =
      subst (λ b. PlanSound (record { kind = Polygons; out_of_range = not b; corners = corner_count (plan_with coordinates lengths counts Polygons); rings = length lengths; polygons = length counts; undo_depth = 0 }) coordinates (ends_from 0 lengths) (ends_from 0 counts)) (sym near)
      (list_sound coordinates lengths counts e near)
  sound_alone Tree e near =
      subst (λ b. PlanSound (record { kind = Tree; out_of_range = not b; corners = corner_count (plan_with coordinates lengths counts Tree); rings = length lengths; polygons = 0; undo_depth = 0 }) coordinates (ends_from 0 lengths) (ends_from 0 counts)) (sym near)
      (tree_sound coordinates lengths 0 (ends_from 0 counts) (kept_verdict (plan_with coordinates lengths counts Tree) ∙ e) near)

-- refusal 3: two numbers a corner
pub corners_even : (plan : Plan) → plan_verdict plan ≡ Accepted → length plan.coordinates ≤ 2 * corner_count plan
unfolding plan_of
corners_even plan e =
    let held = ap length (ap (λ q. q.coordinates) (alone plan.coordinates plan.lengths plan.counts plan.kind e)) in
    omega (arith, length-take (2 * corner_count plan) plan.coordinates, held)

-- the polygon table by kind: a tree's is not looked at
polygons_start : (kind : Kind) (counts polygons polygons' : List ℕ) → polygons' ≡ polygons_end kind counts polygons
    → take (polygons_in kind (polygons_in kind (length counts))) polygons' ≡ take (polygons_in kind (polygons_in kind (length counts))) (ends_from 0 counts)
polygons_start Polygons counts polygons polygons' e = starts (length counts) (ends_from 0 counts) (drop (length counts) polygons) polygons' (omega (arith, ends_length 0 counts)) e
polygons_start Tree counts polygons polygons' e = refl

polygons_reach : (kind : Kind) (counts polygons polygons' : List ℕ) → polygons' ≡ polygons_end kind counts polygons → polygons_in kind (polygons_in kind (length counts)) ≤ length polygons'
polygons_reach Polygons counts polygons polygons' e = reaches (length counts) (ends_from 0 counts) (drop (length counts) polygons) polygons' (omega (arith, ends_length 0 counts)) e
polygons_reach Tree counts polygons polygons' e = omega arith

module _ (plan : Plan) (corners : List ℤ) (rings polygons : List ℕ) (corners' : List ℤ) (rings' polygons' : List ℕ) (put : PlanPut plan corners rings polygons corners' rings' polygons') (accepted : plan_verdict plan ≡ Accepted) where
  two_each : 2 * corner_count plan ≤ length plan.coordinates
  two_each = omega arith

  ends_enough : length plan.lengths ≤ length (ends_from 0 plan.lengths)
  ends_enough = omega (arith, ends_length 0 plan.lengths)

  corners_start : take (2 * corner_count plan) corners' ≡ take (2 * corner_count plan) plan.coordinates
  corners_start = starts (2 * corner_count plan) plan.coordinates (drop (length plan.coordinates) corners) corners' two_each put.corners_are

  rings_start : take (length plan.lengths) rings' ≡ take (length plan.lengths) (ends_from 0 plan.lengths)
  rings_start = starts (length plan.lengths) (ends_from 0 plan.lengths) (drop (length plan.lengths) rings) rings' ends_enough put.rings_are

  -- the tables hold the plan, whatever stands after it
  pub put_held : plan_of (state_of plan) corners' rings' polygons' ≡ kept plan
  put_held =
      alike_held (state_of plan) plan.coordinates corners' (ends_from 0 plan.lengths) rings' (ends_from 0 plan.counts) polygons' corners_start rings_start (polygons_start plan.kind plan.counts polygons polygons' put.polygons_are)
      ∙ alone plan.coordinates plan.lengths plan.counts plan.kind accepted

  -- and are sound where it is in range
  pub put_sound : plan_in_range plan ≡ true → PlanSound (state_of plan) corners' rings' polygons'
  put_sound near =
      alike_sound (state_of plan) plan.coordinates corners' (ends_from 0 plan.lengths) rings' (ends_from 0 plan.counts) polygons' corners_start rings_start (polygons_start plan.kind plan.counts polygons polygons' put.polygons_are)
      (sound_alone plan.coordinates plan.lengths plan.counts plan.kind accepted near)
      (reaches (2 * corner_count plan) plan.coordinates (drop (length plan.coordinates) corners) corners' two_each put.corners_are)
      (reaches (length plan.lengths) (ends_from 0 plan.lengths) (drop (length plan.lengths) rings) rings' ends_enough put.rings_are)
      (polygons_reach plan.kind plan.counts polygons polygons' put.polygons_are)
