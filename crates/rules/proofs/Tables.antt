-- The tables of a plan that passes refusals 4 and 3 with every corner in range are sound, and hold that plan. So soundness is no empty
-- premise: each such plan has tables that meet it. Assumes nothing.
use mathlib.Core.Path.{◌≡◌, refl, sym, ◌∙◌, ap, ap₂}
use mathlib.Core.Bool.{true, false}
use mathlib.Core.List.{List, [], ◌∷◌}
use Prim.Native.Nat.{ℕ, suc, ◌+◌, ◌-◌, ◌*◌, ◌%◌}
use native.Mathlib.Omega.{arith}
use borrow.Author.Tests.{eqb-false}
use lib.IntN.{ℤ}
use lib.ListN.{length, take}
use lib.Seq.{take-length, take_all}
use Rattle.integers.proofs.Tests.{or_false}
use Rattle.rules.specs.declared.Kind.TheVariants.{Polygons, Tree}
use Rattle.rules.specs.declared.State.{State}
use Rattle.rules.specs.Lists.{is_odd}
use Rattle.rules.specs.Plans.{Plan, corner_count, uneven, plan_verdict, plan_in_range}
use Rattle.rules.specs.Tables.{ends_from, lengths_from, plan_of, PlanSound}
use Rattle.rules.proofs.Verdicts.{accepted_passes}
use Rattle.rules.specs.Answering.{Accepted}

-- ---- ends and lengths
pub ends_length : (start : ℕ) (lengths : List ℕ) → length (ends_from start lengths) ≡ length lengths
unfolding ends_from
ends_length start [] = refl
ends_length start (n ∷ lengths) = ap suc (ends_length (start + n) lengths)

pub lengths_ends : (start : ℕ) (lengths : List ℕ) → lengths_from start (ends_from start lengths) ≡ lengths
unfolding ends_from lengths_from
lengths_ends start [] = refl
lengths_ends start (n ∷ lengths) = ap₂ ◌∷◌ (let e : start + n - start ≡ n = omega arith in e) (lengths_ends (start + n) lengths)

all_ends : (lengths : List ℕ) → take (length lengths) (ends_from 0 lengths) ≡ ends_from 0 lengths
all_ends lengths = take_all (length lengths) (ends_from 0 lengths) (omega (arith, ends_length 0 lengths))

-- ---- what a plan accepted by refusal 3 has of corners
even_corners : (plan : Plan) → plan_verdict plan ≡ Accepted → 2 * corner_count plan ≡ length plan.coordinates
unfolding uneven
even_corners plan e =
    let odd = (or_false (is_odd (length plan.coordinates)) _ (accepted_passes plan e).1).0 in
    let n = eqb-false (length plan.coordinates % 2) 1 odd in
    omega arith

-- ---- the state and the plan in the tables
abbrev pub list_state : Plan → State
list_state plan = record { kind = Polygons; out_of_range = false; corners = corner_count plan; rings = length plan.lengths; polygons = length plan.counts; undo_depth = 0 }

-- whatever a tree's state says of polygons
abbrev pub tree_state : Plan → ℕ → State
tree_state plan n = record { kind = Tree; out_of_range = false; corners = corner_count plan; rings = length plan.lengths; polygons = n; undo_depth = 0 }

abbrev list : List ℤ → List ℕ → List ℕ → Plan
list coordinates lengths counts = record { kind = Polygons; coordinates = coordinates; lengths = lengths; counts = counts }

abbrev tree : List ℤ → List ℕ → Plan
tree coordinates lengths = record { kind = Tree; coordinates = coordinates; lengths = lengths; counts = [] }

module _ (coordinates : List ℤ) (lengths : List ℕ) where
  lengths_held : lengths_from 0 (take (length lengths) (ends_from 0 lengths)) ≡ lengths
  lengths_held = ap (lengths_from 0) (all_ends lengths) ∙ lengths_ends 0 lengths

  ends_held : ends_from 0 (lengths_from 0 (take (length lengths) (ends_from 0 lengths))) ≡ take (length lengths) (ends_from 0 lengths)
  ends_held = ap (ends_from 0) lengths_held ∙ sym (all_ends lengths)

  pub list_held : (counts : List ℕ) → plan_verdict (list coordinates lengths counts) ≡ Accepted → plan_of (list_state (list coordinates lengths counts)) coordinates (ends_from 0 lengths) (ends_from 0 counts) ≡ list coordinates lengths counts
  unfolding plan_of
  list_held counts e =
      λ i. record {
        kind = Polygons;
        coordinates = (ap (λ n. take n coordinates) (even_corners (list coordinates lengths counts) e) ∙ take-length coordinates) i;
        lengths = lengths_held i;
        counts = (ap (lengths_from 0) (all_ends counts) ∙ lengths_ends 0 counts) i;
      }

  pub list_sound : (counts : List ℕ) → plan_verdict (list coordinates lengths counts) ≡ Accepted → plan_in_range (list coordinates lengths counts) ≡ true
      → PlanSound (list_state (list coordinates lengths counts)) coordinates (ends_from 0 lengths) (ends_from 0 counts)
  list_sound counts e near =
      record {
        corners_reach = omega (arith, even_corners (list coordinates lengths counts) e);
        rings_reach = omega (arith, ends_length 0 lengths);
        polygons_reach = omega (arith, ends_length 0 counts);
        ring_ends = ends_held;
        polygon_ends = ap (ends_from 0) (ap (lengths_from 0) (all_ends counts) ∙ lengths_ends 0 counts) ∙ sym (all_ends counts);
        passes = ap plan_verdict (list_held counts e) ∙ e;
        near = ap plan_in_range (list_held counts e) ∙ near;
      }

  pub tree_held : (n : ℕ) (polygons : List ℕ) → plan_verdict (tree coordinates lengths) ≡ Accepted → plan_of (tree_state (tree coordinates lengths) n) coordinates (ends_from 0 lengths) polygons ≡ tree coordinates lengths
  unfolding plan_of lengths_from
  tree_held n polygons e =
      λ i. record {
        kind = Tree;
        coordinates = (ap (λ n. take n coordinates) (even_corners (tree coordinates lengths) e) ∙ take-length coordinates) i;
        lengths = lengths_held i;
        counts = [];
      }

  pub tree_sound : (n : ℕ) (polygons : List ℕ) → plan_verdict (tree coordinates lengths) ≡ Accepted → plan_in_range (tree coordinates lengths) ≡ true
      → PlanSound (tree_state (tree coordinates lengths) n) coordinates (ends_from 0 lengths) polygons
  unfolding ends_from lengths_from
  tree_sound n polygons e near =
      record {
        corners_reach = omega (arith, even_corners (tree coordinates lengths) e);
        rings_reach = omega (arith, ends_length 0 lengths);
        polygons_reach = omega arith;
        ring_ends = ends_held;
        polygon_ends = refl;
        passes = ap plan_verdict (tree_held n polygons e) ∙ e;
        near = ap plan_in_range (tree_held n polygons e) ∙ near;
      }
