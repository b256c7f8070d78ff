-- What the steps of preparing ask, where a plan is ready. Assumes nothing.
use Rattle.std.specs.Prelude.{Option}
use mathlib.Core.Path.{◌≡◌, refl, sym, subst}
use mathlib.Core.Bool.{true}
use mathlib.Core.List.{List}
use Prim.Native.Nat.{ℕ, ◌^◌, ◌≤◌}
use native.Mathlib.Omega.{arith}
use lib.IntN.{ℤ}
use lib.ListN.{length}
use Rattle.integers.proofs.Tests.{not_false}
use Rattle.rules.specs.declared.Kind.{Kind}
use Rattle.rules.specs.declared.Kind.TheVariants.{Polygons, Tree}
use Rattle.rules.specs.declared.State.{State}
use Rattle.rules.specs.Lists.{total}
use Rattle.rules.specs.Nodes.{node_count}
use Rattle.rules.specs.Plans.{Plan, is_list, plan_in_range}
use Rattle.rules.specs.Tables.{polygons_in}
use Rattle.rules.proofs.Verdicts.{accepted_passes, few, even}
use Rattle.boxes.proofs.PlanEdges.{plan_rings, plan_corners}
use Rattle.index.specs.Build.{Built}
use Rattle.prepare.specs.Answers.{state_of}
use Rattle.prepare.specs.Tables.{Tables, room_of, PlanPut, PolygonsFit, PlanFits, Buildable, Indexed, Filled}
use Rattle.prepare.proofs.Holding.{corners_even, put_sound}
use Rattle.prepare.proofs.Rooms.{Given}

-- what the builder counted is N(n)
pub counted_built : {n : ℕ} {corners : List ℤ} {rings : List ℕ} {boxes : List (List ℤ)} {parts : List (List ℕ)} {edges : List ℕ} {boxes' : List (List ℤ)} {parts' : List (List ℕ)} {edges' : List ℕ} {nodes reads : ℕ}
    → Built n corners rings boxes parts edges boxes' parts' edges' nodes reads → (r : ℕ) × Built n corners rings boxes parts edges boxes' parts' edges' (node_count n) r
counted_built {n} {corners} {rings} {boxes} {parts} {edges} {boxes'} {parts'} {edges'} {nodes} {reads} b = (reads, subst (λ k. Built n corners rings boxes parts edges boxes' parts' edges' k reads) b.counted b)

-- refusals 4 and 3 keep a list's ends small; a tree's polygon table is not looked at
polygons_fit : (kind : Kind) (counts table : List ℕ) (rings : ℕ) → (is_list kind ≡ true → total counts ≡ rings) → rings ≤ 2 ^ 16 → polygons_in kind (length counts) ≤ length table → PolygonsFit kind counts table
polygons_fit Polygons counts table rings e f h = record { reach = h; few = omega (arith, e refl, f) }
polygons_fit Tree counts table rings e f h = tt

module _ (plan : Plan) (before : Tables) (state : State) (nodes : Option ℕ) (g : Given plan (room_of before) state nodes) where
  -- an accepted plan has a place in the tables
  pub plan_fits : PlanFits plan before.corners before.rings before.polygons
  plan_fits =
      let f = few plan (accepted_passes plan g.accepted).0 in
      let e = even plan g.accepted in
      record {
        corners_fit = omega (arith, corners_even plan g.accepted, g.roomy.corners_reach);
        rings_fit = record { reach = g.roomy.rings_reach; few = omega (arith, e.corners, f.corners) };
        polygons_fit = polygons_fit plan.kind plan.counts before.polygons (length plan.lengths) e.rings f.rings g.roomy.polygons_reach;
      }

  module _ (corners' : List ℤ) (rings' polygons' : List ℕ) (put : PlanPut plan before.corners before.rings before.polygons corners' rings' polygons') where
    -- the plan in the tables can be indexed, unless it is marked
    pub buildable : Buildable state corners' rings' before.boxes before.parts before.edges
    buildable = subst (λ s. Buildable s corners' rings' before.boxes before.parts before.edges) (sym g.state_is) fresh
      where
        fresh : Buildable (state_of plan) corners' rings' before.boxes before.parts before.edges
        fresh e =
            let sound = put_sound plan before.corners before.rings before.polygons corners' rings' polygons' put g.accepted (not_false (plan_in_range plan) e) in
            let n = g.roomy.indexed e in
            record {
              near = plan_corners (state_of plan) corners' rings' polygons' sound;
              ends = plan_rings (state_of plan) corners' rings' polygons' sound;
              boxes_reach = n.boxes_reach;
              parts_reach = n.parts_reach;
              edges_reach = n.edges_reach;
            }

  -- the tables after both steps
  pub filled : (after : Tables) → PlanPut plan before.corners before.rings before.polygons after.corners after.rings after.polygons
      → Indexed state after.corners after.rings before.boxes before.parts before.edges after.boxes after.parts after.edges → Filled plan before after
  filled after put i = record { plan_put = put; indexed = subst (λ s. Indexed s after.corners after.rings before.boxes before.parts before.edges after.boxes after.parts after.edges) g.state_is i }
