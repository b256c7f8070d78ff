-- A look-up through the boxes is a step of a run. Assumes nothing.
use Rattle.std.specs.Prelude.{Err, Ok}
use mathlib.Core.Path.{◌≡◌, refl, sym, ap, ◌∙◌}
use mathlib.Core.Bool.{Bool, true, false}
use mathlib.Core.Logic.{inr}
use Prim.Native.Nat.{◌≤◌}
use lib.ListN.{length}
use Rattle.geom.specs.declared.Point.{Point}
use Rattle.geom.specs.Range.{in_range, in_doubled_range}
use Rattle.rules.specs.declared.Location.{Location}
use Rattle.rules.specs.declared.Location.TheVariants.{Outside}
use Rattle.rules.specs.declared.Refusal.{Refusal}
use Rattle.rules.specs.declared.Refusal.TheVariants.{Unsound}
use Rattle.rules.specs.Plans.{plan_reply, plan_half_reply}
use Rattle.rules.specs.Tables.{polygons_in}
use Rattle.query.proofs.LookUps.{far, half_far}
use Rattle.prepared.proofs.Lookings.{only_unsound}
use Rattle.gather.specs.Regions.{Enough}
use Rattle.prepared.specs.Calls.{Looked}
use Rattle.model.specs.declared.Call.{Call}
use Rattle.model.specs.declared.Call.TheVariants.{Locate, LocateDoubled}
use Rattle.model.specs.Numbers.{answer_of}
use Rattle.model.specs.Prepared.{Prepared, plan_held, Sound}
use Rattle.model.specs.Steps.{ReachesBeside, Reaches, Step}
use Rattle.model.proofs.Ways as Ways
use Rattle.model.proofs.Ways.{locate_step, locate_doubled_step}
use Rattle.rules.specs.Answering.{Reply}

module _ (call : Call) (d : Prepared) (beside : polygons_in d.state.kind d.state.polygons ≤ length d.polygons → ReachesBeside call d) (ranged : Bool) (location : Location) (out : ranged ≡ false → location ≡ Outside) (reply : Reply)
    (looked : Looked d.state d.corners d.rings d.polygons d.boxes d.parts d.edges ranged location reply) where
  -- no other refusal than 15
  only : (refusal : Refusal) → reply ≡ Err refusal → refusal ≡ Unsound
  only = only_unsound _ _ _ _ _ _ _ _ _ _ looked

  -- tables that are long enough for a look-up reach
  reaching : Enough d.state (length d.corners) (length d.rings) (length d.polygons) (length d.boxes) (length d.parts) (length d.edges) → Reaches call d
  reaching E = record { corners = E.corners_reach; rings = E.rings_reach; boxes = E.boxes_reach; parts = E.parts_reach; edges = E.edges_reach; beside = beside E.polygons_reach }

  -- as the model's steps have it
  as_looked : Ways.Looked call d ranged location reply
  as_looked = record {
    before = looked.early;
    only = only;
    short = λ unmarked near n. (looked.looked unmarked near).short (λ E. n (reaching E));
    exact = λ s unmarked. exact s unmarked ranged refl;
  }
    where
      exact : Sound d → d.state.out_of_range ≡ false → (r : Bool) → ranged ≡ r → reply ≡ Ok location
      exact s unmarked true g = (looked.looked unmarked g).exact (record { plan = s.plan; index = s.index })
      exact s unmarked false g = looked.early (inr g) ∙ ap Ok (sym (out g))

pub locate_is_step : (d : Prepared) (p : Point) (reply : Reply) → Looked d.state d.corners d.rings d.polygons d.boxes d.parts d.edges (in_range p) (plan_reply (plan_held d) p) reply → Step (Locate p) d (answer_of reply) d
locate_is_step d p reply looked = locate_step d p reply (as_looked (Locate p) d (λ h. h) (in_range p) (plan_reply (plan_held d) p) (far (plan_held d) p) reply looked)

pub locate_doubled_is_step : (d : Prepared) (p : Point) (reply : Reply) → Looked d.state d.corners d.rings d.polygons d.boxes d.parts d.edges (in_doubled_range p) (plan_half_reply (plan_held d) p) reply → Step (LocateDoubled p) d (answer_of reply) d
locate_doubled_is_step d p reply looked = locate_doubled_step d p reply (as_looked (LocateDoubled p) d (λ h. h) (in_doubled_range p) (plan_half_reply (plan_held d) p) (half_far (plan_held d) p) reply looked)
