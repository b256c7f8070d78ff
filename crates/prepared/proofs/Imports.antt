-- From preparing to look-ups: over the tables that `prepare` leaves, each look-up gives the reply of the plan handed in, marked or not, for
-- every point. Assumes nothing.
use Rattle.std.specs.Prelude.{Ok, Option}
use mathlib.Core.Path.{◌≡◌, refl, sym, ◌∙◌, ap}
use mathlib.Core.Bool.{Bool, true, false, cond, ◌&&◌, not}
use mathlib.Core.Logic.{inl, inr}
use mathlib.Core.List.{List}
use Prim.Native.Nat.{ℕ}
use lib.IntN.{ℤ, pos}
use lib.ListN.{get_or}
use Rattle.geom.specs.declared.Point.{Point}
use Rattle.geom.specs.Range.{in_range, in_doubled_range}
use Rattle.rules.specs.declared.Location.{Location}
use Rattle.rules.specs.declared.Location.TheVariants.{Outside}
use Rattle.rules.specs.declared.State.{State}
use Rattle.rules.specs.Plans.{Plan, corners_of, rings_of, plan_in_range, kind_reply, plan_reply, plan_half_reply}
use Rattle.rules.specs.Replies.{half_reply}
use Rattle.gather.specs.Regions.{LookSound}
use Rattle.query.specs.Calls.{LookedUp}
use Rattle.query.proofs.LookUps.{far, half_far}
use Rattle.prepare.specs.Tables.{Tables, Prepared}
use Rattle.prepare.proofs.Readiness.{held_in, held_reply, held_half, marked_is, near_unmarked, plan_sound, index_sound}
use Rattle.prepared.specs.Calls.{Looked}
use Rattle.prepared.specs.Firsts.{points_verdict, first_of, FirstSays, First}
use Rattle.prepared.proofs.Listing.{all_none}
use Rattle.rules.specs.Answering.{Reply, Accepted}
use Rattle.prepare.specs.Answers.{ready_with}

-- a plan with a corner out of range: every point is outside
stray : (plan : Plan) (p : Point) → plan_in_range plan ≡ false → plan_reply plan p ≡ Outside
unfolding plan_reply
stray plan p e = λ t. cond (e t && in_range p) (kind_reply plan.kind plan p) Outside

half_stray : (plan : Plan) (p : Point) → plan_in_range plan ≡ false → plan_half_reply plan p ≡ Outside
unfolding plan_half_reply
half_stray plan p e = λ t. cond (e t && in_doubled_range p) (half_reply (rings_of plan) p) Outside

module _ (plan : Plan) (before after : Tables) (state : State) (nodes : Option ℕ) (P : Prepared plan before after (ready_with state nodes)) where
  -- a plan in range has sound tables
  pub look_sound : plan_in_range plan ≡ true → LookSound state after.corners after.rings after.polygons after.boxes after.parts after.edges
  look_sound near = record { plan = plan_sound plan before after state nodes P near; index = index_sound plan before after state nodes P near }

  -- on either grid: the reply in the tables is the plan's, outside of a point out of range and of a marked plan
  module _ (ranged : Bool) (held location : Location) (is : held ≡ location) (out : ranged ≡ false → location ≡ Outside) (marked : plan_in_range plan ≡ false → location ≡ Outside) (r : Reply) where
    -- through the boxes, with any ray
    imported : Looked state after.corners after.rings after.polygons after.boxes after.parts after.edges ranged held r → r ≡ Ok location
    imported looked = go (plan_in_range plan) ranged refl refl
      where
        go : (near in_range_lem : Bool) → plan_in_range plan ≡ near → ranged ≡ in_range_lem → r ≡ Ok location
        go false in_range_lem e f = looked.early (inl (marked_is plan before after state nodes P ∙ ap not e)) ∙ ap Ok (sym (marked e))
        go true false e f = looked.early (inr f) ∙ ap Ok (sym (out f))
        go true true e f = (looked.looked (near_unmarked plan before after state nodes P e) f).exact (look_sound e) ∙ ap Ok is

    -- ring by ring
    edited : LookedUp state after.corners after.rings after.polygons ranged held r → r ≡ Ok location
    edited looked = go (plan_in_range plan) refl
      where
        go : (near : Bool) → plan_in_range plan ≡ near → r ≡ Ok location
        go false e = looked.early (inl (marked_is plan before after state nodes P ∙ ap not e)) ∙ ap Ok (sym (marked e))
        go true e = looked.exact (plan_sound plan before after state nodes P e) (near_unmarked plan before after state nodes P e) ∙ ap Ok is

  module _ (p : Point) (r : Reply) where
    -- `locate`, `locate_along` with any ray
    pub grid_imported : Looked state after.corners after.rings after.polygons after.boxes after.parts after.edges (in_range p) (plan_reply (held_in state after) p) r → r ≡ Ok (plan_reply plan p)
    grid_imported looked = imported (in_range p) (plan_reply (held_in state after) p) (plan_reply plan p) (held_reply plan before after state nodes P p) (far plan p) (stray plan p) r looked

    -- `locate_doubled`, `locate_doubled_along` with any ray
    pub half_imported : Looked state after.corners after.rings after.polygons after.boxes after.parts after.edges (in_doubled_range p) (plan_half_reply (held_in state after) p) r → r ≡ Ok (plan_half_reply plan p)
    half_imported looked = imported (in_doubled_range p) (plan_half_reply (held_in state after) p) (plan_half_reply plan p) (held_half plan before after state nodes P p) (half_far plan p) (half_stray plan p) r looked

    -- `locate_by_rings`
    pub grid_edited : LookedUp state after.corners after.rings after.polygons (in_range p) (plan_reply (held_in state after) p) r → r ≡ Ok (plan_reply plan p)
    grid_edited looked = edited (in_range p) (plan_reply (held_in state after) p) (plan_reply plan p) (held_reply plan before after state nodes P p) (far plan p) (stray plan p) r looked

    -- `locate_doubled_by_rings`
    pub half_edited : LookedUp state after.corners after.rings after.polygons (in_doubled_range p) (plan_half_reply (held_in state after) p) r → r ≡ Ok (plan_half_reply plan p)
    half_edited looked = edited (in_doubled_range p) (plan_half_reply (held_in state after) p) (plan_half_reply plan p) (held_half plan before after state nodes P p) (half_far plan p) (half_stray plan p) r looked

  -- `first_not_outside`: the plan's first, also where the plan is marked
  pub first_imported : (points : List ℤ) (r : First) → points_verdict points ≡ Accepted → FirstSays state after.corners after.rings after.polygons after.boxes after.parts after.edges points r → r ≡ first_of (plan_reply plan) (corners_of points)
  first_imported points r v says = go (plan_in_range plan) refl
    where
      origin : Point
      origin = record { x = pos 0; y = pos 0 }

      go : (near : Bool) → plan_in_range plan ≡ near → r ≡ first_of (plan_reply plan) (corners_of points)
      go true e =
          says.exact v (near_unmarked plan before after state nodes P e) (look_sound e)
          ∙ (λ t. first_of (λ p. held_reply plan before after state nodes P p t) (corners_of points))
      go false e =
          says.marked v (marked_is plan before after state nodes P ∙ ap not e)
          ∙ sym (all_none (plan_reply plan) 0 (corners_of points) origin (λ j h. stray plan (get_or (corners_of points) j origin) e))
