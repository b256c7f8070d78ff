-- What preparing gives a list of calls to start from: a plan just prepared in range, with nothing to undo, whatever stands in the undo table.
-- Assumes nothing.
use Rattle.std.specs.Prelude.{Option}
use mathlib.Core.Path.{◌≡◌, ap}
use mathlib.Core.Bool.{true}
use mathlib.Core.List.{List}
use Prim.Native.Nat.{ℕ, ◌*◌}
use native.Mathlib.Omega.{arith}
use lib.IntN.{ℤ}
use lib.ListN.{length}
use Rattle.rules.specs.declared.State.{State}
use Rattle.rules.specs.Plans.{Plan, plan_in_range}
use Rattle.prepare.specs.Tables.{Tables, Prepared}
use Rattle.prepare.proofs.Holding.{corners_even, kept}
use Rattle.prepare.proofs.Readiness.{accepted, state_is, held, near_unmarked, plan_sound, index_sound}
use Rattle.model.specs.Prepared.{plan_held}
use Rattle.model.specs.Demand.{Fresh}
use Rattle.replay.specs.Replays.{given}
use Rattle.prepare.specs.Answers.{ready_with}

module _ (plan : Plan) (before first : Tables) (state : State) (nodes : Option ℕ) (P : Prepared plan before first (ready_with state nodes)) (undo : List (List ℤ)) where
  nothing : state.undo_depth ≡ 0
  nothing = ap (λ (s : State). s.undo_depth) (state_is plan before first state nodes P)

  pub fresh : plan_in_range plan ≡ true → Fresh (given state first undo)
  fresh near = record {
    sound = record {
      plan = plan_sound plan before first state nodes P near;
      index = index_sound plan before first state nodes P near;
      records = record {
        reach = let e = nothing in omega arith;
        corner = λ k h. absurd (let e = nothing in omega arith);
        place = λ k h. absurd (let e = nothing in omega arith);
      };
    };
    unmarked = near_unmarked plan before first state nodes P near;
    nothing = nothing;
  }

  -- the plan in the tables
  pub first_held : plan_held (given state first undo) ≡ kept plan
  first_held = held plan before first state nodes P

  pub first_size : 2 * state.corners ≡ length plan.coordinates
  first_size = omega (arith, corners_even plan (accepted plan before first state nodes P), ap (λ (s : State). s.corners) (state_is plan before first state nodes P))
