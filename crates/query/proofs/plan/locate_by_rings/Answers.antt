-- `query::plan::locate_by_rings` meets its contract: settled early, a table too short, or the reply ring by ring.
use Rattle.std.specs.Prelude.{Ok}
use mathlib.Core.Path.{◌≡◌, sym, ◌∙◌, ap, subst}
use mathlib.Core.Bool.{true}
use Prim.Native.Nat.{◌*◌}
use native.Mathlib.Omega.{arith}
use lib.ListN.{take, length-take}
use Rattle.rules.specs.Spots.{spot_in_range, spot_reply}
use Rattle.rules.specs.Tables.{plan_of, polygons_in}
use Rattle.outlines.specs.declared.rows.Form.TheVariants.{Ends}
use Rattle.query.specs.Calls.{SpotShown}
use Rattle.query.proofs.Fits.{sound_fits, spot_located}
use Rattle.query.proofs.LookUps.{spot_far, marked, beyond, unsound, done, short_is, never_short, Long, long}
use Rattle.query.proofs.plan.locate_by_rings.Goals as goal
use Rattle.query.proofs.plan.locate_by_rings.Goals.{then-state-via-then-state, then-state-via-else-state+then-not-in_range, Else-corners-n, Else-not-in_range}

-- the plan is out of range, or the spot is
pub returns-then-state : goal.returns-then-state
returns-then-state c = let a = c.args in
    let place = spot_reply (plan_of a.state a.corners.now a.rings.now a.polygons.now) a.spot in
    elim c.then-state.branch [
      | then-state-via-then-state w ↦ marked a.state a.corners.now a.rings.now a.polygons.now (spot_in_range a.spot) place w.if-state.true
      | then-state-via-else-state+then-not-in_range w ↦
          let far = sym w.in_range.ensures ∙ w.if-not-in_range.true in
          beyond a.state a.corners.now a.rings.now a.polygons.now (spot_in_range a.spot) place far (spot_far (plan_of a.state a.corners.now a.rings.now a.polygons.now) a.spot far)
    ]

ranged : (c : Else-not-in_range) → spot_in_range c.args.spot ≡ true
ranged c = sym c.in_range.ensures ∙ c.if-not-in_range.false

pub returns-then-corners-n : goal.returns-then-corners-n
returns-then-corners-n c = let a = c.args in
    unsound a.state a.corners.now a.rings.now a.polygons.now (spot_in_range a.spot) (spot_reply (plan_of a.state a.corners.now a.rings.now a.polygons.now) a.spot) c.if-state.false (ranged (goal.at.returns-then-corners-n c).Else-not-in_range) (never_short a.state a.corners.now a.rings.now a.polygons.now c.polygons_in-q.result c.polygons_in-q.ensures c.if-corners-n.true)

-- every table reaches as far as the state says
reach : (c : Else-corners-n) → let a = c.args in Long a.state a.corners.now a.rings.now a.polygons.now c.polygons_in-q.result
reach c = let a = c.args in long a.state a.corners.now a.rings.now a.polygons.now c.polygons_in-q.result c.if-corners-n.false

pub overflow_mul-n : goal.overflow_mul-n
overflow_mul-n c = let h = reach c in omega (arith, h.corner_table)

pub slice_bounds-spot_reply-end : goal.slice_bounds-spot_reply-end
slice_bounds-spot_reply-end c = let h = reach (goal.at.slice_bounds-spot_reply-end c).Else-corners-n in simp length-take (omega (arith, h.corner_table))

pub slice_bounds-spot_reply-end-2 : goal.slice_bounds-spot_reply-end-2
slice_bounds-spot_reply-end-2 c = let h = reach (goal.at.slice_bounds-spot_reply-end-2 c).Else-corners-n in simp length-take (omega (arith, h.ring_table))

pub slice_bounds-spot_reply-end-3 : goal.slice_bounds-spot_reply-end-3
slice_bounds-spot_reply-end-3 c = let h = reach (goal.at.slice_bounds-spot_reply-end-3 c).Else-corners-n in simp length-take (omega (arith, h.polygon_table))

pub returns : goal.returns
unfolding plan_of
returns c =
    let a = c.args in
    let shown : SpotShown Ends a.state.kind (take (2 * a.state.corners) a.corners.now) (take a.state.rings a.rings.now) (take (polygons_in a.state.kind a.state.polygons) a.polygons.now) a.spot c.spot_reply.result
    = subst (λ q. SpotShown Ends a.state.kind (take (2 * a.state.corners) a.corners.now) (take a.state.rings a.rings.now) (take q a.polygons.now) a.spot c.spot_reply.result) c.polygons_in-q.ensures c.spot_reply.ensures in
    done a.state a.corners.now a.rings.now a.polygons.now (spot_in_range a.spot) (spot_reply (plan_of a.state a.corners.now a.rings.now a.polygons.now) a.spot) c.if-state.false (ranged (goal.at.returns c).Else-not-in_range) (sym (short_is a.state a.corners.now a.rings.now a.polygons.now c.polygons_in-q.result c.polygons_in-q.ensures) ∙ c.if-corners-n.false) c.spot_reply.result shown.placed
    (λ s. shown.exact (sound_fits a.state a.corners.now a.rings.now a.polygons.now s) s.near ∙ ap Ok (sym (spot_located (plan_of a.state a.corners.now a.rings.now a.polygons.now) a.spot true true s.near (ranged (goal.at.returns c).Else-not-in_range))))
