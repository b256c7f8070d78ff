-- `placing::correct` meets its contract.
use mathlib.Core.Path.{refl}
use native.Mathlib.Omega.{arith}
use Rattle.std.proofs.lemmas.Result.{err_from_is_err_and}
use Rattle.placing.specs.Ways.{WaysFound}
use Rattle.placing.proofs.Finding.{refit_sound}
use Rattle.placing.proofs.Placing.{placed_made}
use Rattle.placing.proofs.correct.Goals as goal

pub returns-in_err-depth : goal.returns-in_err-depth
returns-in_err-depth c =
    let a = c.args in
    let refused = err_from_is_err_and c.from_residual-in_err-depth.result c.from_residual-in_err-depth.ensures.1 in
    rw refused.1 (record {
      number = refl;
      corners_same = refl;
      boxes_same = refl;
      never = λ S one. c.in_err-depth.ensures.never (omega arith) (omega arith) c.in_ok-places.ensures.start_place a.corners.now a.boxes.now (refit_sound a.n a.count a.corners.now a.rings.now a.boxes.now a.parts.now a.edges.now S);
    })

pub returns-in_err-other_depth : goal.returns-in_err-other_depth
returns-in_err-other_depth c =
    let a = c.args in
    let refused = err_from_is_err_and c.from_residual-in_err-other_depth.result c.from_residual-in_err-other_depth.ensures.1 in
    rw refused.1 (record {
      number = refl;
      corners_same = refl;
      boxes_same = refl;
      never = λ S one. c.in_err-other_depth.ensures.never (omega arith) (omega arith) c.in_ok-places.ensures.stop_place a.corners.now a.boxes.now (refit_sound a.n a.count a.corners.now a.rings.now a.boxes.now a.parts.now a.edges.now S);
    })

pub returns : goal.returns
returns c =
    let a = c.args in
    let one = c.find_way.new in
    let other = c.find_way-2.new in
    let places = c.in_ok-places.ensures in
    let found : WaysFound a.n a.count a.corners.now a.rings.now a.boxes.now a.parts.now a.edges.now a.i one.path one.stops other.path other.stops c.in_ok-depth.depth c.in_ok-other_depth.other_depth =
    record { at = c.in_ok-places.places; places = places; one = c.in_ok-depth.ensures.found; other = c.in_ok-other_depth.ensures.found } in
    placed_made a.n a.count a.corners.now a.rings.now a.boxes.now a.parts.now a.edges.now a.i one.path one.stops other.path other.stops c.in_ok-depth.depth c.in_ok-other_depth.other_depth found a.place _ _ c.place_corner.ensures c.corner_at-old.result c.corner_at-old.ensures (omega (arith, places.one, places.corners_reach, c.well_formed))
