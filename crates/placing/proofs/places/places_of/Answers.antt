-- `placing::places::places_of` meets its contract.
use Rattle.std.proofs.lemmas.Result.{err_from_is_err_and}
use Rattle.placing.proofs.Finding.{place_sound, previous_inside, places_found}
use Rattle.placing.proofs.places.places_of.Goals as goal

pub returns-in_err-before : goal.returns-in_err-before
returns-in_err-before c =
    let a = c.args in
    let refused = err_from_is_err_and c.from_residual-in_err-before.result c.from_residual-in_err-before.ensures.1 in
    let inside = previous_inside a.n a.count a.corners.now a.rings.now a.boxes.now a.parts.now a.edges.now a.i c.in_ok-edge.edge c.in_ok-edge.ensures c.previous_corner-previous.result c.previous_corner-previous.ensures in
    rw refused.1 (λ S one. c.in_err-before.ensures.never (place_sound a.n a.count a.corners.now a.rings.now a.boxes.now a.parts.now a.edges.now S c.previous_corner-previous.result (inside S.ends)))

pub returns : goal.returns
returns c =
    let a = c.args in
    places_found a.n a.count a.corners.now a.rings.now a.boxes.now a.parts.now a.edges.now a.i c.in_ok-edge.edge c.in_ok-edge.ensures c.previous_corner-previous.result c.previous_corner-previous.ensures _ _ c.in_ok-after.ensures c.in_ok-before.ensures
