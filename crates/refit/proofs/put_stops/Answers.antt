-- `refit::put_stops` meets its contract.
use mathlib.Core.Path.{◌≡◌}
use native.Mathlib.Omega.{arith}
use Rattle.index.proofs.Tables.{kept_all, kept_set}
use Rattle.refit.proofs.Stopping.{stops_none, stops_more, stop_outside, edge_outside}
use Rattle.refit.proofs.put_stops.Goals as goal

pub loop-j-init : goal.loop-j-init
loop-j-init c =
    let a = c.args in
    (c.requires.last_ring_ends.0, kept_all a.size a.stops.now, stops_none a.n a.count a.rings.now a.edges.now a.first a.stops.now)

pub returns-then-n-e : goal.returns-then-n-e
returns-then-n-e c =
    let a = c.args in record { stops_say = edge_outside a.n a.count a.rings.now a.edges.now a.first a.size c.loop-j.j c.loop-j-test.true c.if-n-e.true; kept_from = c.loop-j.invariant.1 }

pub returns-then-n-stop : goal.returns-then-n-stop
returns-then-n-stop c =
    let a = c.args in record { stops_say = stop_outside a.n a.count a.rings.now a.edges.now a.first a.size c.loop-j.j c.loop-j-test.true c.ring_near-ring.result c.ring_near-ring.ensures c.next_corner-stop.result c.next_corner-stop.ensures c.if-n-stop.true; kept_from = c.loop-j.invariant.1 }

pub loop-j-preserved : goal.loop-j-preserved
loop-j-preserved c =
    let a = c.args in
    let l = c.loop-j in
    let ring = c.ring_near-ring in
    let next = c.next_corner-stop in (
      ring.ensures.ring,
      kept_set a.size a.stops.now l.stops l.j next.result c.loop-j-test.true l.invariant.1,
      stops_more a.n a.count a.rings.now a.edges.now a.first l.j l.stops l.invariant.2 (omega (arith, l.invariant.1.long, c.requires.size_in_bounds.1)) ring.result ring.ensures c.if-n-e.false next.result next.ensures c.if-n-stop.false,
    )

pub returns : goal.returns
returns c =
    let a = c.args in
    let l = c.loop-j in
    let e : l.j ≡ a.size = omega arith in record { stops_say = rw e at l.invariant.2; kept_from = l.invariant.1 }
