-- `prepared::first::first_not_outside` meets its contract. The invariant: every point so far is outside.
use Rattle.prepared.proofs.Listing.{Going}
use Rattle.prepared.proofs.first.first_not_outside.Given as goal

abbrev pub invariant-loop-k : goal.invariant-loop-k
invariant-loop-k l = Going l.state l.tables.corners.now l.tables.rings.now l.tables.polygons.now l.tables.boxes.now l.tables.parts.now l.tables.edges.now l.points l.k
