-- `boxes::part_box` meets its contract: the box of the edges read so far.
use mathlib.Core.Path.{sym, ap, ◌∙◌}
use Prim.Native.Nat.{◌+◌}
use native.Mathlib.Omega.{arith}
use lib.ListN.{get_or}
use Rattle.geom.specs.Boxes.{union_of}
use Rattle.boxes.specs.Boxes.{box_of}
use Rattle.boxes.proofs.Unions.{box_none, box_one, box_more}
use Rattle.boxes.proofs.Rings.{searchable}
use Rattle.boxes.proofs.part_box.Goals as goal

pub returns-then-size-eq0 : goal.returns-then-size-eq0
returns-then-size-eq0 c =
    let a = c.args in
    c.empty.ensures ∙ sym (ap (box_of a.corners.now a.rings.now a.edges.now a.first) c.if-size-eq0.true ∙ box_none a.corners.now a.rings.now a.edges.now a.first)

pub ring_near-ring-requires : goal.ring_near-ring-requires
ring_near-ring-requires c =
    let a = c.args in
    let asks = searchable a.n a.count a.rings.now c.requires.ring_ends (get_or a.edges.now a.first 0) (c.requires.names.each a.first (omega arith) (omega arith)) in
    (asks.0, asks.1, asks.2)

pub loop-k-init : goal.loop-k-init
loop-k-init c =
    let a = c.args in
    (c.ring_near-ring.ensures.ring, c.edge_box-b.ensures ∙ sym (box_one a.corners.now a.rings.now a.edges.now a.first))

pub ring_near-ring-requires-in-loop-k : goal.ring_near-ring-requires-in-loop-k
ring_near-ring-requires-in-loop-k c =
    let a = c.args in
    let l = c.loop-k in
    let asks = searchable a.n a.count a.rings.now c.requires.ring_ends (get_or a.edges.now (a.first + l.k) 0) (c.requires.names.each (a.first + l.k) (omega arith) (omega arith)) in
    (l.invariant.0, asks.1, asks.2)

pub loop-k-preserved : goal.loop-k-preserved
loop-k-preserved c =
    let a = c.args in
    let l = c.loop-k in (
      c.ring_near-ring-in-loop-k.ensures.ring,
      c.union-b.ensures ∙ (λ i. union_of (l.invariant.1 i) (c.edge_box.ensures i)) ∙ sym (box_more a.corners.now a.rings.now a.edges.now a.first l.k (omega arith)),
    )
