-- `cut::keys::pack` meets its contract, place by place (`Packing`).
use mathlib.Core.Path.{◌≡◌, ap, ◌∙◌}
use native.Mathlib.Omega.{arith}
use Prim.Native.Nat.{◌+◌, ◌<◌}
use lib.ListN.{get_or}
use Rattle.boxes.specs.Boxes.{edge_box}
use Rattle.boxes.proofs.Rings.{searchable}
use Rattle.boxes.proofs.Leasts.{edge_near}
use Rattle.integers.proofs.Bits.{rd, rd_is}
use Rattle.cut.specs.Keys.{key_of, edge_key, packed_of, packed_edge}
use Rattle.cut.proofs.Packing.{mapped_none, mapped_more, mapped_next, mapped_names, key_small}
use Rattle.cut.proofs.keys.pack.Goals as goal
use Rattle.cut.proofs.keys.pack.Goals.{After-key_of, In-loop-i}

pub loop-i-init : goal.loop-i-init
loop-i-init c =
    let a = c.args in (
      λ some. (searchable a.n a.count a.rings.now c.requires.ring_ends (get_or a.edges.now a.first 0) (c.requires.names.each a.first (omega arith) some)).0,
      mapped_none (packed_edge a.corners.now a.rings.now a.axis) a.first a.edges.now,
    )

-- the edge that is packed
named : (c : In-loop-i) → get_or c.loop-i.edges c.loop-i.i 0 < c.args.n
named c =
    let a = c.args in
    let l = c.loop-i in
    mapped_names (packed_edge a.corners.now a.rings.now a.axis) a.n a.first a.size l.i a.edges.now l.edges l.invariant.1 c.requires.names (omega arith) c.loop-i-test.true

-- the key as it was read
keyed : (c : After-key_of) → let a = c.args in let l = c.loop-i in rd c.key_of.result ≡ edge_key a.corners.now a.rings.now a.axis (get_or l.edges l.i 0)
unfolding edge_key
keyed c =
    let a = c.args in
    rd_is c.key_of.result (record { sfits = c.key_of.type_inv }) ∙ c.key_of.ensures ∙ ap (key_of a.axis) c.edge_box-b.ensures

pub ring_near-ring-requires : goal.ring_near-ring-requires
ring_near-ring-requires c =
    let a = c.args in
    let l = c.loop-i in
    let asks = searchable a.n a.count a.rings.now c.requires.ring_ends (get_or l.edges l.i 0) (named (goal.at.ring_near-ring-requires c).In-loop-i) in
    (l.invariant.0 c.loop-i-test.true, asks.1, asks.2)

pub key_of-requires : goal.key_of-requires
key_of-requires c =
    let l = c.loop-i in
    rw c.edge_box-b.ensures (edge_near c.args.n c.args.count c.args.corners.now c.args.rings.now c.requires.corners_near c.requires.ring_ends (get_or l.edges l.i 0) (named (goal.at.key_of-requires c).In-loop-i))

pub packed-requires : goal.packed-requires
unfolding edge_key
packed-requires c =
    let a = c.args in
    let l = c.loop-i in
    let here = named (goal.at.packed-requires c).In-loop-i in
    (rw (keyed c) (key_small a.axis (edge_box a.corners.now a.rings.now (get_or l.edges l.i 0)) (edge_near a.n a.count a.corners.now a.rings.now c.requires.corners_near c.requires.ring_ends (get_or l.edges l.i 0) here)), omega (arith, here, c.requires.corners_near.few))

pub loop-i-preserved : goal.loop-i-preserved
loop-i-preserved c =
    let a = c.args in
    let l = c.loop-i in
    let g = packed_edge a.corners.now a.rings.now a.axis in (
      λ some. c.ring_near-ring.ensures.ring,
      mapped_more g a.first l.i a.edges.now l.edges c.packed.result (omega arith) (omega (arith, c.requires.names.inside))
          (c.packed.ensures ∙ ap (λ key. packed_of key (get_or l.edges l.i 0)) (keyed (goal.at.loop-i-preserved c).After-key_of) ∙ ap g (mapped_next g a.first l.i a.edges.now l.edges l.invariant.1)) l.invariant.1,
    )

pub returns : goal.returns
returns c =
    let a = c.args in
    let l = c.loop-i in
    let e : l.i ≡ a.first + a.size = omega (arith, c.loop-i-test.false) in
    rw e at l.invariant.1
