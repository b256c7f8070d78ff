-- `boxes::edge_box` meets its contract.
use mathlib.Core.Path.{sym, ◌∙◌, ap}
use native.Mathlib.Omega.{arith}
use Rattle.geom.specs.Boxes.{rect_of}
use Rattle.rules.specs.Plans.{corner_at}
use Rattle.boxes.specs.Boxes.{edge_box}
use Rattle.boxes.specs.Rings.{edge_of}
use Rattle.boxes.proofs.Rings.{next_of_ring, next_inside, ring_inside}
use Rattle.boxes.proofs.edge_box.Goals as goal

pub corner_at-a-requires : goal.corner_at-a-requires
corner_at-a-requires c =
    omega (arith, ring_inside c.args.n c.args.count c.args.rings.now c.requires.ring_ends c.args.e c.args.r c.requires.ring_at)

pub corner_at-b-requires : goal.corner_at-b-requires
corner_at-b-requires c =
    let at = next_of_ring c.args.n c.args.count c.args.rings.now c.requires.ring_ends c.args.e c.args.r c.requires.ring_at in
    let inside = next_inside c.args.n c.args.count c.args.rings.now c.requires.ring_ends c.args.e (ring_inside c.args.n c.args.count c.args.rings.now c.requires.ring_ends c.args.e c.args.r c.requires.ring_at) in
    let same = c.next_corner.ensures in
    omega arith

pub returns : goal.returns
unfolding edge_box edge_of
returns c =
    let at = next_of_ring c.args.n c.args.count c.args.rings.now c.requires.ring_ends c.args.e c.args.r c.requires.ring_at in
    c.new.ensures
    ∙ (λ i. rect_of (c.corner_at-a.ensures i) ((c.corner_at-b.ensures ∙ ap (corner_at c.args.corners.now) (c.next_corner.ensures ∙ sym at)) i))
