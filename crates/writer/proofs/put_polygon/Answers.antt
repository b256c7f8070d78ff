-- `writer::put_polygon` meets its contract.
use native.Mathlib.Omega.{arith}
use Rattle.writer.proofs.Slices.{part_reach, part_some}
use Rattle.writer.proofs.Polygons.{drawing, drawing_kept, lead_room, after_lead_room, drawing_on, bracket_room, polygon_wrote}
use Rattle.writer.proofs.put_polygon.Goals as goal

pub loop-i-init : goal.loop-i-init
loop-i-init c = let a = c.args in drawing a.coordinates.now a.lengths.now a.at a.output.now

pub overflow_add-end : goal.overflow_add-end
overflow_add-end c =
    let a = c.args in
    let l = c.loop-i in
    omega (arith, part_reach a.coordinates.now a.lengths.now c.requires.0 l.first l.i l.invariant.here c.loop-i-test.true, c.well_formed)

pub put_lead-next-requires : goal.put_lead-next-requires
put_lead-next-requires c =
    let a = c.args in
    let l = c.loop-i in
    lead_room a.coordinates.now a.lengths.now c.requires.0 c.requires.1 a.at a.output.now c.requires.2 l.output l.place l.first l.i l.invariant c.loop-i-test.true

pub overflow_mul-first : goal.overflow_mul-first
overflow_mul-first c =
    let a = c.args in
    let l = c.loop-i in
    omega (arith, part_reach a.coordinates.now a.lengths.now c.requires.0 l.first l.i l.invariant.here c.loop-i-test.true, c.well_formed)

pub overflow_mul-end : goal.overflow_mul-end
overflow_mul-end c =
    let a = c.args in
    let l = c.loop-i in
    omega (arith, part_reach a.coordinates.now a.lengths.now c.requires.0 l.first l.i l.invariant.here c.loop-i-test.true, c.well_formed)

pub offset_bounds-coordinates-first : goal.offset_bounds-coordinates-first
offset_bounds-coordinates-first c =
    let a = c.args in
    let l = c.loop-i in
    omega (arith, part_reach a.coordinates.now a.lengths.now c.requires.0 l.first l.i l.invariant.here c.loop-i-test.true, c.well_formed)

pub slice_bounds-put_ring-end : goal.slice_bounds-put_ring-end
slice_bounds-put_ring-end c =
    let a = c.args in
    let l = c.loop-i in
    part_reach a.coordinates.now a.lengths.now c.requires.0 l.first l.i l.invariant.here c.loop-i-test.true

pub put_ring-place-requires : goal.put_ring-place-requires
put_ring-place-requires c =
    let a = c.args in
    let l = c.loop-i in (
      part_some a.coordinates.now a.lengths.now c.requires.0 l.first l.i l.invariant.here c.loop-i-test.true,
      after_lead_room a.coordinates.now a.lengths.now c.requires.0 c.requires.1 a.at a.output.now c.requires.2 l.output l.place l.first l.i l.invariant c.loop-i-test.true _ _ c.put_lead-next.ensures,
    )

pub loop-i-preserved : goal.loop-i-preserved
loop-i-preserved c =
    let a = c.args in
    let l = c.loop-i in
    drawing_on a.coordinates.now a.lengths.now c.requires.0 c.requires.1 a.at a.output.now c.requires.2 l.output l.place l.first l.i l.invariant c.loop-i-test.true _ _ c.put_lead-next.ensures _ _ c.put_ring-place.ensures

pub put-requires : goal.put-requires
put-requires c =
    let a = c.args in
    let l = c.loop-i in
    bracket_room a.coordinates.now a.lengths.now c.requires.0 c.requires.1 a.at a.output.now c.requires.2 l.output l.place l.first l.i l.invariant c.loop-i-test.false

pub shape_of-output : goal.shape_of-output
shape_of-output c =
    let a = c.args in
    let l = c.loop-i in
    omega (arith, drawing_kept a.coordinates.now a.lengths.now c.requires.0 c.requires.1 a.at a.output.now c.requires.2 l.output l.place l.first l.i l.invariant, c.put.auto.output)

pub returns : goal.returns
returns c =
    let a = c.args in
    let l = c.loop-i in
    polygon_wrote a.coordinates.now a.lengths.now c.requires.0 c.requires.1 a.at a.output.now c.requires.2 l.output l.place l.first l.i l.invariant c.loop-i-test.false _ _ c.put.ensures
