-- `writer::lengths::rings_length` meets its contract.
use native.Mathlib.Omega.{arith}
use Rattle.writer.proofs.Slices.{part_reach, part_length, part_some}
use Rattle.writer.proofs.Measures.{measuring, part_even, part_small, measuring_on, measured}
use Rattle.writer.proofs.lengths.rings_length.Goals as goal

pub loop-corners-init : goal.loop-corners-init
loop-corners-init c = measuring c.args.coordinates.now c.args.lengths.now

pub overflow_add-end : goal.overflow_add-end
overflow_add-end c =
    let a = c.args in
    let l = c.loop-corners in
    omega (arith, part_reach a.coordinates.now a.lengths.now c.requires.0 l.first l.corners-index l.invariant.here c.loop-corners-test.true, c.requires.1)

pub overflow_mul-first : goal.overflow_mul-first
overflow_mul-first c =
    let a = c.args in
    let l = c.loop-corners in
    omega (arith, part_reach a.coordinates.now a.lengths.now c.requires.0 l.first l.corners-index l.invariant.here c.loop-corners-test.true, c.requires.1)

pub overflow_mul-end : goal.overflow_mul-end
overflow_mul-end c =
    let a = c.args in
    let l = c.loop-corners in
    omega (arith, part_reach a.coordinates.now a.lengths.now c.requires.0 l.first l.corners-index l.invariant.here c.loop-corners-test.true, c.requires.1)

pub offset_bounds-coordinates-first : goal.offset_bounds-coordinates-first
offset_bounds-coordinates-first c =
    let a = c.args in
    let l = c.loop-corners in
    omega (arith, part_reach a.coordinates.now a.lengths.now c.requires.0 l.first l.corners-index l.invariant.here c.loop-corners-test.true, c.requires.1)

pub slice_bounds-ring_length-end : goal.slice_bounds-ring_length-end
slice_bounds-ring_length-end c =
    let a = c.args in
    let l = c.loop-corners in
    part_reach a.coordinates.now a.lengths.now c.requires.0 l.first l.corners-index l.invariant.here c.loop-corners-test.true

pub ring_length-sum-requires : goal.ring_length-sum-requires
ring_length-sum-requires c =
    let a = c.args in
    let l = c.loop-corners in (
      part_some a.coordinates.now a.lengths.now c.requires.0 l.first l.corners-index l.invariant.here c.loop-corners-test.true,
      omega (arith, part_length a.coordinates.now a.lengths.now c.requires.0 l.first l.corners-index l.invariant.here c.loop-corners-test.true, part_reach a.coordinates.now a.lengths.now c.requires.0 l.first l.corners-index l.invariant.here c.loop-corners-test.true, c.requires.1),
      part_even a.coordinates.now a.lengths.now c.requires.0 l.sum l.first l.corners-index l.invariant c.loop-corners-test.true,
    )

pub overflow_add-sum : goal.overflow_add-sum
overflow_add-sum c =
    let a = c.args in
    let l = c.loop-corners in
    omega (arith, part_small a.coordinates.now a.lengths.now c.requires.0 l.sum l.first l.corners-index l.invariant c.loop-corners-test.true _ c.ring_length-sum.ensures, l.invariant.small, part_reach a.coordinates.now a.lengths.now c.requires.0 l.first l.corners-index l.invariant.here c.loop-corners-test.true, c.requires.1, c.requires.2, c.loop-corners-test.true)

pub loop-corners-preserved : goal.loop-corners-preserved
loop-corners-preserved c =
    let a = c.args in
    let l = c.loop-corners in
    measuring_on a.coordinates.now a.lengths.now c.requires.0 l.sum l.first l.corners-index l.invariant c.loop-corners-test.true _ c.ring_length-sum.ensures

pub returns : goal.returns
returns c =
    let a = c.args in
    let l = c.loop-corners in
    measured a.coordinates.now a.lengths.now c.requires.0 l.sum l.first l.corners-index l.invariant c.loop-corners-test.false
