-- `writer::put_polygons` meets its contract.
use mathlib.Core.Path.{subst, sym}
use native.Mathlib.Omega.{arith}
use Rattle.fields.specs.Written.{Wrote}
use Rattle.grammar.specs.Texts.{polygon_text}
use Rattle.writer.specs.Drawn.{closed_polygons, leads}
use Rattle.writer.proofs.Members.{as_list, drawn_list, room_list, corners_few, first_reach, rings_reach, corners_reach, part_rings, part_rings_some, listing, listing_kept, lead_room, after_lead_room, listing_on, listed}
use Rattle.writer.proofs.put_polygons.Goals as goal

pub loop-i-init : goal.loop-i-init
loop-i-init c = let a = c.args in let p = c.plan.inside in listing p.coordinates.now p.lengths.now p.counts.now a.at a.output.now

pub overflow_add-end : goal.overflow_add-end
overflow_add-end c =
    let p = c.plan.inside in
    let d = drawn_list _ _ c.plan.view_is c.requires.0 in
    let l = c.loop-i in
    omega (arith, rings_reach p.coordinates.now p.lengths.now p.counts.now d l.first l.ring l.i l.invariant.here c.loop-i-test.true, c.well_formed)

pub offset_bounds-plan-inside-ring : goal.offset_bounds-plan-inside-ring
offset_bounds-plan-inside-ring c =
    let p = c.plan.inside in
    let d = drawn_list _ _ c.plan.view_is c.requires.0 in
    let l = c.loop-i in
    omega (arith, rings_reach p.coordinates.now p.lengths.now p.counts.now d l.first l.ring l.i l.invariant.here c.loop-i-test.true, c.well_formed)

pub slice_bounds-rings-end : goal.slice_bounds-rings-end
slice_bounds-rings-end c =
    let p = c.plan.inside in
    let d = drawn_list _ _ c.plan.view_is c.requires.0 in
    let l = c.loop-i in
    rings_reach p.coordinates.now p.lengths.now p.counts.now d l.first l.ring l.i l.invariant.here c.loop-i-test.true

pub put_lead-next-requires : goal.put_lead-next-requires
put_lead-next-requires c =
    let a = c.args in
    let p = c.plan.inside in
    let d = drawn_list _ _ c.plan.view_is c.requires.0 in
    let room = room_list _ _ c.plan.view_is c.requires.0 a.at a.output.now c.requires.1 in
    let l = c.loop-i in
    lead_room p.coordinates.now p.lengths.now p.counts.now d a.at a.output.now room l.output l.place l.first l.ring l.i l.invariant c.loop-i-test.true

pub overflow_mul-first : goal.overflow_mul-first
overflow_mul-first c =
    let p = c.plan.inside in
    let d = drawn_list _ _ c.plan.view_is c.requires.0 in
    let l = c.loop-i in
    omega (arith, first_reach p.coordinates.now p.lengths.now p.counts.now d l.first l.ring l.i l.invariant.here, c.well_formed)

pub offset_bounds-plan-inside-first : goal.offset_bounds-plan-inside-first
offset_bounds-plan-inside-first c =
    let p = c.plan.inside in
    let d = drawn_list _ _ c.plan.view_is c.requires.0 in
    let l = c.loop-i in
    omega (arith, first_reach p.coordinates.now p.lengths.now p.counts.now d l.first l.ring l.i l.invariant.here, c.well_formed)

pub slice_bounds-put_polygon-count : goal.slice_bounds-put_polygon-count
slice_bounds-put_polygon-count c =
    let p = c.plan.inside in
    let d = drawn_list _ _ c.plan.view_is c.requires.0 in
    let l = c.loop-i in
    first_reach p.coordinates.now p.lengths.now p.counts.now d l.first l.ring l.i l.invariant.here

pub slice_bounds-put_polygon-start : goal.slice_bounds-put_polygon-start
slice_bounds-put_polygon-start c =
    let p = c.plan.inside in
    let d = drawn_list _ _ c.plan.view_is c.requires.0 in
    let l = c.loop-i in
    first_reach p.coordinates.now p.lengths.now p.counts.now d l.first l.ring l.i l.invariant.here

pub put_polygon-place-requires : goal.put_polygon-place-requires
put_polygon-place-requires c =
    let a = c.args in
    let p = c.plan.inside in
    let d = drawn_list _ _ c.plan.view_is c.requires.0 in
    let room = room_list _ _ c.plan.view_is c.requires.0 a.at a.output.now c.requires.1 in
    let l = c.loop-i in (
      part_rings p.coordinates.now p.lengths.now p.counts.now d l.first l.ring l.i l.invariant.here c.loop-i-test.true,
      part_rings_some p.coordinates.now p.lengths.now p.counts.now d l.first l.ring l.i l.invariant.here c.loop-i-test.true,
      after_lead_room p.coordinates.now p.lengths.now p.counts.now d a.at a.output.now room l.output l.place l.first l.ring l.i l.invariant c.loop-i-test.true _ _ c.put_lead-next.ensures,
    )

pub corner_count-first-requires : goal.corner_count-first-requires
corner_count-first-requires c =
    let p = c.plan.inside in
    let d = drawn_list _ _ c.plan.view_is c.requires.0 in
    let l = c.loop-i in
    omega (arith, corners_reach p.coordinates.now p.lengths.now p.counts.now d l.first l.ring l.i l.invariant.here c.loop-i-test.true, corners_few p.coordinates.now p.lengths.now p.counts.now d)

pub overflow_add-first : goal.overflow_add-first
overflow_add-first c =
    let p = c.plan.inside in
    let d = drawn_list _ _ c.plan.view_is c.requires.0 in
    let l = c.loop-i in
    omega (arith, corners_reach p.coordinates.now p.lengths.now p.counts.now d l.first l.ring l.i l.invariant.here c.loop-i-test.true, corners_few p.coordinates.now p.lengths.now p.counts.now d, c.corner_count-first.ensures)

pub loop-i-preserved : goal.loop-i-preserved
loop-i-preserved c =
    let a = c.args in
    let p = c.plan.inside in
    let d = drawn_list _ _ c.plan.view_is c.requires.0 in
    let room = room_list _ _ c.plan.view_is c.requires.0 a.at a.output.now c.requires.1 in
    let l = c.loop-i in
    listing_on p.coordinates.now p.lengths.now p.counts.now d a.at a.output.now room l.output l.place l.first l.ring l.i l.invariant c.loop-i-test.true _ _ c.put_lead-next.ensures _ _ _ c.put_polygon-place.ensures c.corner_count-first.ensures

pub shape_of-output : goal.shape_of-output
shape_of-output c =
    let a = c.args in
    let p = c.plan.inside in
    let d = drawn_list _ _ c.plan.view_is c.requires.0 in
    let room = room_list _ _ c.plan.view_is c.requires.0 a.at a.output.now c.requires.1 in
    let l = c.loop-i in
    listing_kept p.coordinates.now p.lengths.now p.counts.now d a.at a.output.now room l.output l.place l.first l.ring l.i l.invariant

pub returns : goal.returns
returns c =
    let a = c.args in
    let p = c.plan.inside in
    let d = drawn_list _ _ c.plan.view_is c.requires.0 in
    let room = room_list _ _ c.plan.view_is c.requires.0 a.at a.output.now c.requires.1 in
    let l = c.loop-i in
    subst (λ plan. Wrote a.at (leads polygon_text 0 (closed_polygons plan)) a.output.now l.output l.place) (sym (as_list _ _ c.plan.view_is c.requires.0)) (listed p.coordinates.now p.lengths.now p.counts.now d a.at a.output.now room l.output l.place l.first l.ring l.i l.invariant c.loop-i-test.false)
