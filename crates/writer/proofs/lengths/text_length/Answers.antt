-- `writer::lengths::text_length` meets its contract.
use borrow.Author.Rules.{rules}
use mathlib.Core.Path.{sym}
use native.Mathlib.Omega.{arith}
use Rattle.writer.proofs.Members.{as_list, drawn_list, all_rings, coordinates_few, rings_few, polygons_few, corners_sum, corners_few}
use Rattle.writer.proofs.Measures.{empty_long, text_long, same_long}
use Rattle.writer.proofs.lengths.text_length.Goals as goal

pub rings_length-rings-requires : goal.rings_length-rings-requires
rings_length-rings-requires c =
    let p = c.plan.inside in
    let d = drawn_list _ _ c.plan.view_is c.requires in (
      all_rings p.coordinates.now p.lengths.now p.counts.now d,
      coordinates_few p.coordinates.now p.lengths.now p.counts.now d,
      rings_few p.coordinates.now p.lengths.now p.counts.now d,
    )

pub returns-then-is_empty : goal.returns-then-is_empty
returns-then-is_empty c =
    let p = c.plan.inside in
    let d = drawn_list _ _ c.plan.view_is c.requires in
    same_long _ _ _ (sym (as_list _ _ c.plan.view_is c.requires)) (empty_long p.coordinates.now p.lengths.now p.counts.now d _ c.rings_length-rings.ensures (search rules))

pub overflow_add-result-3 : goal.overflow_add-result-3
overflow_add-result-3 c =
    let p = c.plan.inside in
    let d = drawn_list _ _ c.plan.view_is c.requires in
    omega (arith, c.rings_length-rings.ensures.small, polygons_few p.coordinates.now p.lengths.now p.counts.now d, rings_few p.coordinates.now p.lengths.now p.counts.now d, corners_sum p.coordinates.now p.lengths.now p.counts.now d, corners_few p.coordinates.now p.lengths.now p.counts.now d)

pub returns : goal.returns
returns c =
    let p = c.plan.inside in
    let d = drawn_list _ _ c.plan.view_is c.requires in
    same_long _ _ _ (sym (as_list _ _ c.plan.view_is c.requires)) (text_long p.coordinates.now p.lengths.now p.counts.now d _ c.rings_length-rings.ensures (search rules))
