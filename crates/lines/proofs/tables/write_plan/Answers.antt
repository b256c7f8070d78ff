-- `lines::tables::write_plan` meets its contract: the tables start with the plan of the lines so far.
use Rattle.std.proofs.Common.{rules, length}
use Rattle.lines.proofs.Judging.{said_is}
use Rattle.lines.proofs.Writing.{Whole, whole, writing_begun, always_said, row_fits, done_countable, writing_onward, corners_written, lengths_written, counts_written}
use Rattle.lines.proofs.tables.write_plan.Goals as goal
use Rattle.lines.proofs.tables.write_plan.Goals.{Start}

-- what the text gives
given : (c : Start) → Whole c.args.text.now (length c.args.corners.now) (length c.args.lengths.now) (length c.args.counts.now)
given c = whole c.args.text.now (length c.args.corners.now) (length c.args.lengths.now) (length c.args.counts.now) c.requires.1

pub loop-line-init : goal.loop-line-init
loop-line-init c = (search rules, search rules, writing_begun c.args.text.now c.args.corners.now c.args.lengths.now c.args.counts.now c.empty_size-done.result _ c.empty_size-done.ensures (search rules))

pub store-requires : goal.store-requires
store-requires c =
    let a = c.args in
    let l = c.loop-line in
    row_fits a.text.now a.corners.now a.lengths.now a.counts.now c.requires.0 (given (goal.at.store-requires c).Start) l.corners l.lengths l.counts l.done _ l.invariant.2 c.in-Some.line _ c.in-Some.ensures.steps c.and_then.result (said_is c.in-Some.line c.ended.result c.and_then.result c.ended.ensures c.and_then.ensures) c.in-Some-and_then.row c.in-Some-and_then.is

pub counted-done-requires : goal.counted-done-requires
counted-done-requires c =
    let a = c.args in
    let l = c.loop-line in
    done_countable a.text.now a.corners.now a.lengths.now a.counts.now c.requires.0 (given (goal.at.counted-done-requires c).Start) l.corners l.lengths l.counts l.done _ l.invariant.2 c.in-Some.line _ c.in-Some.ensures.steps c.and_then.result (said_is c.in-Some.line c.ended.result c.and_then.result c.ended.ensures c.and_then.ensures) c.in-Some-and_then.row c.in-Some-and_then.is

pub loop-line-preserved-in-Some-and_then : goal.loop-line-preserved-in-Some-and_then
loop-line-preserved-in-Some-and_then c =
    let a = c.args in
    let l = c.loop-line in
    (search rules, search rules, writing_onward a.text.now a.corners.now a.lengths.now a.counts.now c.requires.0 (given (goal.at.loop-line-preserved-in-Some-and_then c).Start) l.corners l.lengths l.counts l.done _ l.invariant.2 c.in-Some.line _ c.in-Some.ensures.steps c.and_then.result (said_is c.in-Some.line c.ended.result c.and_then.result c.ended.ensures c.and_then.ensures) c.in-Some-and_then.row c.in-Some-and_then.is _ _ _ _ c.store.ensures c.counted-done.ensures)

pub loop-line-preserved : goal.loop-line-preserved
loop-line-preserved c =
    let a = c.args in
    let l = c.loop-line in
    absurd (always_said a.text.now a.corners.now a.lengths.now a.counts.now c.requires.0 (given (goal.at.loop-line-preserved c).Start) l.corners l.lengths l.counts l.done _ l.invariant.2 c.in-Some.line _ c.in-Some.ensures.steps c.and_then.result (said_is c.in-Some.line c.ended.result c.and_then.result c.ended.ensures c.and_then.ensures) c.in_default.is)

pub returns : goal.returns
returns c =
    let a = c.args in
    let l = c.loop-line in
    let g = given (goal.at.returns c).Start in
    let over = c.in-None.ensures.steps.0 in
    (corners_written a.text.now a.corners.now a.lengths.now a.counts.now c.requires.0 g l.corners l.lengths l.counts l.done _ l.invariant.2 over, lengths_written a.text.now a.corners.now a.lengths.now a.counts.now c.requires.0 g l.corners l.lengths l.counts l.done _ l.invariant.2 over, counts_written a.text.now a.corners.now a.lengths.now a.counts.now c.requires.0 g l.corners l.lengths l.counts l.done _ l.invariant.2 over)
