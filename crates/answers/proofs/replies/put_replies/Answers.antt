-- `answers::replies::put_replies` meets its contract.
use Rattle.std.proofs.Common.{rules, ◌+◌, drop, ap, subst}
use Rattle.fields.specs.Pieces.{split}
use Rattle.fields.specs.Written.{Wrote}
use Rattle.rules.specs.Plans.{Plan}
use Rattle.rules.specs.Tables.{plan_of}
use Rattle.answers.specs.Replies.{replies}
use Rattle.answers.proofs.Replying.{refused_room, refused, asked_room, asked, all_replied}
use Rattle.answers.proofs.replies.put_replies.Goals as goal
use Rattle.answers.proofs.replies.put_replies.Goals.{Start}

-- the plan that is replied from
abbrev plan : Start → Plan
plan s = plan_of s.args.state s.args.tables.now.corners.now s.args.tables.now.rings.now s.args.tables.now.polygons.now

pub refuse-requires : goal.refuse-requires
refuse-requires c =
    let o = c.loop-k.output in
    let a = c.args in
    let s = c.in-Some.ensures.steps in
    refused_room (plan (goal.at.refuse-requires c).Start) a.input.now a.first a.number a.output.now c.requires.1 o.bytes.now o.at _ _ c.loop-k.invariant.2 c.in-Some.line _ s.0 c.in_default.ensures (a.number + c.in-Some.k) (ap (λ k. a.number + k) s.1)

pub returns-in_default : goal.returns-in_default
returns-in_default c =
    let o = c.loop-k.output in
    let a = c.args in
    let s = c.in-Some.ensures.steps in
    subst (λ bytes. Wrote 0 (replies (plan (goal.at.returns-in_default c).Start) a.number (split 10 (drop a.first a.input.now))) a.output.now bytes c.refuse.new.output.at) (search rules)
    (refused (plan (goal.at.returns-in_default c).Start) a.input.now a.first a.number a.output.now c.requires.1 o.bytes.now o.at _ _ c.loop-k.invariant.2 c.in-Some.line _ s.0 c.in_default.ensures (a.number + c.in-Some.k) (ap (λ k. a.number + k) s.1) _ _ c.refuse.ensures.wrote)

pub put_reply-requires : goal.put_reply-requires
put_reply-requires c =
    let o = c.loop-k.output in
    let a = c.args in
    let q = c.in-Some-query_on.ensures in
    (c.requires.0, asked_room (plan (goal.at.put_reply-requires c).Start) a.input.now a.first a.number a.output.now c.requires.1 o.bytes.now o.at _ _ c.loop-k.invariant.2 c.in-Some.line _ c.in-Some.ensures.steps.0 c.in-Some-query_on.row.now c.in-Some-query_on.query q.0 q.1)

pub loop-k-preserved : goal.loop-k-preserved
loop-k-preserved c =
    let o = c.loop-k.output in
    let a = c.args in
    let s = c.in-Some.ensures.steps in
    let q = c.in-Some-query_on.ensures in
    (search rules, search rules, asked (plan (goal.at.loop-k-preserved c).Start) a.input.now a.first a.number a.output.now c.requires.1 o.bytes.now o.at _ _ c.loop-k.invariant.2 c.in-Some.line _ s.0 c.in-Some-query_on.row.now c.in-Some-query_on.query q.0 q.1 _ _ _ c.put_reply.ensures.wrote (search rules), search rules)

pub returns : goal.returns
returns c =
    let o = c.loop-k.output in
    let a = c.args in
    subst (λ bytes. Wrote 0 (replies (plan (goal.at.returns c).Start) a.number (split 10 (drop a.first a.input.now))) a.output.now bytes o.at) (search rules)
    (all_replied (plan (goal.at.returns c).Start) a.input.now a.first a.number a.output.now c.requires.1 o.bytes.now o.at _ _ c.loop-k.invariant.2 c.in-None.ensures.steps.0.0)
