-- `prepared::first::judge_points` meets its contract.
use Rattle.prepared.proofs.Listing.{verdict_many, verdict_uneven, verdict_good, points_judged}
use Rattle.prepared.proofs.first.judge_points.Goals as goal

pub returns-then-points-gt-MAX_POINTS : goal.returns-then-points-gt-MAX_POINTS
returns-then-points-gt-MAX_POINTS c = points_judged _ _ (verdict_many c.args.points.now c.if-points-gt-MAX_POINTS.true)

pub returns-then-points-eq1 : goal.returns-then-points-eq1
returns-then-points-eq1 c = points_judged _ _ (verdict_uneven c.args.points.now c.if-points-gt-MAX_POINTS.false c.if-points-eq1.true)

pub returns : goal.returns
returns c = points_judged _ _ (verdict_good c.args.points.now c.if-points-gt-MAX_POINTS.false c.if-points-eq1.false)
