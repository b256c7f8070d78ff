-- A point that is asked for, on either grid (document 01, items 6 and 7).
use Rattle.std.specs.Prelude.{Bool}
use Rattle.geom.specs.Range.{in_range, in_doubled_range}
use Rattle.rules.specs.declared.Location.{Location}
use Rattle.rules.specs.declared.Spot.{Spot}
use Rattle.rules.specs.declared.Spot.TheVariants.{OnGrid, Doubled}
use Rattle.rules.specs.Plans.{Plan, rings_of, kind_reply, plan_reply, plan_half_reply}
use Rattle.rules.specs.Replies.{half_reply}

abbrev pub spot_in_range : Spot → Bool
spot_in_range (OnGrid p) = in_range p
spot_in_range (Doubled p) = in_doubled_range p

-- items 4 and 7 without the range rule
abbrev pub near_reply : Plan → Spot → Location
near_reply plan (OnGrid p) = kind_reply plan.kind plan p
near_reply plan (Doubled p) = half_reply (rings_of plan) p

-- and with it
abbrev pub spot_reply : Plan → Spot → Location
spot_reply plan (OnGrid p) = plan_reply plan p
spot_reply plan (Doubled p) = plan_half_reply plan p
