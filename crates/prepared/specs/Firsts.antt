-- The first point of a list that is not outside (document 01, item 8, refusals 4 and 3 of a list of points).
use Rattle.std.specs.Prelude.{◌≡◌, true, false, cond, ◌⊎◌, List, [], ◌∷◌, ℕ, suc, ◌/◌, ◌<◌, ltb, ℤ, length, Result, Ok, Err, Option, Some, None}
use Rattle.geom.specs.declared.Point.{Point}
use Rattle.geom.specs.Range.{in_range}
use Rattle.rules.specs.declared.Location.{Location}
use Rattle.rules.specs.declared.Refusal.{Refusal}
use Rattle.rules.specs.declared.Refusal.TheVariants.{Uneven, TooMany, Unsound}
use Rattle.rules.specs.declared.State.{State}
use Rattle.rules.specs.Lists.{is_odd}
use Rattle.rules.specs.Numbers.{refusal_number, verdict_number}
use Rattle.rules.specs.Plans.{corners_of, corner_at, plan_reply}
use Rattle.rules.specs.Tables.{plan_of}
use Rattle.rings.specs.Places.{is_outside}
use Rattle.gather.specs.declared.tables.Tables.{Tables}
use Rattle.gather.specs.Regions.{Enough, LookSound}
use Rattle.rules.specs.Answering.{Verdict, Accepted}

-- the place of the first point that is not outside, if there is one, or a refusal
abbrev pub First : Type 0
First = Result (Option ℕ) Refusal

pattern abbrev pub found_at : ℕ → First
found_at k = Ok (Some k)

pattern abbrev pub all_outside : First
all_outside = Ok None

-- 4: more than 65,536 points, an odd list counted as half its length, rounded down; then 3: an odd list
unfoldable pub points_verdict : List ℤ → Verdict
points_verdict points =
    cond (ltb 65536 (length points / 2)) (Err TooMany)
    (cond (is_odd (length points)) (Err Uneven) Accepted)

-- the verdict, and its number by the same conditions
pub record PointsJudged (points : List ℤ) (r : Verdict) : Type 0 where
  pub verdict : r ≡ points_verdict points
  pub number : verdict_number r ≡ cond (ltb 65536 (length points / 2)) 4 (cond (is_odd (length points)) 3 0)

-- item 8: the place of the earliest point whose reply is not outside; the first of these points has place k
unfoldable pub first_from : (Point → Location) → ℕ → List Point → First
first_from reply k [] = all_outside
first_from reply k (p ∷ points) = cond (is_outside (reply p)) (first_from reply (suc k) points) (found_at k)

abbrev pub first_of : (Point → Location) → List Point → First
first_of reply points = first_from reply 0 points

-- 0 where the list is answered, or the refusal's number
abbrev pub first_number : First → ℕ
first_number (found_at k) = 0
first_number all_outside = 0
first_number (Err refusal) = refusal_number refusal

-- 15 where neither 4 nor 3 is the refusal
abbrev pub number_else : First → ℕ
number_else (found_at k) = 0
number_else all_outside = 0
number_else (Err refusal) = 15

-- what is promised: refusals 4 and 3 of the list, on any plan; then none on a marked plan and where no point is in range; 15 where some
-- point is and a table is too short; and the plan's first on sound tables. On other tables the place of a listed point in range, none,
-- or 15
pub record FirstSays (state : State) (corners : List ℤ) (rings polygons : List ℕ) (boxes : List (List ℤ)) (parts : List (List ℕ)) (edges : List ℕ) (points : List ℤ) (r : First) : Type 0 where
  pub judged : (refusal : Refusal) → points_verdict points ≡ Err refusal → r ≡ Err refusal
  pub alone : (refusal : Refusal) → r ≡ Err refusal → (points_verdict points ≡ Err refusal) ⊎ (refusal ≡ Unsound)
  pub number : first_number r ≡ cond (ltb 65536 (length points / 2)) 4 (cond (is_odd (length points)) 3 (number_else r))
  pub inside : (k : ℕ) → r ≡ found_at k → (k < length points / 2) × (in_range (corner_at points k) ≡ true)
  pub marked : points_verdict points ≡ Accepted → state.out_of_range ≡ true → r ≡ all_outside
  pub beyond : points_verdict points ≡ Accepted → ((k : ℕ) → k < length points / 2 → in_range (corner_at points k) ≡ false) → r ≡ all_outside
  pub short : points_verdict points ≡ Accepted → state.out_of_range ≡ false → (k : ℕ) → k < length points / 2 → in_range (corner_at points k) ≡ true
      → (Enough state (length corners) (length rings) (length polygons) (length boxes) (length parts) (length edges) → ⊥) → r ≡ Err Unsound
  pub exact : points_verdict points ≡ Accepted → state.out_of_range ≡ false → LookSound state corners rings polygons boxes parts edges
      → r ≡ first_of (plan_reply (plan_of state corners rings polygons)) (corners_of points)

-- in tables that are lent
abbrev pub FirstIn : State → Tables → List ℤ → First → Type 0
FirstIn state tables = FirstSays state tables.corners.now tables.rings.now tables.polygons.now tables.boxes.now tables.parts.now tables.edges.now
