-- A plan, its refusals 4 and 3, and its replies under the range rule (document 01, items 4, 6 and 7, "From the input").
use Rattle.std.specs.Prelude.{◌≡◌, Bool, true, false, not, cond, ◌&&◌, ◌||◌, List, [], ◌∷◌, ℕ, ◌+◌, ◌*◌, ◌/◌, eqb, ltb, ℤ, pos, length, get_or, Err, Ok}
use Rattle.geom.specs.declared.Point.{Point}
use Rattle.geom.specs.Range.{in_range, in_doubled_range}
use Rattle.rules.specs.declared.Kind.{Kind}
use Rattle.rules.specs.declared.Kind.TheVariants.{Polygons, Tree}
use Rattle.rules.specs.declared.Location.{Location}
use Rattle.rules.specs.declared.Location.TheVariants.{Outside}
use Rattle.rules.specs.declared.Refusal.TheVariants.{Uneven, TooMany}
use Rattle.rules.specs.Lists.{any_of, total, is_odd, parts_of}
use Rattle.rules.specs.Numbers.{verdict_number}
use Rattle.rules.specs.Replies.{list_reply, tree_reply, half_reply}
use Rattle.rules.specs.Answering.{Reply, Verdict, Accepted}

-- a plan as it is handed in: coordinates x, y, x, y, .., the length of each ring, and how many rings each polygon has
pub record Plan : Type 0 where
  pub kind : Kind
  pub coordinates : List ℤ
  pub lengths : List ℕ
  pub counts : List ℕ

-- the corners in plan order; an odd number at the end is none
unfoldable pub corners_of : List ℤ → List Point
corners_of [] = []
corners_of (x ∷ []) = []
corners_of (x ∷ y ∷ rest) = record { x = x; y = y } ∷ corners_of rest

-- corner i, by its place in the coordinates
abbrev pub corner_at : List ℤ → ℕ → Point
corner_at coordinates i = record { x = get_or coordinates (2 * i) (pos 0); y = get_or coordinates (2 * i + 1) (pos 0) }

-- the rings in plan order
unfoldable pub rings_of : Plan → List (List Point)
rings_of plan = parts_of plan.lengths (corners_of plan.coordinates)

-- the polygons of a list, each its outer ring and then its holes
unfoldable pub polygons_of : Plan → List (List (List Point))
polygons_of plan = parts_of plan.counts (rings_of plan)

-- ---- the refusals

-- only a list's polygon table is looked at
abbrev pub is_list : Kind → Bool
is_list Polygons = true
is_list Tree = false

-- an odd list counts as half its length, rounded down
abbrev pub corner_count : Plan → ℕ
corner_count plan = length plan.coordinates / 2

-- 4: a count above its ceiling
unfoldable pub too_many : Plan → Bool
too_many plan =
    ltb 1048576 (corner_count plan)
    || (ltb 65536 (length plan.lengths) || (is_list plan.kind && ltb 65536 (length plan.counts)))

-- 3: an odd coordinate list, ring lengths not summing to the corners, or, for lists, ring counts not summing to the rings or a
-- polygon of no rings
unfoldable pub uneven : Plan → Bool
uneven plan =
    is_odd (length plan.coordinates)
    || (not (eqb (total plan.lengths) (corner_count plan))
    || (is_list plan.kind && (not (eqb (total plan.counts) (length plan.lengths)) || any_of (λ n. eqb n 0) plan.counts)))

-- 4 is tested before 3
unfoldable pub plan_verdict : Plan → Verdict
plan_verdict plan = cond (too_many plan) (Err TooMany) (cond (uneven plan) (Err Uneven) Accepted)

-- the verdict, and its number by the same conditions
pub record Judged (plan : Plan) (r : Verdict) : Type 0 where
  pub verdict : r ≡ plan_verdict plan
  pub number : verdict_number r ≡ cond (too_many plan) 4 (cond (uneven plan) 3 0)

-- ---- the replies

-- item 6: every corner is in range
unfoldable pub all_in_range : List Point → Bool
all_in_range corners = not (any_of (λ corner. not (in_range corner)) corners)

unfoldable pub plan_in_range : Plan → Bool
plan_in_range plan = all_in_range (corners_of plan.coordinates)

abbrev pub kind_reply : Kind → Plan → Point → Location
kind_reply Polygons plan p = list_reply (polygons_of plan) p
kind_reply Tree plan p = tree_reply (rings_of plan) p

-- item 6: a point out of range, or any corner of the plan out of range, gives outside
unfoldable pub plan_reply : Plan → Point → Location
plan_reply plan p = cond (plan_in_range plan && in_range p) (kind_reply plan.kind plan p) Outside

-- item 7: the same on the half-grid
unfoldable pub plan_half_reply : Plan → Point → Location
plan_half_reply plan p = cond (plan_in_range plan && in_doubled_range p) (half_reply (rings_of plan) p) Outside

-- what a look-up in a plan just handed in answers: its refusal, or the reply
abbrev pub answer : Verdict → Location → Reply
answer (Ok _) location = Ok location
answer (Err refusal) location = Err refusal
