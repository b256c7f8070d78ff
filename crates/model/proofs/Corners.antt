-- A corner put at a place, and put back: coordinates, the plan's refusals and range, edges and their boxes. Assumes nothing.
use Rattle.std.specs.Prelude.{Err}
use mathlib.Core.Path.{◌≡◌, refl, ap, ◌∙◌}
use mathlib.Core.Bool.{true, not, cond, ◌||◌, ◌&&◌}
use mathlib.Core.List.{List, [], ◌∷◌}
use Prim.Native.Nat.{ℕ, suc, ◌+◌, ◌*◌, ◌/◌, ◌≤◌, ◌<◌}
use native.Mathlib.Omega.{arith}
use lib.Dec.{eqb, ltb}
use lib.IntN.{ℤ, pos}
use lib.ListN.{length, get_or, set, take, drop, length-set}
use lib.Seq.{get_or-set_same, get_or-set_other, get_or-take, length-take-le, set-set, set_comm, set-get_or, take-set-lt, drop-set-lt}
use Rattle.geom.specs.declared.Point.{Point}
use Rattle.geom.specs.Boxes.{rect_of}
use Rattle.geom.specs.Range.{in_range}
use Rattle.rules.specs.declared.Refusal.TheVariants.{Uneven, TooMany}
use Rattle.rules.specs.Lists.{any_of, total, is_odd}
use Rattle.rules.specs.Plans.{Plan, corner_at, is_list, too_many, uneven, plan_verdict, all_in_range}
use Rattle.boxes.specs.Boxes.{edge_box}
use Rattle.boxes.specs.Rings.{next_corner, edge_of}
use Rattle.model.specs.Entries.{put_corner, put_back, entry_of}
use Rattle.model.specs.Model.{standing}
use Rattle.rules.specs.Answering.{Accepted}

-- ---- coordinates
pub put_length : (corners : List ℤ) (i : ℕ) (place : Point) → length (put_corner corners i place) ≡ length corners
put_length corners i place = length-set (set corners (2 * i) place.x) (2 * i + 1) place.y ∙ length-set corners (2 * i) place.x

pub put_other : (corners : List ℤ) (i : ℕ) (place : Point) (j : ℕ) → (j ≡ 2 * i → ⊥) → (j ≡ 2 * i + 1 → ⊥) → get_or (put_corner corners i place) j (pos 0) ≡ get_or corners j (pos 0)
put_other corners i place j a b = get_or-set_other (set corners (2 * i) place.x) (2 * i + 1) j place.y (pos 0) b ∙ get_or-set_other corners (2 * i) j place.x (pos 0) a

pub corner_other : (corners : List ℤ) (i : ℕ) (place : Point) (j : ℕ) → (j ≡ i → ⊥) → corner_at (put_corner corners i place) j ≡ corner_at corners j
corner_other corners i place j n =
    λ t. record {
      x = put_other corners i place (2 * j) (λ e. n (omega arith)) (λ e. omega arith) t;
      y = put_other corners i place (2 * j + 1) (λ e. omega arith) (λ e. n (omega arith)) t;
    }

pub corner_put : (corners : List ℤ) (i : ℕ) (place : Point) → 2 * i + 1 < length corners → corner_at (put_corner corners i place) i ≡ place
corner_put corners i place h =
    λ t. record {
      x = (get_or-set_other (set corners (2 * i) place.x) (2 * i + 1) (2 * i) place.y (pos 0) (λ e. omega arith) ∙ get_or-set_same corners (2 * i) place.x (pos 0) (omega arith)) t;
      y = get_or-set_same (set corners (2 * i) place.x) (2 * i + 1) place.y (pos 0) (omega (arith, length-set corners (2 * i) place.x)) t;
    }

-- a corner put where it stands
pub put_same : (corners : List ℤ) (i : ℕ) → put_corner corners i (corner_at corners i) ≡ corners
put_same corners i = ap (λ l. set l (2 * i + 1) (get_or corners (2 * i + 1) (pos 0))) (set-get_or corners (2 * i) (pos 0)) ∙ set-get_or corners (2 * i + 1) (pos 0)

-- what is put back after a move is as it was
pub put_back_lem : (corners : List ℤ) (i : ℕ) (place : Point) → put_back (put_corner corners i place) (entry_of corners i) ≡ corners
put_back_lem corners i place =
    let x = get_or corners (2 * i) (pos 0) in
    let y = get_or corners (2 * i + 1) (pos 0) in
    ap (λ l. set l (2 * i + 1) y) (set_comm (set corners (2 * i) place.x) (2 * i + 1) (2 * i) place.y x (λ e. omega arith))
    ∙ set-set (set (set corners (2 * i) place.x) (2 * i) x) (2 * i + 1) place.y y
    ∙ ap (λ l. set l (2 * i + 1) y) (set-set corners (2 * i) place.x x)
    ∙ put_same corners i

-- the corners of a plan are the first n of a table
pub put_take : (n : ℕ) (corners : List ℤ) (i : ℕ) (place : Point) → i < n → take (2 * n) (put_corner corners i place) ≡ put_corner (take (2 * n) corners) i place
put_take n corners i place h =
    take-set-lt (2 * n) (set corners (2 * i) place.x) (2 * i + 1) place.y (omega arith)
    ∙ ap (λ l. set l (2 * i + 1) place.y) (take-set-lt (2 * n) corners (2 * i) place.x (omega arith))

-- and what stands after them stays
pub put_drop : (n : ℕ) (corners : List ℤ) (i : ℕ) (place : Point) → i < n → drop (2 * n) (put_corner corners i place) ≡ drop (2 * n) corners
put_drop n corners i place h = drop-set-lt (2 * n) (set corners (2 * i) place.x) (2 * i + 1) place.y (omega arith) ∙ drop-set-lt (2 * n) corners (2 * i) place.x (omega arith)

pub corner_take : (n : ℕ) (corners : List ℤ) (i : ℕ) → i < n → corner_at (take (2 * n) corners) i ≡ corner_at corners i
corner_take n corners i h = λ t. record { x = get_or-take (2 * n) corners (2 * i) (pos 0) (omega arith) t; y = get_or-take (2 * n) corners (2 * i + 1) (pos 0) (omega arith) t }

pub count_take : (n : ℕ) (corners : List ℤ) → 2 * n ≤ length corners → length (take (2 * n) corners) / 2 ≡ n
count_take n corners h = let e = length-take-le (2 * n) corners h in omega arith

-- ---- refusals 4 and 3 look at how many corners there are, and not at where they stand
pub verdict_standing : (plan : Plan) (corners : List ℤ) → length corners ≡ length plan.coordinates → plan_verdict (standing plan corners) ≡ plan_verdict plan
unfolding plan_verdict too_many uneven
verdict_standing plan corners e =
    λ t. cond (ltb 1048576 (e t / 2) || (ltb 65536 (length plan.lengths) || (is_list plan.kind && ltb 65536 (length plan.counts)))) (Err TooMany)
    (cond (is_odd (e t) || (not (eqb (total plan.lengths) (e t / 2)) || (is_list plan.kind && (not (eqb (total plan.counts) (length plan.lengths)) || any_of (λ n. eqb n 0) plan.counts)))) (Err Uneven) Accepted)

-- ---- the range
first_near : (corner : Point) (corners : List Point) → in_range corner ≡ true → all_in_range corners ≡ true → all_in_range (corner ∷ corners) ≡ true
unfolding all_in_range any_of
first_near corner corners a b = rw a b

-- corners are all in range if each is
pub all_near : (corners : List Point) (d : Point) → ((i : ℕ) → i < length corners → in_range (get_or corners i d) ≡ true) → all_in_range corners ≡ true
unfolding all_in_range any_of
all_near [] d h = refl
all_near (corner ∷ corners) d h = first_near corner corners (h 0 (omega arith)) (all_near corners d (λ i l. h (suc i) (omega arith)))

-- ---- edges

-- an edge that neither starts nor ends at the corner has the box that it had
pub edge_other : (corners : List ℤ) (rings : List ℕ) (i : ℕ) (place : Point) (e : ℕ) → (e ≡ i → ⊥) → (next_corner rings e ≡ i → ⊥) → edge_box (put_corner corners i place) rings e ≡ edge_box corners rings e
unfolding edge_box edge_of
edge_other corners rings i place e a b = λ t. rect_of (corner_other corners i place e a t) (corner_other corners i place (next_corner rings e) b t)
