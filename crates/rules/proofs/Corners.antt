-- Corners by number: corner i stands at places 2 i and 2 i + 1 of the coordinates. Assumes nothing.
use mathlib.Core.Path.{◌≡◌, refl, sym, ◌∙◌, ap}
use mathlib.Core.Bool.{true, not}
use mathlib.Core.List.{List, [], ◌∷◌}
use Prim.Native.Nat.{ℕ, zero, suc, ◌+◌, ◌*◌, ◌/◌, ◌<◌}
use native.Mathlib.Omega.{arith}
use lib.IntN.{ℤ, pos}
use lib.ListN.{length, get_or, drop, drop_of_length-le}
use lib.Seq.{drop-cons, drop-nil, get_or-drop}
use Rattle.integers.proofs.Tests.{not_true, not_false, or_false}
use Rattle.geom.specs.declared.Point.{Point}
use Rattle.geom.specs.Range.{in_range}
use Rattle.rules.specs.Lists.{any_of}
use Rattle.rules.specs.Plans.{corners_of, corner_at, all_in_range}

two_more : (coordinates : List ℤ) (j : ℕ) → j + 1 < length coordinates → drop j coordinates ≡ get_or coordinates j (pos 0) ∷ get_or coordinates (j + 1) (pos 0) ∷ drop (j + 2) coordinates
two_more coordinates j h =
    drop-cons coordinates j (pos 0) (omega arith)
    ∙ ap (λ l. get_or coordinates j (pos 0) ∷ l) (drop-cons coordinates (suc j) (pos 0) (omega arith) ∙ (λ i. get_or coordinates (one i) (pos 0) ∷ drop (two i) coordinates))
  where
    one : suc j ≡ j + 1
    one = omega arith

    two : suc (suc j) ≡ j + 2
    two = omega arith

corners_at : (coordinates : List ℤ) (i : ℕ) → 2 * i + 1 < length coordinates → corners_of (drop (2 * i) coordinates) ≡ corner_at coordinates i ∷ corners_of (drop (2 * i + 2) coordinates)
unfolding corners_of
corners_at coordinates i h = ap corners_of (two_more coordinates (2 * i) h)

-- the corners from corner i on
pub corners_drop : (coordinates : List ℤ) (i : ℕ) → drop i (corners_of coordinates) ≡ corners_of (drop (2 * i) coordinates)
unfolding corners_of
corners_drop [] i = drop-nil i ∙ ap corners_of (sym (drop-nil (2 * i)))
corners_drop (x ∷ coordinates) zero = refl
corners_drop (x ∷ []) (suc i) = drop-nil (suc i) ∙ ap corners_of (sym (drop_of_length-le (x ∷ []) {i = 2 * suc i} (omega arith)))
corners_drop (x ∷ y ∷ rest) (suc i) = corners_drop rest i ∙ ap (λ k. corners_of (drop k (x ∷ y ∷ rest))) (let e : suc (suc (2 * i)) ≡ 2 * suc i = omega arith in e)

pub corners_cons : (coordinates : List ℤ) (i : ℕ) → 2 * i + 1 < length coordinates → drop i (corners_of coordinates) ≡ corner_at coordinates i ∷ drop (i + 1) (corners_of coordinates)
corners_cons coordinates i h =
    corners_drop coordinates i ∙ corners_at coordinates i h
    ∙ ap (λ l. corner_at coordinates i ∷ l) (sym (corners_drop coordinates (i + 1) ∙ ap (λ k. corners_of (drop k coordinates)) (let e : 2 * (i + 1) ≡ 2 * i + 2 = omega arith in e)))

pub corners_length : (coordinates : List ℤ) → length (corners_of coordinates) ≡ length coordinates / 2
unfolding corners_of
corners_length [] = refl
corners_length (x ∷ []) = refl
corners_length (x ∷ y ∷ rest) = let r = corners_length rest in omega arith

-- ---- corners in range
pub near_first : (corner : Point) (corners : List Point) → all_in_range (corner ∷ corners) ≡ true → (in_range corner ≡ true) × (all_in_range corners ≡ true)
unfolding all_in_range any_of
near_first corner corners e =
    let none = or_false (not (in_range corner)) _ (not_true _ e) in
    (not_false (in_range corner) none.0, ap not none.1)

pub near_at : (corners : List Point) → all_in_range corners ≡ true → (i : ℕ) (d : Point) → i < length corners → in_range (get_or corners i d) ≡ true
near_at [] e i d h = absurd (omega arith)
near_at (corner ∷ corners) e zero d h = (near_first corner corners e).0
near_at (corner ∷ corners) e (suc i) d h = near_at corners (near_first corner corners e).1 i d (omega arith)

-- corner i as an element of the list of corners
pub corner_is : (coordinates : List ℤ) (i : ℕ) (d : Point) → 2 * i + 1 < length coordinates → get_or (corners_of coordinates) i d ≡ corner_at coordinates i
corner_is coordinates i d h =
    let zero_more : i ≡ i + 0 = omega arith in
    ap (λ k. get_or (corners_of coordinates) k d) zero_more ∙ sym (get_or-drop i (corners_of coordinates) 0 d) ∙ ap (λ l. get_or l 0 d) (corners_cons coordinates i h)
