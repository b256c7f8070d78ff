-- Rings that the point is outside of change nothing: not a polygon, not a list, not a tree. Assumes nothing.
use mathlib.Core.Path.{◌≡◌, refl, sym, ◌∙◌, ap, subst}
use mathlib.Core.Bool.{true, ◌||◌}
use mathlib.Core.List.{List}
use Prim.Native.Nat.{ℕ, zero, suc, ◌+◌, ◌-◌, ◌≤◌, ◌<◌}
use native.Mathlib.Omega.{arith}
use lib.Dec.{T}
use lib.ListN.{get_or}
use Rattle.integers.proofs.Tests.{or_none}
use Rattle.rules.specs.declared.Location.{Location}
use Rattle.rules.specs.declared.Location.TheVariants.{Outside, Inside, OnBoundary}
use Rattle.rules.specs.Replies.{within_outer, by_hole, stronger}
use Rattle.rings.specs.Places.{is_outside, is_boundary, flipped_by}
use Rattle.boxes.specs.Rings.{start_of, RingEnds}
use Rattle.boxes.proofs.Rings.{start_suc}
use Rattle.fold.specs.Regions.{polygon_place, list_place, touched, odd_inside}

pub within_inside : (place : Location) → within_outer place Inside ≡ place
within_inside Outside = refl
within_inside Inside = refl
within_inside OnBoundary = refl

pub only_outside : (place : Location) → is_outside place ≡ true → place ≡ Outside
only_outside Outside e = refl
only_outside Inside e = absurd (subst T (sym e) tt)
only_outside OnBoundary e = absurd (subst T (sym e) tt)

pub stronger_none : (place : Location) → stronger place Outside ≡ place
stronger_none Outside = refl
stronger_none Inside = refl
stronger_none OnBoundary = refl

-- the starts of polygons rise
module _ (n count : ℕ) (ends : List ℕ) (R : RingEnds n count ends) where
  rises : (i d : ℕ) → i + d ≤ count → start_of ends i ≤ start_of ends (i + d)
  rises i zero l = let e : i + 0 ≡ i = omega arith in omega (arith, ap (start_of ends) e)
  rises i (suc d) l =
      let e : i + suc d ≡ i + d + 1 = omega arith in
      omega (arith, rises i d (omega arith), R.rise (i + d) (omega arith), ap (start_of ends) e, start_suc ends (i + d))

  pub starts_rise : (i j : ℕ) → i ≤ j → j ≤ count → start_of ends i ≤ start_of ends j
  starts_rise i j l u = let e : i + (j - i) ≡ j = omega arith in omega (arith, rises i (j - i) (omega arith), ap (start_of ends) e)

module _ (places : ℕ → Location) where
  -- ---- a polygon
  pub polygon_none : (a : ℕ) → polygon_place places a 0 ≡ Outside
  unfolding polygon_place
  polygon_none a = refl

  pub polygon_outer : (a : ℕ) → polygon_place places a 1 ≡ places a
  unfolding polygon_place
  polygon_outer a = refl

  pub polygon_hole : (a n : ℕ) → 0 < n → polygon_place places a (suc n) ≡ within_outer (polygon_place places a n) (by_hole (places (a + n)) Inside)
  unfolding polygon_place
  polygon_hole a zero h = absurd (omega arith)
  polygon_hole a (suc n) h = refl

  hole_outside : (a n : ℕ) → 0 < n → places (a + n) ≡ Outside → polygon_place places a (suc n) ≡ polygon_place places a n
  hole_outside a n h e = polygon_hole a n h ∙ ap (λ place. within_outer (polygon_place places a n) (by_hole place Inside)) e ∙ within_inside (polygon_place places a n)

  further : (a m d : ℕ) → 0 < m → ((k : ℕ) → a + m ≤ k → k < a + m + d → places k ≡ Outside) → polygon_place places a (m + d) ≡ polygon_place places a m
  further a m zero h quiet = ap (polygon_place places a) (let e : m + 0 ≡ m = omega arith in e)
  further a m (suc d) h quiet =
      ap (polygon_place places a) (let e : m + suc d ≡ suc (m + d) = omega arith in e)
      ∙ hole_outside a (m + d) (omega arith) (quiet (a + (m + d)) (omega arith) (omega arith))
      ∙ further a m d h (λ k l u. quiet k l (omega arith))

  -- holes from ring s to ring t
  pub polygon_quiet : (a s t : ℕ) → a < s → s ≤ t → ((k : ℕ) → s ≤ k → k < t → places k ≡ Outside) → polygon_place places a (t - a) ≡ polygon_place places a (s - a)
  polygon_quiet a s t h l quiet =
      ap (polygon_place places a) (let e : t - a ≡ s - a + (t - s) = omega arith in e)
      ∙ further a (s - a) (t - s) (omega arith) (λ k u v. quiet k (omega arith) (omega arith))

  -- a polygon whose outer the point is outside of
  pub polygon_outside : (a n : ℕ) → places a ≡ Outside → polygon_place places a n ≡ Outside
  polygon_outside a zero e = polygon_none a
  polygon_outside a (suc zero) e = polygon_outer a ∙ e
  polygon_outside a (suc (suc n)) e = polygon_hole a (suc n) (omega arith) ∙ ap (λ place. within_outer place (by_hole (places (a + suc n)) Inside)) (polygon_outside a (suc n) e)

  -- ---- a list
  module _ (ends : List ℕ) where
    abbrev polygon_at : ℕ → Location
    polygon_at i = polygon_place places (start_of ends i) (get_or ends i 0 - start_of ends i)

    pub list_none : list_place places ends 0 ≡ Outside
    unfolding list_place
    list_none = refl

    pub list_one_more : (i : ℕ) → list_place places ends (suc i) ≡ stronger (list_place places ends i) (polygon_at i)
    unfolding list_place
    list_one_more i = refl

    polygons_outside : (i d : ℕ) → ((k : ℕ) → i ≤ k → k < i + d → polygon_at k ≡ Outside) → list_place places ends (i + d) ≡ list_place places ends i
    polygons_outside i zero quiet = ap (list_place places ends) (let e : i + 0 ≡ i = omega arith in e)
    polygons_outside i (suc d) quiet =
        ap (list_place places ends) (let e : i + suc d ≡ suc (i + d) = omega arith in e)
        ∙ list_one_more (i + d)
        ∙ ap (stronger (list_place places ends (i + d))) (quiet (i + d) (omega arith) (omega arith))
        ∙ stronger_none (list_place places ends (i + d))
        ∙ polygons_outside i d (λ k l u. quiet k l (omega arith))

    -- polygons from i to j, where the point is outside of each ring from the start of one to the start of the other
    pub list_quiet : (n count : ℕ) → RingEnds n count ends → (i j : ℕ) → i ≤ j → j ≤ count → ((k : ℕ) → start_of ends i ≤ k → k < start_of ends j → places k ≡ Outside) → list_place places ends j ≡ list_place places ends i
    list_quiet n count R i j l u quiet =
        ap (list_place places ends) (let e : j ≡ i + (j - i) = omega arith in e)
        ∙ polygons_outside i (j - i) (λ k a b. one k a (omega arith))
      where
        one : (k : ℕ) → i ≤ k → k < j → polygon_at k ≡ Outside
        one k a b = go (get_or ends k 0 - start_of ends k) refl
          where
            go : (m : ℕ) → get_or ends k 0 - start_of ends k ≡ m → polygon_place places (start_of ends k) m ≡ Outside
            go zero e = polygon_none (start_of ends k)
            go (suc m) e = polygon_outside (start_of ends k) (suc m) (quiet (start_of ends k) (starts_rise n count ends R i k a (omega arith)) (omega (arith, starts_rise n count ends R (k + 1) j (omega arith) u, start_suc ends k)))

  -- ---- a tree
  pub touched_more : (r : ℕ) → touched places (suc r) ≡ touched places r || is_boundary (places r)
  unfolding touched
  touched_more r = refl

  pub odd_more : (r : ℕ) → odd_inside places (suc r) ≡ flipped_by (odd_inside places r) (places r)
  unfolding odd_inside
  odd_more r = refl

  pub touched_quiet : (r d : ℕ) → ((k : ℕ) → r ≤ k → k < r + d → places k ≡ Outside) → touched places (r + d) ≡ touched places r
  touched_quiet r zero quiet = ap (touched places) (let e : r + 0 ≡ r = omega arith in e)
  touched_quiet r (suc d) quiet =
      ap (touched places) (let e : r + suc d ≡ suc (r + d) = omega arith in e)
      ∙ touched_more (r + d)
      ∙ ap (λ place. touched places (r + d) || is_boundary place) (quiet (r + d) (omega arith) (omega arith))
      ∙ or_none (touched places (r + d))
      ∙ touched_quiet r d (λ k l u. quiet k l (omega arith))

  pub odd_quiet : (r d : ℕ) → ((k : ℕ) → r ≤ k → k < r + d → places k ≡ Outside) → odd_inside places (r + d) ≡ odd_inside places r
  odd_quiet r zero quiet = ap (odd_inside places) (let e : r + 0 ≡ r = omega arith in e)
  odd_quiet r (suc d) quiet =
      ap (odd_inside places) (let e : r + suc d ≡ suc (r + d) = omega arith in e)
      ∙ odd_more (r + d)
      ∙ ap (flipped_by (odd_inside places (r + d))) (quiet (r + d) (omega arith) (omega arith))
      ∙ odd_quiet r d (λ k l u. quiet k l (omega arith))
