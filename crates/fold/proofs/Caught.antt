-- Steps that the contract of `fold_ring` rules out, whatever their code is: a ring of another polygon counted as a hole, a hole counted
-- without its outer, a later hole that overrides the first to decide, a boundary lost in a tree, and rings that are not counted at all.
-- Each is shown on three rings, by what every step that keeps the contract comes to. Assumes nothing.
use mathlib.Core.Path.{◌≡◌, refl}
use mathlib.Core.List.{List, [], ◌∷◌}
use Prim.Native.Nat.{ℕ, zero, suc, ◌≤◌, ◌<◌}
use native.Mathlib.Omega.{arith}
use Rattle.rules.specs.declared.Kind.{Kind}
use Rattle.rules.specs.declared.Kind.TheVariants.{Polygons, Tree}
use Rattle.rules.specs.declared.Location.{Location}
use Rattle.rules.specs.declared.Location.TheVariants.{Outside, Inside, OnBoundary}
use Rattle.rules.specs.Lists.{total}
use Rattle.rules.specs.Tables.{ends_from, lengths_from}
use Rattle.boxes.specs.Rings.{start_of, RingEnds}
use Rattle.fold.specs.declared.Fold.{Fold}
use Rattle.fold.specs.Regions.{polygon_place, list_place, touched, odd_inside, region_place}
use Rattle.fold.specs.Folds.{begun, place_of, Fits, Folds}
use Rattle.fold.proofs.Foldings.{begins, done, met}
use Rattle.fold.proofs.PolygonEnds.{ends_rise_lem}

-- the places of three rings
abbrev three : Location → Location → Location → ℕ → Location
three a b c zero = a
three a b c (suc zero) = b
three a b c (suc (suc k)) = c

-- three steps, one after another
module _ (kind : Kind) (ends : List ℕ) (count : ℕ) (fits : Fits kind 3 count ends) (a b c : Location) where
  pub after_three : (r s t : Fold) → Folds ends count (begun kind) 0 a r → Folds ends count r 1 b s → Folds ends count s 2 c t → place_of t ≡ region_place kind (three a b c) ends count 3
  after_three r s t f g h =
      done kind (three a b c) ends 3 count fits t
      (h kind 3 fits (omega arith) (three a b c) (g kind 3 fits (omega arith) (three a b c) (f kind 3 fits (omega arith) (three a b c) (begins kind (three a b c) ends count) refl) refl) refl)

-- and the last alone, where the point is outside of the other two
pub after_last : (kind : Kind) (ends : List ℕ) (count : ℕ) → Fits kind 3 count ends → (c : Location) (t : Fold) → Folds ends count (begun kind) 2 c t → place_of t ≡ region_place kind (three Outside Outside c) ends count 3
after_last kind ends count fits c t h =
    done kind (three Outside Outside c) ends 3 count fits t
    (met kind (three Outside Outside c) ends 3 count fits 0 (begun kind) (begins kind (three Outside Outside c) ends count) 2 (omega arith) (omega arith) quiet c refl t h)
  where
    quiet : (k : ℕ) → 0 ≤ k → k < 2 → three Outside Outside c k ≡ Outside
    quiet zero l u = refl
    quiet (suc zero) l u = refl
    quiet (suc (suc k)) l u = absurd (omega arith)

-- a polygon of one ring and one of two
apart : RingEnds 3 2 (1 ∷ 3 ∷ [])
unfolding ends_from lengths_from total
apart = ends_rise_lem 2 (1 ∷ 3 ∷ []) (omega arith) refl

-- one polygon with two holes
together : RingEnds 3 1 (3 ∷ [])
unfolding ends_from lengths_from total
together = ends_rise_lem 1 (3 ∷ []) (omega arith) refl

module _ (r s t : Fold) where
  pub other_polygon : Folds (1 ∷ 3 ∷ []) 2 (begun Polygons) 0 Inside r → Folds (1 ∷ 3 ∷ []) 2 r 1 Inside s → Folds (1 ∷ 3 ∷ []) 2 s 2 Outside t → place_of t ≡ Inside
  unfolding list_place polygon_place start_of
  other_polygon f g h = after_three Polygons (1 ∷ 3 ∷ []) 2 apart Inside Inside Outside r s t f g h

  pub outer_not_met : Folds (1 ∷ 3 ∷ []) 2 (begun Polygons) 2 Inside t → place_of t ≡ Outside
  unfolding list_place polygon_place start_of
  outer_not_met h = after_last Polygons (1 ∷ 3 ∷ []) 2 apart Inside t h

  pub first_hole_decides : Folds (3 ∷ []) 1 (begun Polygons) 0 Inside r → Folds (3 ∷ []) 1 r 1 OnBoundary s → Folds (3 ∷ []) 1 s 2 Inside t → place_of t ≡ OnBoundary
  unfolding list_place polygon_place start_of
  first_hole_decides f g h = after_three Polygons (3 ∷ []) 1 together Inside OnBoundary Inside r s t f g h

  pub boundary_kept : (ends : List ℕ) (count : ℕ) → Folds ends count (begun Tree) 0 OnBoundary r → Folds ends count r 1 Inside s → Folds ends count s 2 Outside t → place_of t ≡ OnBoundary
  unfolding touched odd_inside
  boundary_kept ends count f g h = after_three Tree ends count tt OnBoundary Inside Outside r s t f g h

  pub parity_kept : (ends : List ℕ) (count : ℕ) → Folds ends count (begun Tree) 0 Inside r → Folds ends count r 1 Inside s → Folds ends count s 2 Inside t → place_of t ≡ Inside
  unfolding touched odd_inside
  parity_kept ends count f g h = after_three Tree ends count tt Inside Inside Inside r s t f g h
