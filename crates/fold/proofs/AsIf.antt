-- What a fold comes to before it is done: the region's reply as if the point were outside of every ring from r on. Assumes nothing.
use mathlib.Core.Path.{◌≡◌, refl, sym, ◌∙◌, ap, ap₂}
use mathlib.Core.Bool.{cond, ◌||◌}
use mathlib.Core.List.{List}
use Prim.Native.Nat.{ℕ, zero, suc, ◌+◌, ◌-◌, ◌≤◌, ◌<◌}
use native.Mathlib.Omega.{arith}
use borrow.Author.Tests.{lt-ltb, le-ltb}
use lib.Dec.{ltb}
use lib.ListN.{get_or}
use Rattle.rules.specs.declared.Kind.{Kind}
use Rattle.rules.specs.declared.Kind.TheVariants.{Polygons, Tree}
use Rattle.rules.specs.declared.Location.{Location}
use Rattle.rules.specs.declared.Location.TheVariants.{Outside, Inside}
use Rattle.rules.specs.Replies.{within_outer, by_hole, stronger}
use Rattle.rings.specs.Places.{is_boundary, flipped_by}
use Rattle.boxes.specs.Rings.{start_of, RingEnds}
use Rattle.boxes.proofs.Rings.{start_suc}
use Rattle.fold.specs.declared.Fold.{Fold}
use Rattle.fold.specs.declared.Fold as Fold
use Rattle.fold.specs.declared.ListFold.{ListFold}
use Rattle.fold.specs.Regions.{polygon_place, list_place, touched, odd_inside, region_place}
use Rattle.fold.specs.Folds.{place_of, Standing, ListFolding, Folding, Fits}
use Rattle.fold.proofs.Quiet.{starts_rise}
use Rattle.fold.proofs.Foldings.{skips, done}

-- the places up to ring r, and outside from there on
abbrev pub up_to : (ℕ → Location) → ℕ → ℕ → Location
up_to places r k = cond (ltb k r) (places k) Outside

before : (places : ℕ → Location) (r k : ℕ) → k < r → places k ≡ up_to places r k
before places r k h = sym (ap (λ b. cond b (places k) Outside) (lt-ltb k r h))

after : (places : ℕ → Location) (r k : ℕ) → r ≤ k → up_to places r k ≡ Outside
after places r k h = ap (λ b. cond b (places k) Outside) (le-ltb k r h)

-- ---- only the places before ring r matter
module _ (places places' : ℕ → Location) (r : ℕ) (same : (k : ℕ) → k < r → places k ≡ places' k) where
  polygon_same : (a n : ℕ) → a + n ≤ r → polygon_place places a n ≡ polygon_place places' a n
  unfolding polygon_place
  polygon_same a zero h = refl
  polygon_same a (suc zero) h = same a (omega arith)
  polygon_same a (suc (suc n)) h = ap₂ (λ outer hole. within_outer outer (by_hole hole Inside)) (polygon_same a (suc n) (omega arith)) (same (a + suc n) (omega arith))

  module _ (ends : List ℕ) (n count : ℕ) (R : RingEnds n count ends) where
    list_same : (i : ℕ) → i ≤ count → start_of ends i ≤ r → list_place places ends i ≡ list_place places' ends i
    unfolding list_place
    list_same zero l h = refl
    list_same (suc i) l h =
        let up : start_of ends i ≤ start_of ends (suc i) = starts_rise n count ends R i (suc i) (omega arith) l in
        let rise : start_of ends i ≤ get_or ends i 0 = R.rise i (omega arith) in
        let end : get_or ends i 0 ≡ start_of ends (suc i) = sym (start_suc ends i) ∙ ap (start_of ends) (let e : i + 1 ≡ suc i = omega arith in e) in
        ap₂ stronger (list_same i (omega arith) (omega arith)) (polygon_same (start_of ends i) (get_or ends i 0 - start_of ends i) (omega arith))

    list_folding_same : (list : ListFold) → ListFolding places ends count r list → ListFolding places' ends count r list
    list_folding_same list F =
        record { opened = F.opened; seen = F.seen; few = F.few; end = F.end; behind = F.behind; low = F.low; clear = λ k l u. sym (same k u) ∙ F.clear k l u; stands = stand F.opened F.few F.stands }
      where
        stand : (opened : ℕ) → opened ≤ count → Standing places ends F.seen list opened → Standing places' ends F.seen list opened
        stand zero l S = S
        stand (suc i) l C =
            let first : start_of ends i < F.seen = C.first in
            let behind : F.seen ≤ r = F.behind in
            record { first = C.first; best = C.best ∙ list_same i (omega arith) (omega arith); current = C.current ∙ polygon_same (start_of ends i) (F.seen - start_of ends i) (omega arith) }

  touched_same : (n : ℕ) → n ≤ r → touched places n ≡ touched places' n
  unfolding touched
  touched_same zero h = refl
  touched_same (suc n) h = ap₂ (λ on place. on || is_boundary place) (touched_same n (omega arith)) (same n (omega arith))

  odd_same : (n : ℕ) → n ≤ r → odd_inside places n ≡ odd_inside places' n
  unfolding odd_inside
  odd_same zero h = refl
  odd_same (suc n) h = ap₂ flipped_by (odd_same n (omega arith)) (same n (omega arith))

  pub folding_same : (kind : Kind) (ends : List ℕ) (n count : ℕ) → Fits kind n count ends → (fold : Fold) → Folding kind places ends count r fold → Folding kind places' ends count r fold
  folding_same Polygons ends n count R (Fold.TheVariants.List list) F = list_folding_same ends n count R list F
  folding_same Polygons ends n count R (Fold.TheVariants.Tree tree) F = absurd F
  folding_same Tree ends n count R (Fold.TheVariants.List list) F = absurd F
  folding_same Tree ends n count R (Fold.TheVariants.Tree tree) F = record { on = F.on ∙ touched_same r (omega arith); odd = F.odd ∙ odd_same r (omega arith) }

pub as_if : (kind : Kind) (places : ℕ → Location) (ends : List ℕ) (n count r : ℕ) → r ≤ n → Fits kind n count ends → (fold : Fold) → Folding kind places ends count r fold → place_of fold ≡ region_place kind (up_to places r) ends count n
as_if kind places ends n count r l R fold F =
    done kind (up_to places r) ends n count R fold
    (skips kind (up_to places r) ends count r n fold l (λ k a b. after places r k a) (folding_same places (up_to places r) r (before places r) kind ends n count R fold F))
