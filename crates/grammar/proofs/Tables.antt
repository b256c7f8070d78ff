-- Lists of positions, rings and polygons, one after another: their numbers, lengths, counts, and whether they are closed. Assumes nothing.
use mathlib.Core.Path.{◌≡◌, refl, ap, sym, subst, ◌∙◌}
use mathlib.Core.Bool.{Bool, true, false, ◌&&◌}
use mathlib.Core.List.{List, [], ◌∷◌, ◌++◌, append_assoc}
use Prim.Native.Nat.{ℕ, ◌+◌, ◌*◌}
use native.Mathlib.Omega.{arith}
use lib.Dec.{T}
use lib.ListN.{length, length-append}
use Rattle.geom.specs.declared.Point.{Point}
use Rattle.rules.specs.Lists.{total}
use Rattle.grammar.specs.Grammar.{Ring, Polygon}
use Rattle.grammar.specs.Texts.{closed, drop_last}
use Rattle.grammar.specs.Plans.{numbers_of, ring_numbers, coordinates, ring_lengths, lengths, counts, is_closed, ends_at, same_number, same_point, all_closed, every_closed}
use Rattle.grammar.proofs.Same.{same_is}

-- ---- appending

pub numbers_append : (a b : Ring) → numbers_of (a ++ b) ≡ numbers_of a ++ numbers_of b
unfolding numbers_of
numbers_append [] b = refl
numbers_append (p ∷ a) b = ap (λ s. p.x ∷ p.y ∷ s) (numbers_append a b)

pub rings_append : (a b : List Ring) → ring_numbers (a ++ b) ≡ ring_numbers a ++ ring_numbers b
unfolding ring_numbers
rings_append [] b = refl
rings_append (r ∷ a) b = ap (λ s. numbers_of (drop_last r) ++ s) (rings_append a b) ∙ sym (append_assoc (numbers_of (drop_last r)) (ring_numbers a) (ring_numbers b))

pub coordinates_append : (a b : List Polygon) → coordinates (a ++ b) ≡ coordinates a ++ coordinates b
unfolding coordinates
coordinates_append [] b = refl
coordinates_append (r ∷ a) b = ap (λ s. ring_numbers r ++ s) (coordinates_append a b) ∙ sym (append_assoc (ring_numbers r) (coordinates a) (coordinates b))

pub ring_lengths_append : (a b : List Ring) → ring_lengths (a ++ b) ≡ ring_lengths a ++ ring_lengths b
unfolding ring_lengths
ring_lengths_append [] b = refl
ring_lengths_append (r ∷ a) b = ap (λ s. length (drop_last r) ∷ s) (ring_lengths_append a b)

pub lengths_append : (a b : List Polygon) → lengths (a ++ b) ≡ lengths a ++ lengths b
unfolding lengths
lengths_append [] b = refl
lengths_append (r ∷ a) b = ap (λ s. ring_lengths r ++ s) (lengths_append a b) ∙ sym (append_assoc (ring_lengths r) (lengths a) (lengths b))

pub counts_append : (a b : List Polygon) → counts (a ++ b) ≡ counts a ++ counts b
unfolding counts
counts_append [] b = refl
counts_append (r ∷ a) b = ap (λ s. length r ∷ s) (counts_append a b)

pub total_append : (a b : List ℕ) → total (a ++ b) ≡ total a + total b
unfolding total
total_append [] b = let e : total b ≡ 0 + total b = omega arith in e
total_append (n ∷ a) b = let h = total_append a b in omega arith

-- ---- two numbers a corner

pub numbers_twice : (ring : Ring) → length (numbers_of ring) ≡ 2 * length ring
unfolding numbers_of
numbers_twice [] = refl
numbers_twice (p ∷ ring) = let h = numbers_twice ring in omega arith

pub rings_twice : (rings : Polygon) → length (ring_numbers rings) ≡ 2 * total (ring_lengths rings)
unfolding ring_numbers ring_lengths total
rings_twice [] = refl
rings_twice (ring ∷ rings) = let h = rings_twice rings in let k = numbers_twice (drop_last ring) in let l = length-append (numbers_of (drop_last ring)) (ring_numbers rings) in omega arith

pub coordinates_twice : (polygons : List Polygon) → length (coordinates polygons) ≡ 2 * total (lengths polygons)
unfolding coordinates lengths total
coordinates_twice [] = refl
coordinates_twice (rings ∷ polygons) = let h = coordinates_twice polygons in let k = rings_twice rings in let l = length-append (ring_numbers rings) (coordinates polygons) in let m = total_append (ring_lengths rings) (lengths polygons) in omega arith

pub lengths_counted : (rings : Polygon) → length (ring_lengths rings) ≡ length rings
unfolding ring_lengths
lengths_counted [] = refl
lengths_counted (ring ∷ rings) = ap Prim.Native.Nat.suc (lengths_counted rings)

-- ---- 22: a ring's first position is kept, and its last compared

ends_last : (p q : Point) (ring : Ring) → ends_at p (ring ++ (q ∷ [])) ≡ same_point p q
unfolding ends_at
ends_last p q [] = refl
ends_last p q (r ∷ []) = refl
ends_last p q (r ∷ s ∷ ring) = ends_last p q (s ∷ ring)

-- one position is not closed; of more the first and the last are compared
pub lone_open : (q : Point) → is_closed (q ∷ []) ≡ false
unfolding is_closed ends_at
lone_open q = refl

pub closed_by : (p q : Point) (ring : Ring) → is_closed ((p ∷ ring) ++ (q ∷ [])) ≡ same_point p q
unfolding is_closed
closed_by p q ring = ends_last p q ring

pub and_assoc : (a b c : Bool) → (a && (b && c)) ≡ ((a && b) && c)
and_assoc true b c = refl
and_assoc false b c = refl

pub and_true : (a : Bool) → (a && true) ≡ a
and_true true = refl
and_true false = refl

pub closed_append : (a b : List Ring) → all_closed (a ++ b) ≡ (all_closed a && all_closed b)
unfolding all_closed
closed_append [] b = refl
closed_append (ring ∷ a) b = ap (λ s. is_closed ring && s) (closed_append a b) ∙ and_assoc (is_closed ring) (all_closed a) (all_closed b)

pub every_append : (a b : List Polygon) → every_closed (a ++ b) ≡ (every_closed a && every_closed b)
unfolding every_closed
every_append [] b = refl
every_append (rings ∷ a) b = ap (λ s. all_closed rings && s) (every_append a b) ∙ and_assoc (all_closed rings) (every_closed a) (every_closed b)

-- ---- what was dropped is added again

same_point_lem : (p q : Point) → same_point p q ≡ true → p ≡ q
same_point_lem p q e = go (same_number p.x q.x) (same_number p.y q.y) refl refl e
  where
    go : (a b : Bool) → same_number p.x q.x ≡ a → same_number p.y q.y ≡ b → (a && b) ≡ true → p ≡ q
    go true true x y h = let ex = same_is p.x q.x x in let ey = same_is p.y q.y y in λ i. record { x = ex i; y = ey i }
    go true false x y h = absurd (subst T (sym h) tt)
    go false true x y h = absurd (subst T (sym h) tt)
    go false false x y h = absurd (subst T (sym h) tt)

ended_by : (p : Point) (ring : Ring) → ends_at p ring ≡ true → drop_last ring ++ (p ∷ []) ≡ ring
unfolding ends_at drop_last
ended_by p [] e = absurd (subst T (sym e) tt)
ended_by p (q ∷ []) e = ap (λ o. o ∷ []) (same_point_lem p q e)
ended_by p (q ∷ r ∷ ring) e = ap (λ s. q ∷ s) (ended_by p (r ∷ ring) e)

-- a closed ring, read and written, is itself
pub closed_again : (ring : Ring) → is_closed ring ≡ true → closed (drop_last ring) ≡ ring
unfolding is_closed ends_at closed drop_last
closed_again [] e = absurd (subst T (sym e) tt)
closed_again (p ∷ []) e = absurd (subst T (sym e) tt)
closed_again (p ∷ q ∷ ring) e = ap (λ s. p ∷ s) (ended_by p (q ∷ ring) e)
