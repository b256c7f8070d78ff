-- The polygons of a plan, closed and then read, give its three lists again. Assumes nothing.
use mathlib.Core.Path.{◌≡◌, refl, ap, ap₂, sym, ◌∙◌}
use mathlib.Core.List.{List, [], ◌∷◌, ◌++◌, map, append_assoc}
use Prim.Native.Nat.{ℕ, zero, suc, ◌+◌}
use native.Mathlib.Omega.{arith}
use lib.IntN.{ℤ}
use lib.ListN.{length, take, drop, length-drop, take-append-drop}
use lib.Seq.{length-take-le}
use Rattle.rules.specs.Lists.{total, parts_of}
use Rattle.rules.specs.Plans.{corners_of}
use Rattle.grammar.specs.Grammar.{Ring, Polygon}
use Rattle.grammar.specs.Texts.{closed}
use Rattle.grammar.specs.Plans.{numbers_of, ring_numbers, coordinates, ring_lengths, lengths, counts}
use Rattle.grammar.proofs.Tables.{numbers_append}
use Rattle.grammar.proofs.Texts.{opened_again}

flat : {A : Type 0} → List (List A) → List A
flat [] = []
flat (xs ∷ xss) = xs ++ flat xss

-- ---- parts

parts_flat : {A : Type 0} (ns : List ℕ) (xs : List A) → total ns ≡ length xs → flat (parts_of ns xs) ≡ xs
unfolding total parts_of flat
parts_flat [] [] e = refl
parts_flat [] (x ∷ xs) e = absurd (omega arith)
parts_flat (n ∷ ns) xs e = ap (λ s. take n xs ++ s) (parts_flat ns (drop n xs) (let l : total ns ≡ length (drop n xs) = omega (arith, length-drop n xs) in l)) ∙ take-append-drop n xs

parts_lengths : {A : Type 0} (ns : List ℕ) (xs : List A) → total ns ≡ length xs → map length (parts_of ns xs) ≡ ns
unfolding total parts_of
parts_lengths [] xs e = refl
parts_lengths (n ∷ ns) xs e = ap₂ (λ k s. k ∷ s) (length-take-le n xs (omega arith)) (parts_lengths ns (drop n xs) (let l : total ns ≡ length (drop n xs) = omega (arith, length-drop n xs) in l))

-- ---- closed and read again

flat_append : {A : Type 0} (a b : List (List A)) → flat (a ++ b) ≡ flat a ++ flat b
unfolding flat
flat_append [] b = refl
flat_append (xs ∷ a) b = ap (λ s. xs ++ s) (flat_append a b) ∙ sym (append_assoc xs (flat a) (flat b))

rings_again : (rings : List Ring) → ring_numbers (map closed rings) ≡ numbers_of (flat rings)
unfolding ring_numbers flat numbers_of
rings_again [] = refl
rings_again (ring ∷ rings) = ap₂ (λ a b. numbers_of a ++ b) (opened_again ring) (rings_again rings) ∙ sym (numbers_append ring (flat rings))

coordinates_again : (polygons : List Polygon) → coordinates (map (map closed) polygons) ≡ numbers_of (flat (flat polygons))
unfolding coordinates flat numbers_of
coordinates_again [] = refl
coordinates_again (rings ∷ polygons) = ap₂ (λ a b. a ++ b) (rings_again rings) (coordinates_again polygons) ∙ sym (numbers_append (flat rings) (flat (flat polygons))) ∙ ap numbers_of (sym (flat_append rings (flat polygons)))

map_append : {A B : Type 0} (f : A → B) (a b : List A) → map f (a ++ b) ≡ map f a ++ map f b
map_append f [] b = refl
map_append f (x ∷ a) b = ap (λ s. f x ∷ s) (map_append f a b)

ring_lengths_again : (rings : List Ring) → ring_lengths (map closed rings) ≡ map length rings
unfolding ring_lengths
ring_lengths_again [] = refl
ring_lengths_again (ring ∷ rings) = ap₂ (λ a b. length a ∷ b) (opened_again ring) (ring_lengths_again rings)

lengths_again : (polygons : List Polygon) → lengths (map (map closed) polygons) ≡ map length (flat polygons)
unfolding lengths flat
lengths_again [] = refl
lengths_again (rings ∷ polygons) = ap₂ (λ a b. a ++ b) (ring_lengths_again rings) (lengths_again polygons) ∙ sym (map_append length rings (flat polygons))

map_length : {A B : Type 0} (f : A → B) (xs : List A) → length (map f xs) ≡ length xs
map_length f [] = refl
map_length f (x ∷ xs) = ap suc (map_length f xs)

counts_again : (polygons : List Polygon) → counts (map (map closed) polygons) ≡ map length polygons
unfolding counts
counts_again [] = refl
counts_again (rings ∷ polygons) = ap₂ (λ a b. a ∷ b) (map_length closed rings) (counts_again polygons)

-- ---- the plan

module _ (numbers : List ℤ) (lengths_of_rings ring_counts : List ℕ) (even : numbers_of (corners_of numbers) ≡ numbers) (sum : total lengths_of_rings ≡ length (corners_of numbers)) (sum_counts : total ring_counts ≡ length lengths_of_rings) where
  unfoldable pub polygons : List Polygon
  polygons = parts_of ring_counts (parts_of lengths_of_rings (corners_of numbers))

  unfoldable pub again : List Polygon
  again = map (map closed) polygons

  rings_long : total ring_counts ≡ length (parts_of lengths_of_rings (corners_of numbers))
  rings_long = sum_counts ∙ ap length (sym (parts_lengths lengths_of_rings (corners_of numbers) sum)) ∙ map_length length (parts_of lengths_of_rings (corners_of numbers))

  pub same_coordinates : coordinates again ≡ numbers
  unfolding polygons again
  same_coordinates =
      coordinates_again polygons
      ∙ ap (λ r. numbers_of (flat r)) (parts_flat ring_counts (parts_of lengths_of_rings (corners_of numbers)) rings_long)
      ∙ ap numbers_of (parts_flat lengths_of_rings (corners_of numbers) sum)
      ∙ even

  pub same_lengths : lengths again ≡ lengths_of_rings
  unfolding polygons again
  same_lengths = lengths_again polygons ∙ ap (map length) (parts_flat ring_counts (parts_of lengths_of_rings (corners_of numbers)) rings_long) ∙ parts_lengths lengths_of_rings (corners_of numbers) sum

  pub same_counts : counts again ≡ ring_counts
  unfolding polygons again
  same_counts = counts_again polygons ∙ parts_lengths ring_counts (parts_of lengths_of_rings (corners_of numbers)) rings_long

-- an even list is its corners' numbers
pub even_numbers : (numbers : List ℤ) (n : ℕ) → length numbers ≡ n + n → numbers_of (corners_of numbers) ≡ numbers
unfolding numbers_of corners_of
even_numbers [] n e = refl
even_numbers (x ∷ []) n e = absurd (omega arith)
even_numbers (x ∷ y ∷ rest) zero e = absurd (omega arith)
even_numbers (x ∷ y ∷ rest) (suc n) e = ap (λ s. x ∷ y ∷ s) (even_numbers rest n (let l : length rest ≡ n + n = omega arith in l))
