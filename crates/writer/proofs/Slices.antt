-- A ring of a list as a part of the coordinates. Assumes nothing.
use mathlib.Core.Path.{◌≡◌, refl, ap, sym, ◌∙◌}
use mathlib.Core.Bool.{◌||◌}
use mathlib.Core.List.{List, [], ◌∷◌, map}
use Prim.Native.Nat.{ℕ, zero, suc, ◌+◌, ◌-◌, ◌*◌, ◌≤◌, ◌<◌}
use native.Mathlib.Omega.{arith}
use lib.Dec.{eqb}
use lib.IntN.{ℤ}
use lib.ListN.{length, get_or, take, drop, length-drop}
use lib.Seq.{length-take-le}
use borrow.Author.Tests.{eqb-false}
use Rattle.integers.proofs.Tests.{or_false}
use Rattle.rules.specs.Lists.{any_of, parts_of}
use Rattle.rules.specs.Plans.{corners_of}
use Rattle.rules.proofs.Corners.{corners_length}
use Rattle.grammar.specs.Texts.{closed}
use Rattle.writer.specs.Drawn.{Full, Rings, closed_rings}
use Rattle.writer.proofs.Parts.{Cut, cut_item, cut_reach, corners_part}

-- ring lengths that are not 0
pub full_at : (ls : List ℕ) → Full ls → (i : ℕ) → i < length ls → 0 < get_or ls i 0
unfolding any_of
full_at [] e i h = absurd (omega arith)
full_at (n ∷ ls) e zero h = let f = eqb-false n 0 (or_false (eqb n 0) _ e).0 in omega (arith, f)
full_at (n ∷ ls) e (suc i) h = full_at ls (or_false (eqb n 0) _ e).1 i (omega (arith, h))

pub full_take : (c : ℕ) (ls : List ℕ) → Full ls → Full (take c ls)
unfolding any_of
full_take zero ls e = refl
full_take (suc c) [] e = refl
full_take (suc c) (n ∷ ls) e = let f = or_false (eqb n 0) _ e in ap (λ b. b || any_of (λ m. eqb m 0) (take c ls)) f.0 ∙ full_take c ls f.1

pub full_drop : (c : ℕ) (ls : List ℕ) → Full ls → Full (drop c ls)
unfolding any_of
full_drop zero ls e = e
full_drop (suc c) [] e = refl
full_drop (suc c) (n ∷ ls) e = full_drop c ls (or_false (eqb n 0) _ e).1

drop_map : {A B : Type 0} (f : A → B) (i : ℕ) (xs : List A) → drop i (map f xs) ≡ map f (drop i xs)
drop_map f zero xs = refl
drop_map f (suc i) [] = refl
drop_map f (suc i) (x ∷ xs) = drop_map f i xs

-- the item of a mapped list
pub map_here : {A B : Type 0} (f : A → B) (xs : List A) (i : ℕ) (x : A) → drop i xs ≡ x ∷ drop (suc i) xs → drop i (map f xs) ≡ f x ∷ drop (suc i) (map f xs)
map_here f xs i x e = drop_map f i xs ∙ ap (map f) e ∙ ap (λ r. f x ∷ r) (sym (drop_map f (suc i) xs))

-- the coordinates of n corners from a first one on
abbrev pub ring_part : List ℤ → ℕ → ℕ → List ℤ
ring_part coordinates first n = take (2 * (first + n) - 2 * first) (drop (2 * first) coordinates)

module _ (coordinates : List ℤ) (lengths : List ℕ) (fine : Rings coordinates lengths) (first i : ℕ) (k : Cut lengths (corners_of coordinates) i first) (h : i < length lengths) where
  pub part_reach : 2 * (first + get_or lengths i 0) ≤ length coordinates
  part_reach = let r = cut_reach lengths (corners_of coordinates) i first k h fine.enough in let l = corners_length coordinates in omega (arith, r, l)

  pub part_length : length (ring_part coordinates first (get_or lengths i 0)) ≡ 2 * get_or lengths i 0
  part_length =
      let r = part_reach in
      let d = length-drop (2 * first) coordinates in
      length-take-le (2 * (first + get_or lengths i 0) - 2 * first) (drop (2 * first) coordinates) (omega (arith, r, d))
      ∙ (let e : 2 * (first + get_or lengths i 0) - 2 * first ≡ 2 * get_or lengths i 0 = omega arith in e)

  pub part_some : 1 < length (ring_part coordinates first (get_or lengths i 0))
  part_some = let l = part_length in let f = full_at lengths fine.full i h in omega (arith, l, f)

  -- ring i is this part, closed
  pub ring_here : drop i (closed_rings coordinates lengths) ≡ closed (corners_of (ring_part coordinates first (get_or lengths i 0))) ∷ drop (suc i) (closed_rings coordinates lengths)
  ring_here =
      map_here closed (parts_of lengths (corners_of coordinates)) i _ (cut_item lengths (corners_of coordinates) i first k h)
      ∙ ap (λ ring. closed ring ∷ drop (suc i) (closed_rings coordinates lengths)) (sym (corners_part first (get_or lengths i 0) coordinates))
