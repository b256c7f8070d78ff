-- The text of a list, read back: it spells the closed polygons, all of them closed, and they give the list again. Assumes nothing.
use mathlib.Core.Path.{◌≡◌, refl, ap, ap₂, sym, ◌∙◌}
use mathlib.Core.Bool.{true, ◌&&◌}
use mathlib.Core.List.{List, [], ◌∷◌, ◌++◌, map}
use Prim.Native.Nat.{ℕ, zero, suc, ◌/◌, ◌%◌, ◌<◌}
use native.Mathlib.Omega.{arith}
use lib.Dec.{eqb}
use lib.IntN.{ℤ}
use lib.ListN.{length, take, drop, length-drop}
use lib.Seq.{length-take-le}
use borrow.Author.Tests.{eqb-false}
use Rattle.integers.proofs.Tests.{or_false, not_false}
use Rattle.rules.specs.Lists.{any_of, total, parts_of}
use Rattle.rules.specs.Plans.{corners_of, rings_of, polygons_of}
use Rattle.fields.specs.Decimals.{fits_word}
use Rattle.grammar.specs.Grammar.{Ring, Polygon}
use Rattle.grammar.specs.Spellings.{spells}
use Rattle.grammar.specs.Scans.{spelling}
use Rattle.grammar.specs.Texts.{closed, wkt_of}
use Rattle.rules.specs.declared.Kind.TheVariants.{Polygons}
use Rattle.grammar.specs.Plans as Plans
use Rattle.grammar.specs.Plans.{numbers_of, is_closed, all_closed, every_closed, plan_spelt}
use Rattle.grammar.proofs.Texts.{All, Some, Fits, Writable, read_again}
use Rattle.grammar.proofs.Same.{same_self}
use Rattle.grammar.proofs.Tables.{closed_by}
use Rattle.grammar.proofs.Again.{polygons, again, same_coordinates, same_lengths, same_counts, even_numbers}
use Rattle.writer.specs.Drawn.{Full, Drawn, closed_polygons}
use Rattle.writer.specs.Lengths.{unfit, AllFit}
use Rattle.writer.proofs.Members.{list_of, corners_sum, rings_sum, coordinates_even, counts_full}
use Rattle.writer.proofs.Parts.{parts_count}

-- ---- all of them so

module _ {A : Type 0} (P : A → Type 0) where
  all_take : (n : ℕ) (xs : List A) → All P xs → All P (take n xs)
  all_take zero xs f = tt
  all_take (suc n) [] f = tt
  all_take (suc n) (x ∷ xs) f = (f.0, all_take n xs f.1)

  all_drop : (n : ℕ) (xs : List A) → All P xs → All P (drop n xs)
  all_drop zero xs f = f
  all_drop (suc n) [] f = tt
  all_drop (suc n) (x ∷ xs) f = all_drop n xs f.1

  all_some : (xs : List A) → 0 < length xs → All P xs → Some P xs
  all_some [] h f = absurd (omega arith)
  all_some (x ∷ xs) h f = f

  -- parts that are not empty
  all_parts : (ns : List ℕ) (xs : List A) → Full ns → total ns ≡ length xs → All P xs → All (Some P) (parts_of ns xs)
  unfolding parts_of any_of total
  all_parts [] xs f e g = tt
  all_parts (n ∷ ns) xs f e g =
      let h = or_false (eqb n 0) _ f in
      let some = eqb-false n 0 h.0 in
      let l = length-take-le n xs (omega (arith, e)) in
      let d = length-drop n xs in
      (all_some (take n xs) (omega (arith, l, some)) (all_take n xs g), all_parts ns (drop n xs) h.1 (omega (arith, d, e)) (all_drop n xs g))

all_map : {A B : Type 0} (P : A → Type 0) (Q : B → Type 0) (f : A → B) → ((x : A) → P x → Q (f x)) → (xs : List A) → All P xs → All Q (map f xs)
all_map P Q f is [] g = tt
all_map P Q f is (x ∷ xs) g = (is x g.0, all_map P Q f is xs g.1)

some_map : {A B : Type 0} (P : A → Type 0) (Q : B → Type 0) (f : A → B) → ((x : A) → P x → Q (f x)) → (xs : List A) → Some P xs → Some Q (map f xs)
some_map P Q f is [] g = absurd g
some_map P Q f is (x ∷ xs) g = (is x g.0, all_map P Q f is xs g.1)

all_more : {A : Type 0} (P : A → Type 0) (xs : List A) (y : A) → All P xs → P y → All P (xs ++ (y ∷ []))
all_more P [] y f g = (g, tt)
all_more P (x ∷ xs) y f g = (f.0, all_more P xs y f.1 g)

-- ---- corners of 64 bits

corners_fit : (numbers : List ℤ) → AllFit numbers → All Fits (corners_of numbers)
unfolding corners_of any_of
corners_fit [] f = tt
corners_fit (x ∷ []) f = tt
corners_fit (x ∷ y ∷ rest) f =
    let a = or_false (unfit x) _ f in
    let b = or_false (unfit y) _ a.1 in
    ((not_false (fits_word x) a.0, not_false (fits_word y) b.0), corners_fit rest b.1)

closed_fit : (ring : Ring) → Some Fits ring → Some Fits (closed ring)
unfolding closed
closed_fit [] f = absurd f
closed_fit (p ∷ ring) f = (f.0, all_more Fits ring p f.1 f.0)

-- ---- rings that are closed

closed_closed : (ring : Ring) → Some Fits ring → is_closed (closed ring) ≡ true
unfolding closed
closed_closed [] f = absurd f
closed_closed (p ∷ ring) f = closed_by p p ring ∙ ap₂ (λ a b. a && b) (same_self p.x) (same_self p.y)

rings_closed : (rings : Polygon) → All (Some Fits) rings → all_closed (map closed rings) ≡ true
unfolding all_closed
rings_closed [] f = refl
rings_closed (ring ∷ rings) f = ap₂ ◌&&◌ (closed_closed ring f.0) (rings_closed rings f.1)

polygons_closed : (ps : List Polygon) → All (All (Some Fits)) ps → every_closed (map (map closed) ps) ≡ true
unfolding every_closed
polygons_closed [] f = refl
polygons_closed (rings ∷ ps) f = ap₂ ◌&&◌ (rings_closed rings f.0) (polygons_closed ps f.1)

some_all : (rings : Polygon) → Some (Some Fits) rings → All (Some Fits) rings
some_all [] f = absurd f
some_all (ring ∷ rings) f = f

all_alls : (ps : List Polygon) → All (Some (Some Fits)) ps → All (All (Some Fits)) ps
all_alls [] f = tt
all_alls (rings ∷ ps) f = (some_all rings f.0, all_alls ps f.1)

-- ---- a list that can be written
module _ (coordinates : List ℤ) (lengths counts : List ℕ) (d : Drawn (list_of coordinates lengths counts)) (fit : AllFit coordinates) where
  rings_long : total counts ≡ length (parts_of lengths (corners_of coordinates))
  rings_long = rings_sum coordinates lengths counts d ∙ sym (parts_count lengths (corners_of coordinates))

  as_fit : All (Some (Some Fits)) (parts_of counts (parts_of lengths (corners_of coordinates)))
  as_fit = all_parts (Some Fits) counts (parts_of lengths (corners_of coordinates)) (counts_full coordinates lengths counts d) rings_long (all_parts Fits lengths (corners_of coordinates) d.full (corners_sum coordinates lengths counts d) (corners_fit coordinates fit))

  writable : Writable (closed_polygons (list_of coordinates lengths counts))
  unfolding polygons_of rings_of
  writable = all_map (Some (Some Fits)) (Some (Some Fits)) (map closed) (some_map (Some Fits) (Some Fits) closed closed_fit) (parts_of counts (parts_of lengths (corners_of coordinates))) as_fit

  pub closed_back : every_closed (closed_polygons (list_of coordinates lengths counts)) ≡ true
  unfolding polygons_of rings_of
  closed_back = polygons_closed (parts_of counts (parts_of lengths (corners_of coordinates))) (all_alls (parts_of counts (parts_of lengths (corners_of coordinates))) as_fit)

  numbers_even : numbers_of (corners_of coordinates) ≡ coordinates
  numbers_even =
      let odd = eqb-false (length coordinates % 2) 1 (coordinates_even coordinates lengths counts d) in
      even_numbers coordinates (length coordinates / 2) (omega (arith, odd))

  -- the plan that it spells is the list
  pub plan_back : plan_spelt (closed_polygons (list_of coordinates lengths counts)) ≡ list_of coordinates lengths counts
  unfolding polygons_of rings_of polygons again
  plan_back =
      let e = numbers_even in
      let s = corners_sum coordinates lengths counts d in
      let t = rings_sum coordinates lengths counts d in
      ap (λ xs. record { kind = Polygons; coordinates = xs; lengths = Plans.lengths (closed_polygons (list_of coordinates lengths counts)); counts = Plans.counts (closed_polygons (list_of coordinates lengths counts)) }) (same_coordinates coordinates lengths counts e s t)
      ∙ ap₂ (λ ls cs. record { kind = Polygons; coordinates = coordinates; lengths = ls; counts = cs }) (same_lengths coordinates lengths counts e s t) (same_counts coordinates lengths counts e s t)

  -- its text spells its polygons, closed
  pub spelt_back : spelling (wkt_of (list_of coordinates lengths counts)) ≡ spells (closed_polygons (list_of coordinates lengths counts))
  unfolding wkt_of
  spelt_back = read_again (closed_polygons (list_of coordinates lengths counts)) writable
