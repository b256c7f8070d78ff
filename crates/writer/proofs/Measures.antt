-- How many bytes items in brackets, rings and polygons have. Assumes nothing.
use mathlib.Core.Path.{◌≡◌, refl, ap, sym, subst, ◌∙◌}
use mathlib.Core.List.{List, [], ◌∷◌, ◌++◌, map}
use Prim.Native.Nat.{ℕ, zero, suc, ◌+◌, ◌-◌, ◌*◌, ◌/◌, ◌%◌, ◌≤◌, ◌<◌}
use native.Mathlib.Omega.{arith}
use lib.Dec.{eqb}
use lib.IntN.{ℤ}
use lib.ListN.{length, get_or, take, drop, length-append, length-map, length-drop, drop_of_length-le}
use lib.Seq.{length-take-le, take-add, take_all}
use borrow.Author.Tests.{eqb-false}
use Rattle.integers.proofs.Tests.{or_false}
use Rattle.geom.specs.declared.Point.{Point}
use Rattle.rules.specs.Lists.{any_of, total, parts_of}
use Rattle.rules.specs.Plans.{Plan, corners_of, rings_of, polygons_of}
use Rattle.rules.proofs.Corners.{corners_length}
use Rattle.grammar.specs.Grammar.{Ring, Polygon}
use Rattle.grammar.specs.Texts.{after, in_brackets, pair_text, ring_text, polygon_text, closed, wkt_text, wkt_of}
use Rattle.writer.specs.Drawn.{Full, Drawn, Rings, closed_rings, closed_polygons}
use Rattle.writer.specs.Lengths.{AllFit, decimals_of, ring_length, Decimals, RingLong, RingsLong, TextLong}
use Rattle.writer.proofs.Parts.{Cut, cut, cut_one}
use Rattle.writer.proofs.Sums.{Summed, summed, summed_on, summed_up}
use Rattle.writer.proofs.Numbers.{fit_append}
use Rattle.writer.proofs.Pairs.{pair_length}
use Rattle.writer.proofs.Slices.{ring_part, part_length, ring_here}
use Rattle.writer.proofs.Polygons.{rings_count}
use Rattle.writer.proofs.Members.{list_of, corners_sum, rings_sum, coordinates_even, counts_full, polygons_count}
use Rattle.writer.proofs.Whole.{no_polygons}

-- ---- in brackets: two bytes an item, and the items

module _ {A : Type 0} (text : A → List ℕ) where
  abbrev weigh : List A → ℕ
  weigh items = total (map (λ item. length (text item)) items)

  after_length : (items : List A) → length (after text items) ≡ 1 + 2 * length items + weigh items
  unfolding after total
  after_length [] = refl
  after_length (item ∷ items) = let l = length-append (text item) (after text items) in let h = after_length items in omega (arith, l, h)

  brackets_length : (items : List A) → 0 < length items → length (in_brackets text items) ≡ 2 * length items + weigh items
  unfolding in_brackets total
  brackets_length [] h = absurd (omega arith)
  brackets_length (item ∷ items) h = let l = length-append (text item) (after text items) in let e = after_length items in omega (arith, l, e)

  weigh_more : (items : List A) (item : A) → weigh (items ++ (item ∷ [])) ≡ weigh items + length (text item)
  unfolding total
  weigh_more [] item = omega arith
  weigh_more (first ∷ items) item = let h = weigh_more items item in omega (arith, h)

-- ---- a ring

pairs_length : (ring : List ℤ) → 2 * length (corners_of ring) ≡ length ring → weigh pair_text (corners_of ring) ≡ length (corners_of ring) + decimals_of ring
unfolding corners_of total
pairs_length [] e = refl
pairs_length (x ∷ []) e = absurd (omega (arith, e))
pairs_length (x ∷ y ∷ rest) e = let h = pairs_length rest (omega (arith, e)) in let l = pair_length x y in omega (arith, h, l)

ring_long : (ring : List ℤ) → 1 < length ring → 2 * length (corners_of ring) ≡ length ring → ring_length (closed (corners_of ring)) ≡ 3 * length (corners_of ring) + 3 + decimals_of ring + decimals_of (take 2 ring)
unfolding corners_of closed total
ring_long [] h e = absurd (omega arith)
ring_long (x ∷ []) h e = absurd (omega arith)
ring_long (x ∷ y ∷ rest) h e =
    let p : Point = record { x = x; y = y } in
    let a = brackets_length pair_text ((p ∷ corners_of rest) ++ (p ∷ [])) (omega arith) in
    let l = length-append (p ∷ corners_of rest) (p ∷ []) in
    let m = weigh_more pair_text (p ∷ corners_of rest) p in
    let n = pairs_length (x ∷ y ∷ rest) e in
    let q = pair_length x y in
    omega (arith, a, l, m, n, q)

pub ring_counted : (ring : List ℤ) → 1 < length ring → 2 * length (corners_of ring) ≡ length ring → (a b : ℕ) → Decimals ring a → Decimals (take 2 ring) b → RingLong ring (3 * (length ring / 2) + 3 + a + b)
ring_counted ring h e a b f g =
    let l = ring_long ring h e in
    let fe = f.exact in
    let ge = g.exact in
    let fs = f.small in
    let gs = g.small in
    let two = length-take-le 2 ring (omega (arith, h)) in
    let half : length ring / 2 ≡ length (corners_of ring) = omega (arith, e) in
    record {
      exact = omega (arith, l, fe, ge, half);
      small = omega (arith, fs, gs, two, half, e);
      fits = f.fits;
    }

-- ---- rings

-- the rings before ring i are counted, and ring i begins at corner `first`
pub record Measuring (coordinates : List ℤ) (lengths : List ℕ) (sum first i : ℕ) : Type 0 where
  pub here : Cut lengths (corners_of coordinates) i first
  pub so_far : Summed ring_length (closed_rings coordinates lengths) sum i
  pub small : sum ≤ 43 * (first + i)
  pub fits : AllFit (take (2 * first) coordinates)

pub measuring : (coordinates : List ℤ) (lengths : List ℕ) → Measuring coordinates lengths 0 0 0
unfolding any_of
measuring coordinates lengths = record { here = cut lengths (corners_of coordinates); so_far = summed ring_length (closed_rings coordinates lengths); small = omega arith; fits = refl }

module _ (coordinates : List ℤ) (lengths : List ℕ) (fine : Rings coordinates lengths) (sum first i : ℕ) (k : Measuring coordinates lengths sum first i) where
  module _ (h : i < length lengths) where
    abbrev n : ℕ
    n = get_or lengths i 0

    part_corners : length (corners_of (ring_part coordinates first (get_or lengths i 0))) ≡ get_or lengths i 0
    part_corners = let l = corners_length (ring_part coordinates first n) in let p = part_length coordinates lengths fine first i k.here h in omega (arith, l, p)

    pub part_even : 2 * length (corners_of (ring_part coordinates first (get_or lengths i 0))) ≡ length (ring_part coordinates first (get_or lengths i 0))
    part_even = let c = part_corners in let p = part_length coordinates lengths fine first i k.here h in omega (arith, c, p)

    module _ (m : ℕ) (r : RingLong (ring_part coordinates first (get_or lengths i 0)) m) where
      pub part_small : m ≤ 43 * (get_or lengths i 0 + 1)
      part_small = let s = r.small in let c = part_corners in omega (arith, s, c)

      so_many : take (2 * (first + n)) coordinates ≡ take (2 * first) coordinates ++ ring_part coordinates first n
      so_many =
          ap (λ j. take j coordinates) (let e : 2 * (first + n) ≡ 2 * first + (2 * (first + n) - 2 * first) = omega arith in e)
          ∙ take-add (2 * first) (2 * (first + n) - 2 * first) coordinates

      pub measuring_on : Measuring coordinates lengths (sum + m) (first + get_or lengths i 0) (i + 1)
      measuring_on =
          let s = part_small in
          let t = k.small in
          record {
            here = cut_one lengths (corners_of coordinates) i first k.here h;
            so_far = subst (λ w. Summed ring_length (closed_rings coordinates lengths) (sum + w) (i + 1)) (sym r.exact) (summed_on ring_length (closed_rings coordinates lengths) sum i k.so_far _ (ring_here coordinates lengths fine first i k.here h));
            small = omega (arith, s, t);
            fits = subst AllFit (sym so_many) (fit_append (take (2 * first) coordinates) (ring_part coordinates first n) k.fits r.fits);
          }

  pub measured : length lengths ≤ i → RingsLong coordinates lengths sum
  unfolding total
  measured h =
      let f = k.here.few in
      let t = k.small in
      let last : first ≡ total lengths = let s = k.here.sum in let e = ap total (drop_of_length-le lengths {i = i} h) in omega (arith, s, e) in
      record {
        exact = summed_up ring_length (closed_rings coordinates lengths) sum i k.so_far (drop_of_length-le (closed_rings coordinates lengths) {i = i} (let l = rings_count coordinates lengths in omega (arith, l, h)));
        small = omega (arith, f, t, last);
        fits = subst (λ j. AllFit (take (2 * j) coordinates)) last k.fits;
      }

-- ---- polygons

weigh_cut : (c : ℕ) (rings : List Ring) → total (map ring_length (map closed rings)) ≡ total (map ring_length (map closed (take c rings))) + total (map ring_length (map closed (drop c rings)))
unfolding total
weigh_cut zero rings = omega arith
weigh_cut (suc c) [] = refl
weigh_cut (suc c) (ring ∷ rings) = let h = weigh_cut c rings in omega (arith, h)

polygons_long : (counts : List ℕ) (rings : List Ring) → Full counts → total counts ≡ length rings → weigh polygon_text (map (map closed) (parts_of counts rings)) ≡ 2 * length rings + total (map ring_length (map closed rings))
unfolding total parts_of any_of
polygons_long [] [] f e = refl
polygons_long [] (ring ∷ rings) f e = absurd (omega (arith, e))
polygons_long (n ∷ counts) rings f e =
    let g = or_false (eqb n 0) _ f in
    let some = eqb-false n 0 g.0 in
    let d = length-drop n rings in
    let t = length-take-le n rings (omega (arith, e)) in
    let l = length-map (take n rings) closed in
    let here = brackets_length ring_text (map closed (take n rings)) (omega (arith, l, t, some)) in
    let rest = polygons_long counts (drop n rings) g.1 (omega (arith, e, d)) in
    let w = weigh_cut n rings in
    omega (arith, here, rest, w, l, t, d, e)

some_long : (polygons : List Polygon) → 0 < length polygons → length (wkt_text polygons) ≡ 13 + 2 * length polygons + weigh polygon_text polygons
unfolding wkt_text
some_long [] h = absurd (omega arith)
some_long (rings ∷ polygons) h = let b = brackets_length polygon_text (rings ∷ polygons) h in omega (arith, b)

module _ (coordinates : List ℤ) (lengths counts : List ℕ) (d : Drawn (list_of coordinates lengths counts)) (rings : ℕ) (r : RingsLong coordinates lengths rings) where
  all_fit : AllFit coordinates
  all_fit =
      let odd = eqb-false (length coordinates % 2) 1 (coordinates_even coordinates lengths counts d) in
      let s = corners_sum coordinates lengths counts d in
      let l = corners_length coordinates in
      subst AllFit (take_all (2 * total lengths) coordinates (omega (arith, odd, s, l))) r.fits

  pub empty_long : length counts ≡ 0 → TextLong (list_of coordinates lengths counts) 18
  empty_long e = record { exact = sym (ap length (no_polygons (list_of coordinates lengths counts) e)); fits = all_fit }

  pub text_long : (length counts ≡ 0 → ⊥) → TextLong (list_of coordinates lengths counts) (13 + 2 * length counts + 2 * length lengths + rings)
  unfolding wkt_of polygons_of rings_of
  text_long e =
      let c = polygons_count (list_of coordinates lengths counts) in
      let w = some_long (closed_polygons (list_of coordinates lengths counts)) (omega (arith, c, e)) in
      let k = rings_count coordinates lengths in
      let m = length-map (parts_of lengths (corners_of coordinates)) closed in
      let s = rings_sum coordinates lengths counts d in
      let p = polygons_long counts (parts_of lengths (corners_of coordinates)) (counts_full coordinates lengths counts d) (omega (arith, s, k, m)) in
      let x = r.exact in
      record { exact = omega (arith, c, w, k, m, s, p, x); fits = all_fit }

pub same_long : (plan plan' : Plan) (bytes : ℕ) → plan ≡ plan' → TextLong plan bytes → TextLong plan' bytes
same_long plan plan' bytes e = subst (λ p. TextLong p bytes) e
