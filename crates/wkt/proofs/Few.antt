-- A plan that was read from Well-Known Text is accepted, and it is no larger than the largest text can say. Assumes nothing.
use Rattle.std.specs.Prelude.{Ok}
use mathlib.Core.Path.{◌≡◌, refl, sym, ap, subst, ◌∙◌}
use mathlib.Core.Bool.{Bool, true, false, not, ◌||◌, true≢false}
use mathlib.Core.List.{List, [], ◌∷◌, ◌++◌}
use Prim.Native.Nat.{ℕ, ◌+◌, ◌-◌, ◌*◌, ◌/◌, ◌%◌, ◌≤◌}
use native.Mathlib.Omega.{arith}
use lib.Dec.{eqb, eqb-suc-zero}
use lib.IntN.{ℤ, pos, negsuc}
use lib.ListN.{length, length-append}
use borrow.Author.Tests.{eq-eqb, ne_eqb}
use Rattle.fields.specs.Decimals.{decimal}
use Rattle.fields.proofs.Bytes.{both}
use Rattle.fields.proofs.Written.{digits_some}
use Rattle.rules.specs.Lists.{any_of, total, is_odd}
use Rattle.rules.specs.Plans.{corner_count, uneven, plan_verdict}
use Rattle.rules.proofs.Verdicts.{few_enough, accepted_else}
use Rattle.grammar.specs.Grammar.{Ring, Polygon, Mark, round, Pair, pair, Rest, close, next, Bracketed, bracketed, RingText, PolygonText, Member, full, kept, Text, one, one_empty, many, many_empty}
use Rattle.grammar.specs.Texts.{drop_last}
use Rattle.grammar.specs.Spellings.{spells, Means}
use Rattle.grammar.specs.Scans.{spelling}
use Rattle.grammar.specs.Plans.{ends_at, is_closed, all_closed, every_closed, coordinates, ring_lengths, lengths, counts, plan_spelt}
use Rattle.lines.specs.declared.Size.{Size}
use Rattle.grammar.proofs.Means.{means}
use Rattle.grammar.proofs.Tables.{total_append, coordinates_twice, lengths_counted}
use Rattle.wkt.specs.Readings.{plan_in, WktRead}
use Rattle.wkt.proofs.Readings.{Given, given}
use Rattle.rules.specs.Answering.{Accepted}

-- what a text of n bytes can hold, and one of the largest size: 16,380 corners, 6,552 rings, 5,460 polygons
pub record Largest (n corners rings polygons : ℕ) : Type 0 where
  pub four_a_corner : 4 * corners ≤ n
  pub ten_a_ring : 10 * rings ≤ n
  pub twelve_a_polygon : 12 * polygons ≤ n
  pub most_corners : corners ≤ 16380
  pub most_rings : rings ≤ 6552
  pub most_polygons : polygons ≤ 5460

-- ---- the bytes of each part

mark_bytes : {c : ℕ} {m : List ℕ} → Mark c m → 1 ≤ length m
mark_bytes {c} (round {a} {b} h k) = let l = length-append a (c ∷ b) in omega arith

decimal_bytes : (z : ℤ) → 1 ≤ length (decimal z)
unfolding decimal
decimal_bytes (pos n) = digits_some n
decimal_bytes (negsuc n) = omega arith

-- a list in brackets has the bytes due, if each item brings its own and its mark's
module _ (A : Type 0) (L : A → List ℕ → Type 0) (due : List A → ℕ) (last : due [] ≤ 1) (each : (item : A) (items : List A) (s : List ℕ) → L item s → due (item ∷ items) ≤ 1 + length s + due items) where
  item_bytes : {item : A} {items : List A} {c : ℕ} {m s : List ℕ} (t : List ℕ) → Mark c m → L item s → due items ≤ length t → due (item ∷ items) ≤ length (m ++ (s ++ t))
  item_bytes {item} {items} {c} {m} {s} t k i h =
      let b = mark_bytes k in
      let e = each item items s i in
      let l = length-append m (s ++ t) in
      let n = length-append s t in
      omega arith

  rest_bytes : {items : List A} {t : List ℕ} → Rest A L items t → due items ≤ length t
  rest_bytes (close m) = let b = mark_bytes m in omega arith
  rest_bytes (next {t = t} k i r) = item_bytes t k i (rest_bytes r)

  brackets_bytes : {items : List A} {t : List ℕ} → Bracketed A L items t → due items ≤ length t
  brackets_bytes (bracketed {t = t} k i r) = item_bytes t k i (rest_bytes r)

brackets_some : (A : Type 0) (L : A → List ℕ → Type 0) {items : List A} {t : List ℕ} → Bracketed A L items t → 1 ≤ length items
brackets_some A L (bracketed k i r) = omega arith

pair_bytes : {p : _} {s : List ℕ} → Pair p s → 3 ≤ length s
pair_bytes (pair x y {a} h k sp) =
    let l = length-append (decimal x) (32 ∷ (a ++ decimal y)) in
    let n = length-append a (decimal y) in
    let b = decimal_bytes x in
    let c = decimal_bytes y in
    omega arith

dropped : (ring : Ring) → length (drop_last ring) ≡ length ring - 1
unfolding drop_last
dropped [] = refl
dropped (p ∷ []) = refl
dropped (p ∷ q ∷ ring) = let h = dropped (q ∷ ring) in omega arith

-- the corner that is dropped takes its 4 bytes too
ring_bytes : (ring : Ring) (s : List ℕ) → RingText ring s → 4 * length (drop_last ring) + 5 ≤ length s
ring_bytes ring s h =
    let b = brackets_bytes _ Pair (λ ps. 4 * length ps + 1) (omega arith) (λ p ps s i. let c = pair_bytes i in omega arith) h in
    let n = brackets_some _ Pair h in
    let d = dropped ring in
    omega arith

-- 4 bytes a corner, 6 a ring
abbrev rings_due : Polygon → ℕ
rings_due rings = 4 * total (ring_lengths rings) + 6 * length (ring_lengths rings) + 1

polygon_bytes : (rings : Polygon) (s : List ℕ) → PolygonText rings s → rings_due rings ≤ length s
unfolding ring_lengths total
polygon_bytes rings s h = brackets_bytes Ring RingText rings_due (omega arith) (λ ring rings s i. let b = ring_bytes ring s i in omega arith) h

-- and 2 a polygon
abbrev due : List Polygon → ℕ
due polygons = 4 * total (lengths polygons) + 6 * length (lengths polygons) + 2 * length (counts polygons)

due_more : (rings : Polygon) (polygons : List Polygon) → due (rings ∷ polygons) ≡ rings_due rings + 1 + due polygons
unfolding lengths counts
due_more rings polygons =
    let t = total_append (ring_lengths rings) (lengths polygons) in
    let l = length-append (ring_lengths rings) (lengths polygons) in
    omega arith

-- an EMPTY member is no polygon
member_bytes : (rings : Polygon) (members : List Polygon) (s : List ℕ) → Member rings s → due (kept (rings ∷ members)) ≤ 1 + length s + due (kept members)
unfolding kept
member_bytes [] members s m = omega arith
member_bytes (ring ∷ rings) members s (full h) = let b = polygon_bytes (ring ∷ rings) s h in let d = due_more (ring ∷ rings) (kept members) in omega arith

members_bytes : (members : List Polygon) (s : List ℕ) → Bracketed Polygon Member members s → due (kept members) + 1 ≤ length s
unfolding kept lengths counts total
members_bytes members s h = brackets_bytes Polygon Member (λ ms. due (kept ms) + 1) (omega arith) (λ m ms s i. let b = member_bytes m ms s i in omega arith) h

-- ---- what a text spells

abbrev is_zero : ℕ → Bool
is_zero n = eqb n 0

kept_full : (members : List Polygon) → any_of is_zero (counts (kept members)) ≡ false
unfolding kept counts any_of
kept_full [] = refl
kept_full ([] ∷ members) = kept_full members
kept_full ((ring ∷ rings) ∷ members) = ap (λ b. b || any_of is_zero (counts (kept members))) (eqb-suc-zero (length rings)) ∙ kept_full members

-- polygons of n bytes, each of one ring at least
record Spelt (n : ℕ) (polygons : List Polygon) : Type 0 where
  bytes : due polygons + 6 ≤ n
  full_ones : any_of is_zero (counts polygons) ≡ false

spelt : (polygons : List Polygon) {text : List ℕ} → Text polygons text → Spelt (length text) polygons
unfolding lengths counts total any_of
spelt polygons (one {rings} {s} h) =
    let b = polygon_bytes rings s h in
    let d = due_more rings [] in
    let n = brackets_some Ring RingText h in
    record { bytes = omega arith; full_ones = ap (λ b. b || false) (ne_eqb (length rings) 0 (λ e. absurd (omega arith))) }
spelt polygons (one_empty {a} h) = record { bytes = omega arith; full_ones = refl }
spelt polygons (many {members} {s} h) = let b = members_bytes members s h in record { bytes = omega arith; full_ones = kept_full members }
spelt polygons (many_empty {a} h) = record { bytes = omega arith; full_ones = refl }

-- ---- polygons, rings and corners: as many of each as of the one before, or more

few_polygons : (polygons : List Polygon) → any_of is_zero (counts polygons) ≡ false → length (counts polygons) ≤ length (lengths polygons)
unfolding any_of counts lengths ring_lengths
few_polygons [] h = omega arith
few_polygons ([] ∷ polygons) h = absurd (true≢false h)
few_polygons ((ring ∷ rings) ∷ polygons) h =
    let rest = few_polygons polygons (sym (ap (λ b. b || any_of is_zero (counts polygons)) (eqb-suc-zero (length rings))) ∙ h) in
    let l = length-append (ring_lengths rings) (lengths polygons) in
    omega arith

closed_corner : (ring : Ring) → is_closed ring ≡ true → 1 ≤ length (drop_last ring)
unfolding is_closed ends_at drop_last
closed_corner [] h = absurd (true≢false (sym h))
closed_corner (p ∷ []) h = absurd (true≢false (sym h))
closed_corner (p ∷ q ∷ ring) h = omega arith

closed_corners : (rings : Polygon) → all_closed rings ≡ true → length (ring_lengths rings) ≤ total (ring_lengths rings)
unfolding all_closed ring_lengths total
closed_corners [] h = omega arith
closed_corners (ring ∷ rings) h =
    let c = both (is_closed ring) (all_closed rings) h in
    let one = closed_corner ring c.0 in
    let rest = closed_corners rings c.1 in
    omega arith

few_rings : (polygons : List Polygon) → every_closed polygons ≡ true → length (lengths polygons) ≤ total (lengths polygons)
unfolding every_closed lengths total
few_rings [] h = omega arith
few_rings (rings ∷ polygons) h =
    let c = both (all_closed rings) (every_closed polygons) h in
    let one = closed_corners rings c.0 in
    let rest = few_rings polygons c.1 in
    let l = length-append (ring_lengths rings) (lengths polygons) in
    let t = total_append (ring_lengths rings) (lengths polygons) in
    omega arith

rings_counted : (polygons : List Polygon) → total (counts polygons) ≡ length (lengths polygons)
unfolding counts lengths total
rings_counted [] = refl
rings_counted (rings ∷ polygons) =
    let c = lengths_counted rings in
    let rest = rings_counted polygons in
    let l = length-append (ring_lengths rings) (lengths polygons) in
    omega arith

-- ---- 4 and 3

largest_of : (n : ℕ) (polygons : List Polygon) → n ≤ 65536 → Spelt n polygons → every_closed polygons ≡ true → Largest n (total (lengths polygons)) (length (lengths polygons)) (length (counts polygons))
unfolding lengths counts total
largest_of n [] h g c = record { four_a_corner = omega arith; ten_a_ring = omega arith; twelve_a_polygon = omega arith; most_corners = omega arith; most_rings = omega arith; most_polygons = omega arith }
largest_of n (rings ∷ polygons) h g c =
    let b = g.bytes in
    let p = few_polygons (rings ∷ polygons) g.full_ones in
    let r = few_rings (rings ∷ polygons) c in
    record { four_a_corner = omega arith; ten_a_ring = omega arith; twelve_a_polygon = omega arith; most_corners = omega arith; most_rings = omega arith; most_polygons = omega arith }

fits_together : (polygons : List Polygon) → any_of is_zero (counts polygons) ≡ false → uneven (plan_spelt polygons) ≡ false
unfolding uneven
fits_together polygons h =
    let e = coordinates_twice polygons in
    let whole : is_odd (length (coordinates polygons)) ≡ false = ne_eqb (length (coordinates polygons) % 2) 1 (λ z. absurd (omega arith)) in
    let corners : not (eqb (total (lengths polygons)) (corner_count (plan_spelt polygons))) ≡ false = ap not (eq-eqb (total (lengths polygons)) (corner_count (plan_spelt polygons)) (omega arith)) in
    let rings : not (eqb (total (counts polygons)) (length (lengths polygons))) ≡ false = ap not (eq-eqb (total (counts polygons)) (length (lengths polygons)) (rings_counted polygons)) in
    λ i. whole i || (corners i || (rings i || h i))

module _ (text : List ℕ) (polygons : List Polygon) (small : length text ≤ 65536) (e : spelling text ≡ spells polygons) (closed : every_closed polygons ≡ true) where
  of_text : Spelt (length text) polygons
  of_text = spelt polygons (subst (Means text) e (means text))

  few : Largest (length text) (total (lengths polygons)) (length (lengths polygons)) (length (counts polygons))
  few = largest_of (length text) polygons small of_text closed

  accepted : plan_verdict (plan_spelt polygons) ≡ Accepted
  accepted =
      let l = few in
      let t = coordinates_twice polygons in
      accepted_else (plan_spelt polygons) (few_enough (plan_spelt polygons) (record { corners = omega (arith, l.most_corners); rings = omega (arith, l.most_rings); polygons = λ list. omega (arith, l.most_polygons) })) (fits_together polygons of_text.full_ones)

-- ---- a plan that `read_wkt` has read

module _ (text : List ℕ) (c c' : List ℤ) (l l' n n' : List ℕ) (size : Size) (g : WktRead text c c' l l' n n' (Ok size)) where
  was : Given text (length c) (length l) (length n) size
  was = given text (length c) (length l) (length n) size g.answer

  -- it is no larger than its text can say
  pub read_few : Largest (length text) size.corners size.rings size.polygons
  read_few =
      let t = coordinates_twice was.polygons in
      let corners : total (lengths was.polygons) ≡ size.corners = (let h : total (lengths was.polygons) ≡ length (coordinates was.polygons) / 2 = omega arith in h) ∙ ap (λ s. s.corners) (sym was.counted) in
      let rings : length (lengths was.polygons) ≡ size.rings = ap (λ s. s.rings) (sym was.counted) in
      let polygons : length (counts was.polygons) ≡ size.polygons = ap (λ s. s.polygons) (sym was.counted) in
      let f = few text was.polygons was.small was.is was.closed in
      subst (λ k. Largest (length text) k size.rings size.polygons) corners (subst (λ k. Largest (length text) (total (lengths was.polygons)) k size.polygons) rings (subst (λ k. Largest (length text) (total (lengths was.polygons)) (length (lengths was.polygons)) k) polygons f))

  -- and gets neither 4 nor 3
  pub read_accepted : plan_verdict (plan_in (spelling text)) ≡ Accepted
  read_accepted = ap (λ s. plan_verdict (plan_in s)) was.is ∙ accepted text was.polygons was.small was.is was.closed
