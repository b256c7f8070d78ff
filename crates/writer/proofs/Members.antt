-- The polygons of a list written one after another. Assumes nothing.
use mathlib.Core.Path.{◌≡◌, refl, ap, ap₂, sym, subst, ◌∙◌}
use mathlib.Core.Bool.{false, not}
use mathlib.Core.List.{List, ◌∷◌, ◌++◌, map}
use Prim.Native.Nat.{ℕ, suc, ◌+◌, ◌-◌, ◌*◌, ◌%◌, ◌^◌, ◌≤◌, ◌<◌}
use native.Mathlib.Omega.{arith}
use lib.Dec.{eqb}
use lib.IntN.{ℤ}
use lib.ListN.{length, get_or, take, drop, length-map, length-drop, drop_of_length-le}
use lib.Seq.{take_all, length-take-le}
use borrow.Author.Tests.{eqb-false}
use Rattle.integers.proofs.Tests.{or_false}
use Rattle.fields.specs.Written.{Wrote}
use Rattle.rules.specs.declared.Kind.TheVariants.{Polygons}
use Rattle.rules.specs.Lists.{is_odd, total, parts_of}
use Rattle.rules.specs.Plans.{Plan, corners_of, rings_of, polygons_of, uneven, corner_count}
use Rattle.rules.proofs.Corners.{corners_drop, corners_length}
use Rattle.rules.proofs.Verdicts.{accepted_passes, few, even}
use Rattle.grammar.specs.Texts.{polygon_text, closed}
use Rattle.writer.specs.Drawn.{Full, Drawn, Rings, closed_rings, closed_polygons, lead, leads}
use Rattle.writer.proofs.Parts.{Cut, cut, cut_one, cut_many, cut_many_reach, cut_item, cut_reach, cut_parts, parts_count}
use Rattle.writer.proofs.Leads.{first_room, second_room, wrote_both, Going, going, kept, next_room, going_on, gone}
use Rattle.writer.proofs.Slices.{full_at, full_take, full_drop, map_here}

-- a list of these three tables
abbrev pub list_of : List ℤ → List ℕ → List ℕ → Plan
list_of coordinates lengths counts = record { kind = Polygons; coordinates = coordinates; lengths = lengths; counts = counts }

-- a plan that can be written, as the list of the tables that hold it
module _ (plan plan' : Plan) (e : plan ≡ plan') (d : Drawn plan') where
  pub as_list : plan' ≡ list_of plan.coordinates plan.lengths plan.counts
  as_list = sym e ∙ ap (λ kind. record { kind = kind; coordinates = plan.coordinates; lengths = plan.lengths; counts = plan.counts }) (ap (λ p. p.kind) e ∙ d.list)

  pub drawn_list : Drawn (list_of plan.coordinates plan.lengths plan.counts)
  drawn_list = subst Drawn as_list d

  pub room_list : (at : ℕ) (o : List ℕ) → at + length (leads polygon_text 0 (closed_polygons plan')) ≤ length o → at + length (leads polygon_text 0 (closed_polygons (list_of plan.coordinates plan.lengths plan.counts))) ≤ length o
  room_list at o = subst (λ p. at + length (leads polygon_text 0 (closed_polygons p)) ≤ length o) as_list

-- ---- what is known of a list that can be written
module _ (coordinates : List ℤ) (lengths counts : List ℕ) (d : Drawn (list_of coordinates lengths counts)) where
  pub corners_few : length (corners_of coordinates) ≤ 2 ^ 20
  corners_few = let f = (few (list_of coordinates lengths counts) (accepted_passes (list_of coordinates lengths counts) d.accepted).0).corners in let l = corners_length coordinates in omega (arith, f, l)

  pub rings_few : length lengths ≤ 2 ^ 16
  rings_few = (few (list_of coordinates lengths counts) (accepted_passes (list_of coordinates lengths counts) d.accepted).0).rings

  pub polygons_few : length counts ≤ 2 ^ 16
  polygons_few = (few (list_of coordinates lengths counts) (accepted_passes (list_of coordinates lengths counts) d.accepted).0).polygons refl

  pub corners_sum : total lengths ≡ length (corners_of coordinates)
  corners_sum = (even (list_of coordinates lengths counts) d.accepted).corners ∙ sym (corners_length coordinates)

  pub rings_sum : total counts ≡ length lengths
  rings_sum = (even (list_of coordinates lengths counts) d.accepted).rings refl

  pub coordinates_even : is_odd (length coordinates) ≡ false
  unfolding uneven
  coordinates_even = (or_false (is_odd (length coordinates)) _ (accepted_passes (list_of coordinates lengths counts) d.accepted).1).0

  pub coordinates_few : length coordinates ≤ 2 ^ 21
  coordinates_few =
      let odd = eqb-false (length coordinates % 2) 1 coordinates_even in
      let f = corners_few in
      let l = corners_length coordinates in
      omega (arith, odd, f, l)

  -- every polygon has a ring
  pub counts_full : Full counts
  unfolding uneven
  counts_full =
      let a = (or_false (is_odd (length coordinates)) _ (accepted_passes (list_of coordinates lengths counts) d.accepted).1).1 in
      let b = (or_false (not (eqb (total lengths) (corner_count (list_of coordinates lengths counts)))) _ a).1 in
      (or_false (not (eqb (total counts) (length lengths))) _ b).1

  pub all_rings : Rings coordinates lengths
  all_rings = record { full = d.full; enough = let e = corners_sum in omega (arith, e) }

pub polygons_count : (plan : Plan) → length (closed_polygons plan) ≡ length plan.counts
unfolding polygons_of
polygons_count plan = length-map (polygons_of plan) (map closed) ∙ parts_count plan.counts (rings_of plan)

-- the lengths of c rings from a ring on, and the coordinates from a corner on
abbrev pub rings_part : List ℕ → ℕ → ℕ → List ℕ
rings_part lengths ring c = take (ring + c - ring) (drop ring lengths)

abbrev pub rest_part : List ℤ → ℕ → List ℤ
rest_part coordinates first = take (length coordinates - 2 * first) (drop (2 * first) coordinates)

rings_part_lem : (lengths : List ℕ) (ring c : ℕ) → rings_part lengths ring c ≡ take c (drop ring lengths)
rings_part_lem lengths ring c = ap (λ n. take n (drop ring lengths)) (let e : ring + c - ring ≡ c = omega arith in e)

rest_corners : (coordinates : List ℤ) (first : ℕ) → corners_of (rest_part coordinates first) ≡ drop first (corners_of coordinates)
rest_corners coordinates first =
    ap corners_of (take_all (length coordinates - 2 * first) (drop (2 * first) coordinates) (let d = length-drop (2 * first) coordinates in omega (arith, d)))
    ∙ sym (corners_drop coordinates first)

-- polygon i has its first ring at `ring` and its first corner at `first`
pub record Spot (coordinates : List ℤ) (lengths counts : List ℕ) (first ring i : ℕ) : Type 0 where
  pub polygon : Cut counts (parts_of lengths (corners_of coordinates)) i ring
  pub corner : Cut lengths (corners_of coordinates) ring first

spot : (coordinates : List ℤ) (lengths counts : List ℕ) → Spot coordinates lengths counts 0 0 0
spot coordinates lengths counts = record { polygon = cut counts (parts_of lengths (corners_of coordinates)); corner = cut lengths (corners_of coordinates) }

module _ (coordinates : List ℤ) (lengths counts : List ℕ) (d : Drawn (list_of coordinates lengths counts)) (first ring i : ℕ) (s : Spot coordinates lengths counts first ring i) where
  pub first_reach : 2 * first ≤ length coordinates
  first_reach = let a = s.corner.sum in let e = corners_sum coordinates lengths counts d in let l = corners_length coordinates in omega (arith, a, e, l)

  module _ (h : i < length counts) where
    abbrev c : ℕ
    c = get_or counts i 0

    pub rings_reach : ring + get_or counts i 0 ≤ length lengths
    rings_reach =
        let e = rings_sum coordinates lengths counts d in
        let l = parts_count lengths (corners_of coordinates) in
        let r = cut_reach counts (parts_of lengths (corners_of coordinates)) i ring s.polygon h (omega (arith, e, l)) in
        omega (arith, r, l)

    pub corners_reach : first + total (rings_part lengths ring (get_or counts i 0)) ≤ length (corners_of coordinates)
    corners_reach =
        let e = corners_sum coordinates lengths counts d in
        let r = cut_many_reach lengths (corners_of coordinates) ring first s.corner c (omega (arith, e)) in
        subst (λ part. first + total part ≤ length (corners_of coordinates)) (sym (rings_part_lem lengths ring c)) r

    spot_on : Spot coordinates lengths counts (first + total (rings_part lengths ring (get_or counts i 0))) (ring + get_or counts i 0) (i + 1)
    spot_on =
        record {
          polygon = cut_one counts (parts_of lengths (corners_of coordinates)) i ring s.polygon h;
          corner = subst (λ part. Cut lengths (corners_of coordinates) (ring + c) (first + total part)) (sym (rings_part_lem lengths ring c)) (cut_many lengths (corners_of coordinates) ring first s.corner c rings_reach);
        }

    pub part_rings : Rings (rest_part coordinates first) (rings_part lengths ring (get_or counts i 0))
    part_rings =
        record {
          full = subst Full (sym (rings_part_lem lengths ring c)) (full_take c (drop ring lengths) (full_drop ring lengths d.full));
          enough = let r = corners_reach in let l = ap length (rest_corners coordinates first) ∙ length-drop first (corners_of coordinates) in omega (arith, r, l);
        }

    pub part_rings_some : 0 < length (rings_part lengths ring (get_or counts i 0))
    part_rings_some =
        let f = full_at counts (counts_full coordinates lengths counts d) i h in
        let r = rings_reach in
        let g = length-drop ring lengths in
        let l = length-take-le (ring + c - ring) (drop ring lengths) (omega (arith, r, g)) in
        omega (arith, f, l)

    -- polygon i is made of these rings, closed
    polygon_here : drop i (closed_polygons (list_of coordinates lengths counts)) ≡ closed_rings (rest_part coordinates first) (rings_part lengths ring (get_or counts i 0)) ∷ drop (suc i) (closed_polygons (list_of coordinates lengths counts))
    unfolding polygons_of rings_of
    polygon_here =
        map_here (map closed) (parts_of counts (parts_of lengths (corners_of coordinates))) i _ (cut_item counts (parts_of lengths (corners_of coordinates)) i ring s.polygon h)
        ∙ ap (λ rings. map closed rings ∷ drop (suc i) (closed_polygons (list_of coordinates lengths counts)))
        (cut_parts lengths (corners_of coordinates) ring first s.corner c ∙ ap₂ parts_of (sym (rings_part_lem lengths ring c)) (sym (rest_corners coordinates first)))

-- ---- the loop

-- the polygons before polygon i are written
pub record Listing (coordinates : List ℤ) (lengths counts : List ℕ) (at : ℕ) (o o' : List ℕ) (place first ring i : ℕ) : Type 0 where
  pub here : Spot coordinates lengths counts first ring i
  pub so_far : Going polygon_text (closed_polygons (list_of coordinates lengths counts)) at o o' place i

pub listing : (coordinates : List ℤ) (lengths counts : List ℕ) (at : ℕ) (o : List ℕ) → Listing coordinates lengths counts at o o at 0 0 0
listing coordinates lengths counts at o = record { here = spot coordinates lengths counts; so_far = going polygon_text (closed_polygons (list_of coordinates lengths counts)) at o }

module _ (coordinates : List ℤ) (lengths counts : List ℕ) (d : Drawn (list_of coordinates lengths counts)) (at : ℕ) (o : List ℕ) (room : at + length (leads polygon_text 0 (closed_polygons (list_of coordinates lengths counts))) ≤ length o) (o' : List ℕ) (place first ring i : ℕ) (s : Listing coordinates lengths counts at o o' place first ring i) where
  pub listing_kept : length o' ≡ length o
  listing_kept = kept polygon_text (closed_polygons (list_of coordinates lengths counts)) at o room o' place i s.so_far

  module _ (h : i < length counts) where
    abbrev polygon : List ℕ
    polygon = polygon_text (closed_rings (rest_part coordinates first) (rings_part lengths ring (get_or counts i 0)))

    polygon_room : place + length (lead i ++ polygon) ≤ length o'
    polygon_room = next_room polygon_text (closed_polygons (list_of coordinates lengths counts)) at o room o' place i s.so_far _ (polygon_here coordinates lengths counts d first ring i s.here h)

    pub lead_room : place + length (lead i) ≤ length o'
    lead_room = first_room place (lead i) polygon o' polygon_room

    module _ (o1 : List ℕ) (n1 : ℕ) (w1 : Wrote place (lead i) o' o1 n1) where
      pub after_lead_room : n1 + length (polygon_text (closed_rings (rest_part coordinates first) (rings_part lengths ring (get_or counts i 0)))) ≤ length o1
      after_lead_room = second_room place (lead i) polygon o' o1 n1 polygon_room w1

      pub listing_on : (o2 : List ℕ) (n2 n : ℕ) → Wrote n1 (polygon_text (closed_rings (rest_part coordinates first) (rings_part lengths ring (get_or counts i 0)))) o1 o2 n2 → n ≡ total (rings_part lengths ring (get_or counts i 0)) → Listing coordinates lengths counts at o o2 n2 (first + n) (ring + get_or counts i 0) (i + 1)
      listing_on o2 n2 n w2 e =
          record {
            here = subst (λ m. Spot coordinates lengths counts (first + m) (ring + get_or counts i 0) (i + 1)) (sym e) (spot_on coordinates lengths counts d first ring i s.here h);
            so_far = going_on polygon_text (closed_polygons (list_of coordinates lengths counts)) at o room o' place i s.so_far _ (polygon_here coordinates lengths counts d first ring i s.here h) o2 n2 (wrote_both place (lead i) polygon o' o1 o2 n1 n2 polygon_room w1 w2);
          }

  pub listed : length counts ≤ i → Wrote at (leads polygon_text 0 (closed_polygons (list_of coordinates lengths counts))) o o' place
  listed h = gone polygon_text (closed_polygons (list_of coordinates lengths counts)) at o room o' place i s.so_far (drop_of_length-le (closed_polygons (list_of coordinates lengths counts)) {i = i} (let l = polygons_count (list_of coordinates lengths counts) in omega (arith, l, h)))
