-- The rings of a polygon written one after another. Assumes nothing.
use mathlib.Core.Path.{◌≡◌, sym, subst, ◌∙◌}
use mathlib.Core.List.{List, [], ◌∷◌, ◌++◌}
use Prim.Native.Nat.{ℕ, ◌+◌, ◌≤◌, ◌<◌}
use native.Mathlib.Omega.{arith}
use lib.IntN.{ℤ}
use lib.ListN.{length, get_or, length-map, drop_of_length-le}
use Rattle.fields.specs.Written.{Wrote}
use Rattle.rules.specs.Lists.{parts_of}
use Rattle.rules.specs.Plans.{corners_of}
use Rattle.grammar.specs.Texts.{ring_text, polygon_text, closed}
use Rattle.writer.specs.Drawn.{Rings, closed_rings, lead, leads}
use Rattle.writer.proofs.Parts.{Cut, cut, cut_one, parts_count}
use Rattle.writer.proofs.Leads.{first_room, second_room, wrote_both, brackets_leads, Going, going, kept, next_room, going_on, gone}
use Rattle.writer.proofs.Slices.{ring_part, ring_here}

-- the rings before ring i are written, and ring i begins at corner `first`
pub record Drawing (coordinates : List ℤ) (lengths : List ℕ) (at : ℕ) (o o' : List ℕ) (place first i : ℕ) : Type 0 where
  pub here : Cut lengths (corners_of coordinates) i first
  pub so_far : Going ring_text (closed_rings coordinates lengths) at o o' place i

pub drawing : (coordinates : List ℤ) (lengths : List ℕ) (at : ℕ) (o : List ℕ) → Drawing coordinates lengths at o o at 0 0
drawing coordinates lengths at o = record { here = cut lengths (corners_of coordinates); so_far = going ring_text (closed_rings coordinates lengths) at o }

pub rings_count : (coordinates : List ℤ) (lengths : List ℕ) → length (closed_rings coordinates lengths) ≡ length lengths
rings_count coordinates lengths = length-map (parts_of lengths (corners_of coordinates)) closed ∙ parts_count lengths (corners_of coordinates)

module _ (coordinates : List ℤ) (lengths : List ℕ) (fine : Rings coordinates lengths) (some : 0 < length lengths) (at : ℕ) (o : List ℕ) (room : at + length (polygon_text (closed_rings coordinates lengths)) ≤ length o) where
  abbrev rings : List ℕ
  rings = leads ring_text 0 (closed_rings coordinates lengths)

  polygon_is : polygon_text (closed_rings coordinates lengths) ≡ rings ++ (41 ∷ [])
  polygon_is = brackets_leads ring_text (closed_rings coordinates lengths) (let l = rings_count coordinates lengths in omega (arith, some, l))

  room_in_parts : at + length (rings ++ (41 ∷ [])) ≤ length o
  room_in_parts = subst (λ s. at + length s ≤ length o) polygon_is room

  rings_room : at + length rings ≤ length o
  rings_room = first_room at rings (41 ∷ []) o room_in_parts

  module _ (o' : List ℕ) (place first i : ℕ) (d : Drawing coordinates lengths at o o' place first i) where
    pub drawing_kept : length o' ≡ length o
    drawing_kept = kept ring_text (closed_rings coordinates lengths) at o rings_room o' place i d.so_far

    module _ (h : i < length lengths) where
      abbrev ring : List ℕ
      ring = ring_text (closed (corners_of (ring_part coordinates first (get_or lengths i 0))))

      ring_room : place + length (lead i ++ ring) ≤ length o'
      ring_room = next_room ring_text (closed_rings coordinates lengths) at o rings_room o' place i d.so_far _ (ring_here coordinates lengths fine first i d.here h)

      pub lead_room : place + length (lead i) ≤ length o'
      lead_room = first_room place (lead i) ring o' ring_room

      module _ (o1 : List ℕ) (n1 : ℕ) (w1 : Wrote place (lead i) o' o1 n1) where
        pub after_lead_room : n1 + length ring ≤ length o1
        after_lead_room = second_room place (lead i) ring o' o1 n1 ring_room w1

        pub drawing_on : (o2 : List ℕ) (n2 : ℕ) → Wrote n1 ring o1 o2 n2 → Drawing coordinates lengths at o o2 n2 (first + get_or lengths i 0) (i + 1)
        drawing_on o2 n2 w2 =
            record {
              here = cut_one lengths (corners_of coordinates) i first d.here h;
              so_far = going_on ring_text (closed_rings coordinates lengths) at o rings_room o' place i d.so_far _ (ring_here coordinates lengths fine first i d.here h) o2 n2 (wrote_both place (lead i) ring o' o1 o2 n1 n2 ring_room w1 w2);
            }

    module _ (h : length lengths ≤ i) where
      all_rings : Wrote at rings o o' place
      all_rings = gone ring_text (closed_rings coordinates lengths) at o rings_room o' place i d.so_far (drop_of_length-le (closed_rings coordinates lengths) {i = i} (let l = rings_count coordinates lengths in omega (arith, l, h)))

      pub bracket_room : place + 1 ≤ length o'
      bracket_room = second_room at rings (41 ∷ []) o o' place room_in_parts all_rings

      pub polygon_wrote : (o1 : List ℕ) (r : ℕ) → Wrote place (41 ∷ []) o' o1 r → Wrote at (polygon_text (closed_rings coordinates lengths)) o o1 r
      polygon_wrote o1 r w = subst (λ s. Wrote at s o o1 r) (sym polygon_is) (wrote_both at rings (41 ∷ []) o o' o1 place r room_in_parts all_rings w)
