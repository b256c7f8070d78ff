-- The loop over the rings of a polygon, and its ways out. Assumes nothing.
use mathlib.Core.Path.{◌≡◌, refl, sym, ap, ap₂, ◌∙◌}
use mathlib.Core.Bool.{Bool, true, false, ◌&&◌}
use mathlib.Core.List.{List, [], ◌∷◌, ◌++◌, append-nil}
use Prim.Native.Nat.{ℕ, ◌+◌, ◌-◌, ◌*◌, ◌≤◌}
use native.Mathlib.Omega.{arith}
use lib.IntN.{ℤ}
use lib.ListN.{length, set, length-append}
use Rattle.rules.specs.Lists.{total}
use Rattle.grammar.specs.Grammar.{Ring, Polygon}
use Rattle.grammar.specs.Modes.{want_ring_mode, after_ring_mode, next_mode, event_of}
use Rattle.grammar.specs.Spellings.{breaks}
use Rattle.grammar.specs.Scans.{read_from}
use Rattle.grammar.specs.Texts.{drop_last}
use Rattle.grammar.specs.Plans.{is_closed, numbers_of, ring_numbers, ring_lengths, all_closed, every_closed, coordinates}
use Rattle.grammar.specs.Plans as Plans
use Rattle.grammar.proofs.Tables.{rings_append, ring_lengths_append, total_append, rings_twice, lengths_counted, closed_append, and_assoc, and_true}
use Rattle.scanner.specs.declared.Extent.{Extent}
use Rattle.std.specs.Prelude.{Err}
use Rattle.scanner.specs.Puts.{put}
use Rattle.scanner.specs.Extents.{with_ring, with_rings, with_polygon, with_all, Counted}
use Rattle.scanner.specs.declared.marks.Mark.TheVariants.{Comma, Bracket}
use Rattle.grammar.specs.declared.OffGrammar.{OffGrammar}
use Rattle.scanner.specs.Marks.{ring_item, MarkThere, MarkRead}
use Rattle.scanner.specs.Scanned.{so_far_of, RingThere, after_polygon, PolygonThere}
use Rattle.scanner.proofs.Puts.{put_append, put_one}

-- ---- one ring more

one_ring : (e : Extent) (rings : Polygon) (ring : Ring) → with_ring (with_rings e rings) (length (drop_last ring)) (is_closed ring) ≡ with_rings e (rings ++ (ring ∷ []))
unfolding ring_lengths all_closed total
one_ring e rings ring =
    let t = ap total (ring_lengths_append rings (ring ∷ [])) ∙ total_append (ring_lengths rings) (length (drop_last ring) ∷ []) in
    let c : e.corners + total (ring_lengths rings) + length (drop_last ring) ≡ e.corners + total (ring_lengths (rings ++ (ring ∷ []))) = omega arith in
    let l = length-append rings (ring ∷ []) in
    let r : e.rings + length rings + 1 ≡ e.rings + length (rings ++ (ring ∷ [])) = omega arith in
    let k : ((e.closed && all_closed rings) && is_closed ring) ≡ (e.closed && all_closed (rings ++ (ring ∷ []))) = sym (and_assoc e.closed (all_closed rings) (is_closed ring)) ∙ ap (λ b. e.closed && b) (ap (λ b. all_closed rings && b) (sym (and_true (is_closed ring))) ∙ sym (closed_append rings (ring ∷ []))) in
    λ i. record { corners = c i; rings = r i; polygons = e.polygons; closed = k i }

one_polygon : (e : Extent) (rings : Polygon) → with_polygon (with_rings e rings) ≡ with_all e (rings ∷ [])
unfolding Plans.lengths Plans.counts every_closed
one_polygon e rings =
    let n = append-nil (ring_lengths rings) in
    let c : e.corners + total (ring_lengths rings) ≡ e.corners + total (ring_lengths rings ++ []) = ap (λ xs. e.corners + total xs) (sym n) in
    let r : e.rings + length rings ≡ e.rings + length (ring_lengths rings ++ []) = ap (λ k. e.rings + k) (sym (lengths_counted rings) ∙ ap length (sym n)) in
    λ i. record { corners = c i; rings = r i; polygons = e.polygons + 1; closed = ap (λ b. e.closed && b) (sym (and_true (all_closed rings))) i }

-- ---- the rings so far

pub record Rings (text : List ℕ) (at : ℕ) (e : Extent) (corners₀ corners : List ℤ) (lengths₀ lengths : List ℕ) (so_far : Extent) (place : ℕ) : Type 0 where
  pub rings : Polygon
  pub counted : so_far ≡ with_rings e rings
  pub means : (multi : Bool) (done : List Polygon) → read_from text at (want_ring_mode multi) (so_far_of done []) ≡ read_from text place (want_ring_mode multi) (so_far_of done rings)
  pub corners_held : corners ≡ put (2 * e.corners) (ring_numbers rings) corners₀
  pub lengths_held : lengths ≡ put e.rings (ring_lengths rings) lengths₀
  pub on : at ≤ place
  pub inside : place ≤ length text
  pub few : Counted so_far place

none_yet : (e : Extent) → e ≡ with_rings e []
unfolding ring_lengths all_closed total
none_yet e =
    let c : e.corners ≡ e.corners + 0 = omega arith in
    let r : e.rings ≡ e.rings + 0 = omega arith in
    λ i. record { corners = c i; rings = r i; polygons = e.polygons; closed = sym (and_true e.closed) i }

pub no_rings : (text : List ℕ) (at : ℕ) (e : Extent) (corners : List ℤ) (lengths : List ℕ) → at ≤ length text → Counted e at → Rings text at e corners corners lengths lengths e at
unfolding put ring_numbers ring_lengths
no_rings text at e corners lengths h f = record { rings = []; counted = none_yet e; means = λ multi done. refl; corners_held = refl; lengths_held = refl; on = omega arith; inside = h; few = f }

module _ (text : List ℕ) (at : ℕ) (e : Extent) (corners₀ corners : List ℤ) (lengths₀ lengths : List ℕ) (so_far : Extent) (place : ℕ) (g : Rings text at e corners₀ corners lengths₀ lengths so_far place) where
  module _ (corners' : List ℤ) (lengths' : List ℕ) (more : Extent) (end : ℕ) (q : RingThere text place want_ring_mode so_far corners corners' lengths lengths' more end) where
    with_it : Polygon
    with_it = g.rings ++ (q.ring ∷ [])

    more_is : more ≡ with_rings e (g.rings ++ (q.ring ∷ []))
    more_is = q.counted ∙ ap (λ s. with_ring s (length (drop_last q.ring)) (is_closed q.ring)) g.counted ∙ one_ring e g.rings q.ring

    means_it : (multi : Bool) (done : List Polygon) → read_from text at (want_ring_mode multi) (so_far_of done []) ≡ read_from text end (after_ring_mode multi) (so_far_of done (g.rings ++ (q.ring ∷ [])))
    means_it multi done = g.means multi done ∙ q.means multi done g.rings

    corners_are : corners' ≡ put (2 * e.corners) (ring_numbers (g.rings ++ (q.ring ∷ []))) corners₀
    unfolding ring_numbers
    corners_are =
        let c = ap (λ z. z.corners) g.counted in
        let t = rings_twice g.rings in
        let i : 2 * so_far.corners ≡ 2 * e.corners + length (ring_numbers g.rings) = omega arith in
        q.corners_put ∙ ap₂ (λ k s. put k (numbers_of (drop_last q.ring)) s) i g.corners_held
        ∙ sym (put_append (2 * e.corners) (ring_numbers g.rings) (numbers_of (drop_last q.ring)) corners₀)
        ∙ ap (λ xs. put (2 * e.corners) (ring_numbers g.rings ++ xs) corners₀) (sym (append-nil (numbers_of (drop_last q.ring))))
        ∙ ap (λ xs. put (2 * e.corners) xs corners₀) (sym (rings_append g.rings (q.ring ∷ [])))

    lengths_are : lengths' ≡ put e.rings (ring_lengths (g.rings ++ (q.ring ∷ []))) lengths₀
    unfolding ring_lengths
    lengths_are =
        let c = ap (λ z. z.rings) g.counted in
        let t = lengths_counted g.rings in
        let i : so_far.rings ≡ e.rings + length (ring_lengths g.rings) = omega arith in
        q.lengths_put ∙ sym (put_one so_far.rings (length (drop_last q.ring)) lengths)
        ∙ ap₂ (λ k s. put k (length (drop_last q.ring) ∷ []) s) i g.lengths_held
        ∙ sym (put_append e.rings (ring_lengths g.rings) (length (drop_last q.ring) ∷ []) lengths₀)
        ∙ ap (λ xs. put e.rings xs lengths₀) (sym (ring_lengths_append g.rings (q.ring ∷ [])))

    -- how many rings there are now
    pub rings_now : more.rings ≡ e.rings + length (g.rings ++ (q.ring ∷ []))
    rings_now = ap (λ z. z.rings) more_is

    pub mark_missed : (off : OffGrammar) → MarkRead text end (Err off) → (multi : Bool) (done : List Polygon) → read_from text at (want_ring_mode multi) (so_far_of done []) ≡ breaks off.place
    mark_missed off k multi done = means_it multi done ∙ k (ring_item multi) (so_far_of done (g.rings ++ (q.ring ∷ [])))

    pub one_more : (next : ℕ) → MarkThere text end Comma next → Rings text at e corners₀ corners' lengths₀ lengths' more next
    unfolding next_mode event_of
    one_more next k =
        let o = g.on in
        let l = q.on in
        let w = k.on in
        let fc = q.few.corners in
        let fr = q.few.rings in
        let fp = q.few.polygons in
        record {
          rings = g.rings ++ (q.ring ∷ []);
          counted = more_is;
          means = λ multi done. means_it multi done ∙ k.means (ring_item multi) (so_far_of done (g.rings ++ (q.ring ∷ [])));
          corners_held = corners_are;
          lengths_held = lengths_are;
          on = omega arith;
          inside = k.inside;
          few = record { corners = omega arith; rings = omega arith; polygons = omega arith };
        }

    bracket_there : (next : ℕ) → MarkThere text end Bracket next → (multi : Bool) (done : List Polygon) → read_from text end (after_ring_mode multi) (so_far_of done (g.rings ++ (q.ring ∷ []))) ≡ read_from text next (after_polygon multi) (so_far_of (done ++ ((g.rings ++ (q.ring ∷ [])) ∷ [])) [])
    unfolding next_mode event_of
    bracket_there next k true done = k.means (ring_item true) (so_far_of done (g.rings ++ (q.ring ∷ [])))
    bracket_there next k false done = k.means (ring_item false) (so_far_of done (g.rings ++ (q.ring ∷ [])))

    pub polygon_whole : (next : ℕ) → MarkThere text end Bracket next → (e' : Extent) (counts counts' : List ℕ) → e' ≡ with_polygon more → counts' ≡ set counts e.polygons (more.rings - e.rings) → PolygonThere text at e corners₀ corners' lengths₀ lengths' counts counts' e' next
    unfolding coordinates Plans.lengths Plans.counts
    polygon_whole next k e' counts counts' made stored =
        let o = g.on in
        let l = q.on in
        let w = k.on in
        let fc = q.few.corners in
        let fr = q.few.rings in
        let fp = q.few.polygons in
        let n = rings_now in
        let left : more.rings - e.rings ≡ length (g.rings ++ (q.ring ∷ [])) = omega arith in
        record {
          rings = g.rings ++ (q.ring ∷ []);
          means = λ multi done. means_it multi done ∙ bracket_there next k multi done;
          adds = record {
            counted = made ∙ ap with_polygon more_is ∙ one_polygon e (g.rings ++ (q.ring ∷ []));
            corners_put = corners_are ∙ ap (λ xs. put (2 * e.corners) xs corners₀) (sym (append-nil (ring_numbers (g.rings ++ (q.ring ∷ [])))));
            lengths_put = lengths_are ∙ ap (λ xs. put e.rings xs lengths₀) (sym (append-nil (ring_lengths (g.rings ++ (q.ring ∷ [])))));
            counts_put = stored ∙ ap (set counts e.polygons) left ∙ sym (put_one e.polygons (length (g.rings ++ (q.ring ∷ []))) counts);
          };
          on = omega arith;
          inside = k.inside;
          few = record {
            corners = let x = ap (λ z. z.corners) made in omega arith;
            rings = let x = ap (λ z. z.rings) made in omega arith;
            polygons = let x = ap (λ z. z.polygons) made in omega arith;
          };
        }
