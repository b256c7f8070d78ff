-- The loop over the positions of a ring, and its ways out. Assumes nothing.
use mathlib.Core.Path.{◌≡◌, refl, sym, ap, ap₂, ◌∙◌}
use mathlib.Core.Bool.{Bool}
use mathlib.Core.List.{List, [], ◌∷◌, ◌++◌}
use Prim.Native.Nat.{ℕ, ◌+◌, ◌*◌, ◌≤◌}
use native.Mathlib.Omega.{arith}
use lib.IntN.{ℤ}
use lib.ListN.{length, set, length-append}
use borrow.Author.Tests.{ne_eqb}
use Rattle.geom.specs.declared.Point.{Point}
use Rattle.grammar.specs.declared.NextByte.{NextByte}
use Rattle.grammar.specs.Grammar.{Ring, Polygon}
use Rattle.grammar.specs.Modes.{broken_mode, want_ring_mode, want_x_mode, nothing_event, after_ring_mode, next_mode, event_of}
use Rattle.grammar.specs.Spellings.{breaks}
use Rattle.grammar.specs.Scans.{SoFar, place_of, read_from}
use Rattle.grammar.specs.Tokens.{Resting, NextRead, Read}
use Rattle.grammar.specs.Texts.{drop_last}
use Rattle.grammar.specs.Plans.{is_closed, numbers_of}
use Rattle.grammar.proofs.Runs.{point_back}
use Rattle.grammar.proofs.Steps.{stops_early, byte_leads, byte_refused}
use Rattle.grammar.proofs.Tables.{numbers_append, numbers_twice, lone_open, closed_by}
use Rattle.grammar.proofs.Texts.{drop_last_lem}
use Rattle.scanner.specs.declared.Extent.{Extent}
use Rattle.std.specs.Prelude.{Option, Some, None, Ok, Err}
use Rattle.std.specs.Option.{option_or}
use Rattle.grammar.specs.declared.OffGrammar.{OffGrammar}
use Rattle.scanner.specs.Puts.{put}
use Rattle.scanner.specs.Extents.{with_ring, Counted, closes}
use Rattle.scanner.specs.declared.marks.Mark.TheVariants.{Comma, Bracket}
use Rattle.scanner.specs.Marks.{position_item, MarkThere, MarkRead}
use Rattle.scanner.specs.Scanned.{so_far_of, PositionRead, RingThere, RingScanned}
use Rattle.scanner.proofs.Puts.{put_append}

-- ---- the first position

abbrev head_of : Ring → Option Point
head_of [] = None
head_of (p ∷ ring) = Some p

first_kept : (first : Option Point) (p : Point) (ring : Ring) → first ≡ head_of ring → option_or first (Some p) ≡ head_of (ring ++ (p ∷ []))
first_kept first p [] e = ap (λ o. option_or o (Some p)) e
first_kept first p (q ∷ ring) e = ap (λ o. option_or o (Some p)) e

closed_so : (first : Option Point) (p : Point) (ring : Ring) → first ≡ head_of ring → closes first p ≡ is_closed (ring ++ (p ∷ []))
closed_so first p [] e = ap (λ o. closes o p) e ∙ sym (lone_open p)
closed_so first p (q ∷ ring) e = ap (λ o. closes o p) e ∙ sym (closed_by q p ring)

pub fewer : (e : Extent) (a b : ℕ) → a ≤ b → Counted e a → Counted e b
fewer e a b h c = let x = c.corners in let y = c.rings in let z = c.polygons in record { corners = omega arith; rings = omega arith; polygons = omega arith }

-- ---- the positions so far

pub record Round (text : List ℕ) (at n : ℕ) (corners₀ corners : List ℤ) (first : Option Point) (count place : ℕ) : Type 0 where
  pub points : Ring
  pub counted : count ≡ length points
  pub begins : first ≡ head_of points
  pub means : (multi : Bool) (done : List Polygon) (rings : Polygon) → read_from text at (want_x_mode multi) (so_far_of done rings) ≡ read_from text place (want_x_mode multi) (record { done = done; rings = rings; ring = points })
  pub held : corners ≡ put (2 * n) (numbers_of points) corners₀
  pub on : at + count ≤ place
  pub inside : place ≤ length text

pub no_round : (text : List ℕ) (at n : ℕ) (corners : List ℤ) → at ≤ length text → Round text at n corners corners None 0 at
unfolding put numbers_of
no_round text at n corners h = record { points = []; counted = refl; begins = refl; means = λ multi done rings. refl; held = refl; on = omega arith; inside = h }

module _ (text : List ℕ) (at n : ℕ) (corners₀ corners : List ℤ) (first : Option Point) (count place : ℕ) (g : Round text at n corners₀ corners first count place) where
  pub round_early : length text ≤ place → (multi : Bool) (done : List Polygon) (rings : Polygon) → read_from text at (want_x_mode multi) (so_far_of done rings) ≡ breaks place
  round_early h multi done rings = g.means multi done rings ∙ stops_early text place (want_x_mode multi) (record { done = done; rings = rings; ring = g.points }) h refl

  module _ (p : Point) (end : ℕ) (q : PositionRead text place (Ok (p, end))) where
    pub mark_missed : (off : OffGrammar) → MarkRead text end (Err off) → (multi : Bool) (done : List Polygon) (rings : Polygon) → read_from text at (want_x_mode multi) (so_far_of done rings) ≡ breaks off.place
    mark_missed off k multi done rings =
        let f : SoFar = record { done = done; rings = rings; ring = g.points } in
        g.means multi done rings ∙ q.means multi f ∙ k (position_item multi (place_of p)) f

    pub one_more : (next : ℕ) → MarkThere text end Comma next → (first' : Option Point) (corners' : List ℤ) → first' ≡ option_or first (Some p) → corners' ≡ put (2 * (n + count)) (p.x ∷ p.y ∷ []) corners → Round text at n corners₀ corners' first' (count + 1) next
    unfolding numbers_of next_mode event_of
    one_more next k first' corners' e s =
        let o = g.on in
        let l = q.ends.0 in
        let w = k.on in
        let longer = length-append g.points (p ∷ []) in
        let counts = g.counted in
        record {
          points = g.points ++ (p ∷ []);
          counted = omega arith;
          begins = e ∙ first_kept first p g.points g.begins;
          means = λ multi done rings.
              g.means multi done rings
              ∙ q.means multi (record { done = done; rings = rings; ring = g.points })
              ∙ k.means (position_item multi (place_of p)) (record { done = done; rings = rings; ring = g.points })
              ∙ ap (λ o. read_from text next (want_x_mode multi) (record { done = done; rings = rings; ring = g.points ++ (o ∷ []) })) (point_back p);
          held = s ∙ ap (put (2 * (n + count)) (p.x ∷ p.y ∷ [])) g.held
              ∙ ap (λ i. put i (p.x ∷ p.y ∷ []) (put (2 * n) (numbers_of g.points) corners₀)) (let t = numbers_twice g.points in let i : 2 * (n + count) ≡ 2 * n + length (numbers_of g.points) = omega arith in i)
              ∙ sym (put_append (2 * n) (numbers_of g.points) (p.x ∷ p.y ∷ []) corners₀)
              ∙ ap (λ xs. put (2 * n) xs corners₀) (sym (numbers_append g.points (p ∷ [])));
          on = omega arith;
          inside = k.inside;
        }

    pub ring_whole : (next : ℕ) → MarkThere text end Bracket next → (e e' : Extent) (lengths lengths' : List ℕ) → n ≡ e.corners → Counted e at → e' ≡ with_ring e count (closes first p) → lengths' ≡ set lengths e.rings count → RingThere text at want_x_mode e corners₀ corners lengths lengths' e' next
    unfolding next_mode event_of
    ring_whole next k e e' lengths lengths' same few made stored =
        let o = g.on in
        let l = q.ends.0 in
        let w = k.on in
        let dropped : drop_last (g.points ++ (p ∷ [])) ≡ g.points = drop_last_lem g.points p in
        let counts : count ≡ length (drop_last (g.points ++ (p ∷ []))) = g.counted ∙ ap length (sym dropped) in
        let is : e' ≡ with_ring e (length (drop_last (g.points ++ (p ∷ [])))) (is_closed (g.points ++ (p ∷ []))) = made ∙ ap₂ (with_ring e) counts (closed_so first p g.points g.begins) in
        let fc = few.corners in
        let fr = few.rings in
        let fp = few.polygons in
        record {
          ring = g.points ++ (p ∷ []);
          means = λ multi done rings.
              g.means multi done rings
              ∙ q.means multi (record { done = done; rings = rings; ring = g.points })
              ∙ k.means (position_item multi (place_of p)) (record { done = done; rings = rings; ring = g.points })
              ∙ ap (λ o. read_from text next (after_ring_mode multi) (so_far_of done (rings ++ ((g.points ++ (o ∷ [])) ∷ [])))) (point_back p);
          counted = is;
          corners_put = g.held ∙ ap₂ (λ i ring. put (2 * i) (numbers_of ring) corners₀) same (sym dropped);
          lengths_put = stored ∙ ap (set lengths e.rings) counts;
          on = omega arith;
          inside = k.inside;
          few = record {
            corners = let x = ap (λ z. z.corners) made in omega arith;
            rings = let x = ap (λ z. z.rings) made in omega arith;
            polygons = let x = ap (λ z. z.polygons) made in omega arith;
          };
        }

-- ---- its opening bracket

want_rests : (multi : Bool) → Resting (want_ring_mode multi)
unfolding next_mode event_of
want_rests multi = record { stays = refl; silent = refl; whole = refl }

opens : (multi : Bool) → (next_mode (want_ring_mode multi) 40 ≡ want_x_mode multi) × (event_of (want_ring_mode multi) 40 ≡ nothing_event)
unfolding next_mode event_of
opens multi = (refl, refl)

not_open : (multi : Bool) (b : ℕ) → (b ≡ 32 → ⊥) → (b ≡ 40 → ⊥) → next_mode (want_ring_mode multi) b ≡ broken_mode
unfolding next_mode
not_open multi b s o = rw (ne_eqb b 32 s, ne_eqb b 40 o) refl

module _ (text : List ℕ) (at : ℕ) (m : NextByte) (k : NextRead text at m) where
  pub open_off : (m.byte ≡ Some 40 → ⊥) → (multi : Bool) (done : List Polygon) (rings : Polygon) → read_from text at (want_ring_mode multi) (so_far_of done rings) ≡ breaks m.at
  open_off o multi done rings = byte_refused text at m k (want_ring_mode multi) (so_far_of done rings) (want_rests multi) refl (λ b i s. not_open multi b s (λ x. o (i ∙ ap Some x)))

  pub opened : (e : Extent) (corners corners' : List ℤ) (lengths lengths' : List ℕ) (r : Read Extent) → m.byte ≡ Some 40 → RingScanned text (m.at + 1) want_x_mode e corners corners' lengths lengths' r → RingScanned text at want_ring_mode e corners corners' lengths lengths' r
  opened e corners corners' lengths lengths' (Ok (e', end)) o g =
      let w = k.skipped.on in
      let l = g.on in
      record {
        ring = g.ring;
        means = λ multi done rings. first multi done rings ∙ g.means multi done rings;
        counted = g.counted;
        corners_put = g.corners_put;
        lengths_put = g.lengths_put;
        on = omega arith;
        inside = g.inside;
        few = g.few;
      }
    where
      first : (multi : Bool) (done : List Polygon) (rings : Polygon) → read_from text at (want_ring_mode multi) (so_far_of done rings) ≡ read_from text (m.at + 1) (want_x_mode multi) (so_far_of done rings)
      first multi done rings = byte_leads text at m k (want_ring_mode multi) (so_far_of done rings) 40 (want_x_mode multi) nothing_event (want_rests multi) o (opens multi).0 (opens multi).1 refl
  opened e corners corners' lengths lengths' (Err off) o g = λ multi done rings. byte_leads text at m k (want_ring_mode multi) (so_far_of done rings) 40 (want_x_mode multi) nothing_event (want_rests multi) o (opens multi).0 (opens multi).1 refl ∙ g multi done rings
