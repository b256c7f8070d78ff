-- Members of a MULTIPOLYGON, and the loop over them. Assumes nothing.
use mathlib.Core.Path.{◌≡◌, refl, sym, ap, ap₂, ◌∙◌}
use mathlib.Core.Bool.{true, ◌&&◌}
use mathlib.Core.List.{List, [], ◌∷◌, ◌++◌, append-nil}
use Prim.Native.Nat.{ℕ, ◌+◌, ◌*◌, ◌≤◌}
use native.Mathlib.Omega.{arith}
use lib.IntN.{ℤ}
use lib.ListN.{length, length-append}
use borrow.Author.Tests.{ne_eqb}
use Rattle.rules.specs.Lists.{total}
use Rattle.grammar.specs.declared.NextByte.{NextByte}
use Rattle.grammar.specs.Grammar.{Polygon}
use Rattle.grammar.specs.Modes.{broken_mode, want_member_mode, empty_member_mode, after_member_mode, want_ring_mode, nothing_event, next_mode, event_of}
use Rattle.grammar.specs.Spellings.{breaks}
use Rattle.grammar.specs.Scans.{read_from}
use Rattle.grammar.specs.Tokens.{Resting, NextRead, Read}
use Rattle.grammar.specs.Plans.{coordinates, every_closed}
use Rattle.grammar.specs.Plans as Plans
use Rattle.grammar.proofs.Steps.{byte_leads, byte_refused}
use Rattle.grammar.proofs.Tables.{coordinates_append, lengths_append, counts_append, total_append, coordinates_twice, every_append, and_assoc, and_true}
use Rattle.scanner.specs.declared.Extent.{Extent}
use Rattle.std.specs.Prelude.{Some, Ok, Err}
use Rattle.grammar.specs.declared.OffGrammar.{OffGrammar}
use Rattle.scanner.specs.Puts.{put}
use Rattle.scanner.specs.Extents.{no_extent, with_all, Counted}
use Rattle.scanner.specs.declared.marks.Mark.TheVariants.{Comma, Bracket}
use Rattle.scanner.specs.Marks.{member_item, MarkThere, MarkRead}
use Rattle.scanner.specs.Scanned.{so_far_of, WordRead, Adds, PolygonScanned, MemberThere, MemberScanned, AllThere}
use Rattle.scanner.proofs.Puts.{put_append}
use Rattle.scanner.proofs.WordScans.{member_spelt, word_off, word_whole, word_inside, empty_member}

-- ---- polygons added

pub adds_none : (e : Extent) (corners : List ℤ) (lengths counts : List ℕ) → Adds e corners corners lengths lengths counts counts e []
unfolding put coordinates Plans.lengths Plans.counts every_closed total
adds_none e corners lengths counts =
    let c : e.corners ≡ e.corners + 0 = omega arith in
    let r : e.rings ≡ e.rings + 0 = omega arith in
    let p : e.polygons ≡ e.polygons + 0 = omega arith in
    record {
      counted = λ i. record { corners = c i; rings = r i; polygons = p i; closed = sym (and_true e.closed) i };
      corners_put = refl;
      lengths_put = refl;
      counts_put = refl;
    }

with_both : (e : Extent) (a b : List Polygon) → with_all (with_all e a) b ≡ with_all e (a ++ b)
with_both e a b =
    let t = ap total (lengths_append a b) ∙ total_append (Plans.lengths a) (Plans.lengths b) in
    let c : e.corners + total (Plans.lengths a) + total (Plans.lengths b) ≡ e.corners + total (Plans.lengths (a ++ b)) = omega arith in
    let l = ap length (lengths_append a b) ∙ length-append (Plans.lengths a) (Plans.lengths b) in
    let r : e.rings + length (Plans.lengths a) + length (Plans.lengths b) ≡ e.rings + length (Plans.lengths (a ++ b)) = omega arith in
    let m = ap length (counts_append a b) ∙ length-append (Plans.counts a) (Plans.counts b) in
    let p : e.polygons + length (Plans.counts a) + length (Plans.counts b) ≡ e.polygons + length (Plans.counts (a ++ b)) = omega arith in
    let k : ((e.closed && every_closed a) && every_closed b) ≡ (e.closed && every_closed (a ++ b)) = sym (and_assoc e.closed (every_closed a) (every_closed b)) ∙ ap (λ s. e.closed && s) (sym (every_append a b)) in
    λ i. record { corners = c i; rings = r i; polygons = p i; closed = k i }

-- one after another
adds_both : (e e' e'' : Extent) (c c' c'' : List ℤ) (l l' l'' n n' n'' : List ℕ) (a b : List Polygon) → Adds e c c' l l' n n' e' a → Adds e' c' c'' l' l'' n' n'' e'' b → Adds e c c'' l l'' n n'' e'' (a ++ b)
adds_both e e' e'' c c' c'' l l' l'' n n' n'' a b f g =
    let x = ap (λ z. z.corners) f.counted in
    let y = ap (λ z. z.rings) f.counted in
    let z = ap (λ z. z.polygons) f.counted in
    let t = coordinates_twice a in
    let i : 2 * e'.corners ≡ 2 * e.corners + length (coordinates a) = omega arith in
    record {
      counted = g.counted ∙ ap (λ s. with_all s b) f.counted ∙ with_both e a b;
      corners_put = g.corners_put ∙ ap₂ (λ k s. put k (coordinates b) s) i f.corners_put ∙ sym (put_append (2 * e.corners) (coordinates a) (coordinates b) c) ∙ ap (λ xs. put (2 * e.corners) xs c) (sym (coordinates_append a b));
      lengths_put = g.lengths_put ∙ ap₂ (λ k s. put k (Plans.lengths b) s) y f.lengths_put ∙ sym (put_append e.rings (Plans.lengths a) (Plans.lengths b) l) ∙ ap (λ xs. put e.rings xs l) (sym (lengths_append a b));
      counts_put = g.counts_put ∙ ap₂ (λ k s. put k (Plans.counts b) s) z f.counts_put ∙ sym (put_append e.polygons (Plans.counts a) (Plans.counts b) n) ∙ ap (λ xs. put e.polygons xs n) (sym (counts_append a b));
    }

-- ---- a member

want_rests : Resting want_member_mode
unfolding next_mode event_of
want_rests = record { stays = refl; silent = refl; whole = refl }

opens : (next_mode want_member_mode 40 ≡ want_ring_mode true) × (event_of want_member_mode 40 ≡ nothing_event)
unfolding next_mode event_of
opens = (refl, refl)

empties : (next_mode want_member_mode 69 ≡ empty_member_mode 1) × (event_of want_member_mode 69 ≡ nothing_event)
unfolding next_mode event_of
empties = (refl, refl)

neither : (b : ℕ) → (b ≡ 32 → ⊥) → (b ≡ 40 → ⊥) → (b ≡ 69 → ⊥) → next_mode want_member_mode b ≡ broken_mode
unfolding next_mode
neither b s o e = rw (ne_eqb b 32 s, ne_eqb b 40 o, ne_eqb b 69 e) refl

module _ (text : List ℕ) (at : ℕ) (m : NextByte) (k : NextRead text at m) where
  pub member_off : (m.byte ≡ Some 40 → ⊥) → (m.byte ≡ Some 69 → ⊥) → (done : List Polygon) → read_from text at want_member_mode (so_far_of done []) ≡ breaks m.at
  member_off o e done = byte_refused text at m k want_member_mode (so_far_of done []) want_rests refl (λ b i s. neither b s (λ x. o (i ∙ ap Some x)) (λ x. e (i ∙ ap Some x)))

  pub member_opened : (e : Extent) (c c' : List ℤ) (l l' n n' : List ℕ) (r : Read Extent) → m.byte ≡ Some 40 → PolygonScanned text (m.at + 1) e c c' l l' n n' r → MemberScanned text at e c c' l l' n n' r
  member_opened e c c' l l' n n' (Ok (e', end)) o g =
      let w = k.skipped.on in
      let h = g.on in
      record {
        added = g.rings ∷ [];
        means = λ done. byte_leads text at m k want_member_mode (so_far_of done []) 40 (want_ring_mode true) nothing_event want_rests o opens.0 opens.1 refl ∙ g.means true done;
        adds = g.adds;
        on = omega arith;
        inside = g.inside;
        few = g.few;
      }
  member_opened e c c' l l' n n' (Err off) o g = λ done. byte_leads text at m k want_member_mode (so_far_of done []) 40 (want_ring_mode true) nothing_event want_rests o opens.0 opens.1 refl ∙ g true done

  first_byte_lem : (done : List Polygon) → m.byte ≡ Some 69 → read_from text at want_member_mode (so_far_of done []) ≡ read_from text (m.at + 1) (empty_member_mode 1) (so_far_of done [])
  first_byte_lem done e = byte_leads text at m k want_member_mode (so_far_of done []) 69 (empty_member_mode 1) nothing_event want_rests e empties.0 empties.1 refl

  pub empty_off : (off : OffGrammar) → m.byte ≡ Some 69 → WordRead text (m.at + 1) (77 ∷ 80 ∷ 84 ∷ 89 ∷ []) (Err off) → (done : List Polygon) → read_from text at want_member_mode (so_far_of done []) ≡ breaks off.place
  empty_off off e w done = first_byte_lem done e ∙ word_off text (m.at + 1) _ _ member_spelt off w (so_far_of done [])

  pub empty_there : (end : ℕ) (e : Extent) (c : List ℤ) (l n : List ℕ) → m.byte ≡ Some 69 → WordRead text (m.at + 1) (77 ∷ 80 ∷ 84 ∷ 89 ∷ []) (Ok end) → Counted e at → MemberThere text at e c c l l n n e end
  empty_there end e c l n b w few =
      let o = k.skipped.on in
      let i = word_inside text (m.at + 1) _ _ member_spelt end w (omega arith) in
      let x = few.corners in
      let y = few.rings in
      let z = few.polygons in
      let p = w.0 in
      record {
        added = [];
        means = λ done. first_byte_lem done b ∙ word_whole text (m.at + 1) _ _ member_spelt end w (so_far_of done []) ∙ empty_member text end (so_far_of done []) ∙ ap (λ d. read_from text end after_member_mode (so_far_of d [])) (sym (append-nil done));
        adds = adds_none e c l n;
        on = omega arith;
        inside = omega arith;
        few = record { corners = omega arith; rings = omega arith; polygons = omega arith };
      }

-- ---- the members so far

pub record Members (text : List ℕ) (at : ℕ) (corners₀ corners : List ℤ) (lengths₀ lengths counts₀ counts : List ℕ) (so_far : Extent) (place : ℕ) : Type 0 where
  pub polygons : List Polygon
  pub means : read_from text at want_member_mode (so_far_of [] []) ≡ read_from text place want_member_mode (so_far_of polygons [])
  pub adds : Adds no_extent corners₀ corners lengths₀ lengths counts₀ counts so_far polygons
  pub inside : place ≤ length text
  pub few : Counted so_far place

pub no_members : (text : List ℕ) (at : ℕ) (corners : List ℤ) (lengths counts : List ℕ) (e : Extent) → e ≡ no_extent → at ≤ length text → Members text at corners corners lengths lengths counts counts e at
no_members text at corners lengths counts e z h =
    let x = ap (λ s. s.corners) z in
    let y = ap (λ s. s.rings) z in
    let w = ap (λ s. s.polygons) z in
    let none = adds_none no_extent corners lengths counts in
    record {
      polygons = [];
      means = refl;
      adds = record { counted = z ∙ none.counted; corners_put = none.corners_put; lengths_put = none.lengths_put; counts_put = none.counts_put };
      inside = h;
      few = record { corners = omega arith; rings = omega arith; polygons = omega arith };
    }

module _ (text : List ℕ) (at : ℕ) (corners₀ corners : List ℤ) (lengths₀ lengths counts₀ counts : List ℕ) (so_far : Extent) (place : ℕ) (g : Members text at corners₀ corners lengths₀ lengths counts₀ counts so_far place) where
  module _ (corners' : List ℤ) (lengths' counts' : List ℕ) (more : Extent) (end : ℕ) (q : MemberThere text place so_far corners corners' lengths lengths' counts counts' more end) where
    with_it : read_from text at want_member_mode (so_far_of [] []) ≡ read_from text end after_member_mode (so_far_of (g.polygons ++ q.added) [])
    with_it = g.means ∙ q.means g.polygons

    adds_it : Adds no_extent corners₀ corners' lengths₀ lengths' counts₀ counts' more (g.polygons ++ q.added)
    adds_it = adds_both no_extent so_far more corners₀ corners corners' lengths₀ lengths lengths' counts₀ counts counts' g.polygons q.added g.adds q.adds

    pub mark_missed : (off : OffGrammar) → MarkRead text end (Err off) → read_from text at want_member_mode (so_far_of [] []) ≡ breaks off.place
    mark_missed off k = with_it ∙ k member_item (so_far_of (g.polygons ++ q.added) [])

    pub one_more : (next : ℕ) → MarkThere text end Comma next → Members text at corners₀ corners' lengths₀ lengths' counts₀ counts' more next
    unfolding next_mode event_of
    one_more next k =
        let w = k.on in
        let x = q.few.corners in
        let y = q.few.rings in
        let z = q.few.polygons in
        record {
          polygons = g.polygons ++ q.added;
          means = with_it ∙ k.means member_item (so_far_of (g.polygons ++ q.added) []);
          adds = adds_it;
          inside = k.inside;
          few = record { corners = omega arith; rings = omega arith; polygons = omega arith };
        }

    pub members_whole : (next : ℕ) → MarkThere text end Bracket next → AllThere text at want_member_mode corners₀ corners' lengths₀ lengths' counts₀ counts' more next
    unfolding next_mode event_of
    members_whole next k =
        record {
          polygons = g.polygons ++ q.added;
          means = with_it ∙ k.means member_item (so_far_of (g.polygons ++ q.added) []);
          adds = adds_it;
          inside = k.inside;
        }
