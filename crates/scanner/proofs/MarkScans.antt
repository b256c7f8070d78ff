-- The byte behind an item of a list in brackets: a comma, the closing bracket, or one at which the text leaves the grammar. Assumes nothing.
use mathlib.Core.Path.{◌≡◌, refl, ap, ◌∙◌}
use mathlib.Core.Bool.{true, false}
use mathlib.Core.List.{List}
use Prim.Native.Nat.{ℕ, ◌+◌}
use native.Mathlib.Omega.{arith}
use borrow.Author.Tests.{ne_eqb}
use Rattle.std.specs.Prelude.{Some, Ok, Err}
use Rattle.grammar.specs.declared.NextByte.{NextByte}
use Rattle.grammar.specs.Modes.{broken_mode, next_mode, event_of}
use Rattle.grammar.specs.Scans.{is_broken, may_end}
use Rattle.grammar.specs.Tokens.{Resting, NextRead}
use Rattle.grammar.proofs.Steps.{byte_inside, byte_leads, byte_refused}
use Rattle.scanner.specs.declared.marks.Mark.{Mark}
use Rattle.scanner.specs.declared.marks.Mark.TheVariants.{Comma, Bracket}
use Rattle.scanner.specs.Marks.{Item, position_item, ring_item, member_item, behind, byte_of, MarkRead}

rests : (item : Item) → Resting (behind item)
unfolding next_mode event_of
rests (position_item multi p) = record { stays = refl; silent = refl; whole = refl }
rests (ring_item multi) = record { stays = refl; silent = refl; whole = refl }
rests member_item = record { stays = refl; silent = refl; whole = refl }

early : (item : Item) → may_end (behind item) ≡ false
early (position_item multi p) = refl
early (ring_item multi) = refl
early member_item = refl

other : (item : Item) (b : ℕ) → (b ≡ 32 → ⊥) → (b ≡ 44 → ⊥) → (b ≡ 41 → ⊥) → next_mode (behind item) b ≡ broken_mode
unfolding next_mode
other (position_item multi p) b s c r = rw (ne_eqb b 32 s, ne_eqb b 44 c, ne_eqb b 41 r) refl
other (ring_item multi) b s c r = rw (ne_eqb b 32 s, ne_eqb b 44 c, ne_eqb b 41 r) refl
other member_item b s c r = rw (ne_eqb b 32 s, ne_eqb b 44 c, ne_eqb b 41 r) refl

whole : (item : Item) (mark : Mark) → is_broken (next_mode (behind item) (byte_of mark)) ≡ false
unfolding next_mode
whole (position_item multi p) Comma = refl
whole (position_item multi p) Bracket = refl
whole (ring_item multi) Comma = refl
whole (ring_item true) Bracket = refl
whole (ring_item false) Bracket = refl
whole member_item Comma = refl
whole member_item Bracket = refl

module _ (text : List ℕ) (end : ℕ) (m : NextByte) (k : NextRead text end m) where
  pub mark_off : (m.byte ≡ Some 44 → ⊥) → (m.byte ≡ Some 41 → ⊥) → MarkRead text end (Err (record { place = m.at }))
  mark_off c r item f = byte_refused text end m k (behind item) f (rests item) (early item) (λ b i s. other item b s (λ x. c (i ∙ ap Some x)) (λ x. r (i ∙ ap Some x)))

  pub mark_there : (mark : Mark) → m.byte ≡ Some (byte_of mark) → MarkRead text end (Ok (mark, m.at + 1))
  mark_there mark e =
      let w = k.skipped.on in
      let h = byte_inside text end m k (byte_of mark) e in
      record {
        means = λ item f. byte_leads text end m k (behind item) f (byte_of mark) (next_mode (behind item) (byte_of mark)) (event_of (behind item) (byte_of mark)) (rests item) e refl refl (whole item mark);
        on = omega arith;
        inside = omega arith;
      }
