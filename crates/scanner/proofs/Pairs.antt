-- A position read: x, a space, y. Assumes nothing.
use mathlib.Core.Path.{◌≡◌, refl, ap, ◌∙◌}
use mathlib.Core.Bool.{Bool, false}
use mathlib.Core.List.{List}
use Prim.Native.Nat.{ℕ, ◌+◌, ◌<◌}
use native.Mathlib.Decide.{dec_lt}
use native.Mathlib.Omega.{arith}
use lib.IntN.{ℤ}
use lib.ListN.{length, get_or}
use borrow.Author.Tests.{ne_eqb}
use Rattle.geom.specs.declared.Point.{Point}
use Rattle.std.specs.Prelude.{Ok, Err}
use Rattle.grammar.specs.declared.OffGrammar.{OffGrammar}
use Rattle.grammar.specs.Numbers.{Whole, value_begun, is_digit, whole_of}
use Rattle.grammar.specs.Modes.{broken_mode, want_y_mode, in_x_mode, in_y_mode, after_y_mode, nothing_event, next_mode, event_of}
use Rattle.grammar.specs.Spellings.{breaks}
use Rattle.grammar.specs.Scans.{SoFar, read_from}
use Rattle.grammar.specs.Tokens.{Read, wants_x, wants_y, wanting, NumberRead}
use Rattle.grammar.proofs.Steps.{leads, leaves, stops_early, alike}
use Rattle.scanner.specs.Scanned.{after_position, PositionEnds, PositionRead}

-- ---- behind y

y_next : (multi : Bool) (x y : Whole) (b : ℕ) → is_digit b ≡ false → next_mode (in_y_mode multi x (value_begun y)) b ≡ next_mode (after_y_mode multi (record { x = x; y = y })) b
unfolding next_mode
y_next multi x y b d = rw d refl

y_event_lem : (multi : Bool) (x y : Whole) (b : ℕ) → event_of (in_y_mode multi x (value_begun y)) b ≡ event_of (after_y_mode multi (record { x = x; y = y })) b
unfolding event_of
y_event_lem multi x y b = refl

y_done : (text : List ℕ) (end : ℕ) (multi : Bool) (x y : Whole) (f : SoFar) → (end < length text → is_digit (get_or text end 0) ≡ false) → read_from text end (in_y_mode multi x (value_begun y)) f ≡ read_from text end (after_y_mode multi (record { x = x; y = y })) f
y_done text end multi x y f d = alike text end (in_y_mode multi x (value_begun y)) (after_y_mode multi (record { x = x; y = y })) f (λ h. y_next multi x y (get_or text end 0) (d h)) (λ h. y_event_lem multi x y (get_or text end 0)) refl

-- the y that is wanted behind this x and a space
record OrdinateRead (text : List ℕ) (at : ℕ) (x : ℤ) (r : Read Point) : Type 0 where
  ends : PositionEnds text at r
  means : (multi : Bool) (f : SoFar) → read_from text at (want_y_mode multi (whole_of x)) f ≡ after_position text multi f r

y_read : (text : List ℕ) (at : ℕ) (x y : ℤ) (end : ℕ) → NumberRead text at wanting (at + 1) (Ok (y, end)) → OrdinateRead text at x (Ok (record { x = x; y = y }, end))
y_read text at x y end g =
    let o = g.ended.0 in
    record { ends = (omega arith, g.ended.1); means = λ multi f. g.means (wants_y multi (whole_of x)) f ∙ y_done text end multi (whole_of x) (whole_of y) f g.ended.2 }

y_off : (text : List ℕ) (at : ℕ) (x : ℤ) (off : OffGrammar) → NumberRead text at wanting (at + 1) (Err off) → OrdinateRead text at x (Err off)
y_off text at x off g = record { ends = tt; means = λ multi f. g.means (wants_y multi (whole_of x)) f }

-- ---- behind x

x_next : (multi : Bool) (x : Whole) → next_mode (in_x_mode multi (value_begun x)) 32 ≡ want_y_mode multi x
unfolding next_mode
x_next multi x = refl

x_event : (multi : Bool) (x : Whole) (b : ℕ) → event_of (in_x_mode multi (value_begun x)) b ≡ nothing_event
unfolding event_of
x_event multi x b = refl

x_other : (multi : Bool) (x : Whole) (b : ℕ) → is_digit b ≡ false → (b ≡ 32 → ⊥) → next_mode (in_x_mode multi (value_begun x)) b ≡ broken_mode
unfolding next_mode
x_other multi x b d s = rw (d, ne_eqb b 32 s) refl

module _ (text : List ℕ) (at : ℕ) where
  pub x_off : (off : OffGrammar) → NumberRead text at wanting (at + 1) (Err off) → PositionRead text at (Err off)
  x_off off g = record { ends = tt; means = λ multi f. g.means (wants_x multi) f }

  module _ (x : ℤ) (end : ℕ) (g : NumberRead text at wanting (at + 1) (Ok (x, end))) where
    -- no space stands there
    pub x_alone : (end < length text → get_or text end 0 ≡ 32 → ⊥) → PositionRead text at (Err (record { place = end }))
    x_alone s = record { ends = tt; means = λ multi f. g.means (wants_x multi) f ∙ go multi f (dec_lt end (length text)) }
      where
        go : (multi : Bool) (f : SoFar) → Dec (end < length text) → read_from text end (in_x_mode multi (value_begun (whole_of x))) f ≡ breaks end
        go multi f (yes h) = leaves text end (in_x_mode multi (value_begun (whole_of x))) f h (x_other multi (whole_of x) (get_or text end 0) (g.ended.2 h) (s h))
        go multi f (no h) = stops_early text end (in_x_mode multi (value_begun (whole_of x))) f (omega arith) refl

    module _ (inside : end < length text) (space : get_or text end 0 ≡ 32) where
      position : (r : Read Point) → OrdinateRead text (end + 1) x r → PositionRead text at r
      position r y =
          record {
            ends = farther r y.ends;
            means = λ multi f. g.means (wants_x multi) f
                ∙ leads text end (in_x_mode multi (value_begun (whole_of x))) f (want_y_mode multi (whole_of x)) nothing_event inside (ap (next_mode (in_x_mode multi (value_begun (whole_of x)))) space ∙ x_next multi (whole_of x)) (x_event multi (whole_of x) (get_or text end 0)) refl
                ∙ y.means multi f;
          }
        where
          farther : (r : Read Point) → PositionEnds text (end + 1) r → PositionEnds text at r
          farther (Ok (p, last)) h = let o = g.ended.0 in let k = h.0 in (omega arith, h.1)
          farther (Err off) h = tt

      pub position_read : (y : ℤ) (last : ℕ) → NumberRead text (end + 1) wanting (end + 1 + 1) (Ok (y, last)) → PositionRead text at (Ok (record { x = x; y = y }, last))
      position_read y last h = position _ (y_read text (end + 1) x y last h)

      pub position_cut : (off : OffGrammar) → NumberRead text (end + 1) wanting (end + 1 + 1) (Err off) → PositionRead text at (Err off)
      position_cut off h = position _ (y_off text (end + 1) x off h)
