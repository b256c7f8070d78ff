-- Line k looked for line by line. Assumes nothing.
use mathlib.Core.Path.{◌≡◌, refl, sym, ap, ap₂, subst, ◌∙◌}
use mathlib.Core.List.{List, [], ◌∷◌, ◌++◌}
use Prim.Native.Nat.{ℕ, zero, suc, ◌+◌, ◌-◌, ◌≤◌, ◌<◌}
use native.Mathlib.Decide.{dec_lt}
use native.Mathlib.Omega.{arith}
use lib.ListN.{length, get_or, take, drop}
use lib.Seq.{drop-drop, drop_at, take_at, take-length}
use Rattle.std.specs.Prelude.{Option, Some, None, MatchOption}
use Rattle.std.specs.Option.{UnwrapsOrElse}
use Rattle.std.specs.Borrow.{Bor}
use Rattle.fields.specs.Pieces.{split, Parted, SplitOnce}
use Rattle.text.specs.declared.Span.{Span}
use Rattle.text.specs.Lines.{line_of, start_of, line_start, LineSpan, HasLine, LineFound}
use Rattle.fields.proofs.Pieces.{parted_length}

-- so many lines, fewer than k, are passed, and the rest starts with the next one
pub record Passed (text : List ℕ) (k passed : ℕ) (rest : List ℕ) : Type 0 where
  pub stands : drop (length text - length rest) text ≡ rest
  pub within : length rest ≤ length text
  pub pieces : length (split 10 text) ≡ passed + length (split 10 rest)
  pub line : line_of text k ≡ get_or (split 10 rest) (k - 1 - passed) []
  pub start : line_start text k ≡ start_of (length text - length rest) (split 10 rest) (k - 1 - passed)

line_is : (text : List ℕ) (k : ℕ) → 1 ≤ k → line_of text k ≡ get_or (split 10 text) (k - 1) []
unfolding line_of
line_is text zero h = absurd (omega arith)
line_is text (suc k) h = let e : k ≡ suc k - 1 = omega arith in ap (λ i. get_or (split 10 text) i []) e

start_is : (text : List ℕ) (k : ℕ) → 1 ≤ k → line_start text k ≡ start_of 0 (split 10 text) (k - 1)
unfolding line_start
start_is text zero h = absurd (omega arith)
start_is text (suc k) h = let e : k ≡ suc k - 1 = omega arith in ap (start_of 0 (split 10 text)) e

-- from piece to piece
start_here : (from place : ℕ) (piece : List ℕ) (pieces : List (List ℕ)) → place ≡ 0 → start_of from (piece ∷ pieces) place ≡ from
unfolding start_of
start_here from zero piece pieces e = refl
start_here from (suc place) piece pieces e = absurd (omega arith)

start_later : (from next place : ℕ) (piece : List ℕ) (pieces : List (List ℕ)) → from + length piece + 1 ≡ next → start_of from (piece ∷ pieces) (suc place) ≡ start_of next pieces place
unfolding start_of
start_later from next place piece pieces e = ap (λ start. start_of start pieces place) e

pub passed_begun : (text : List ℕ) (k : ℕ) → 1 ≤ k → Passed text k 0 text
passed_begun text k h =
    let none : length text - length text ≡ 0 = omega arith in
    record {
      stands = ap (λ n. drop n text) none;
      within = omega arith;
      pieces = omega arith;
      line = line_is text k h ∙ ap (λ i. get_or (split 10 text) i []) (let e : k - 1 ≡ k - 1 - 0 = omega arith in e);
      start = start_is text k h ∙ ap₂ (λ n i. start_of n (split 10 text) i) (sym none) (let e : k - 1 ≡ k - 1 - 0 = omega arith in e);
    }

-- the first piece of a text, up to its first separator or whole
pub record FirstPiece (text line : List ℕ) : Type 0 where
  pub others : List (List ℕ)
  pub are : split 10 text ≡ line ∷ others
  pub front : take (length line) text ≡ line
  pub short : length line ≤ length text

pub first_piece : (text : List ℕ) (r : Option (Bor (List ℕ) × Bor (List ℕ))) (line : List ℕ) → SplitOnce 10 text r → MatchOption r (line ≡ text) (λ parts. line ≡ parts.0.now) → FirstPiece text line
first_piece text (Some parts) line g e =
    let l = parted_length 10 text parts.0.now parts.1.now g in
    subst (FirstPiece text) (sym e)
    (record {
      others = split 10 parts.1.now;
      are = g.pieces;
      front = ap (take (length parts.0.now)) g.whole ∙ take_at parts.0.now (10 ∷ parts.1.now) (length parts.0.now) refl;
      short = omega arith;
    })
first_piece text None line g e = subst (FirstPiece text) (sym e) (record { others = []; are = g; front = take-length text; short = omega arith })

module _ (text : List ℕ) (k passed : ℕ) (rest : List ℕ) (g : Passed text k passed rest) where
  module _ (h : passed < k - 1) where
    place : k - 1 - passed ≡ suc (k - 1 - (passed + 1))
    place = omega arith

    pub passed_onward : (line after : List ℕ) → Parted 10 rest line after → Passed text k (passed + 1) after
    passed_onward line after p =
        let l = parted_length 10 rest line after p in
        let w = g.within in
        let n = g.pieces in
        let c = ap length p.pieces in
        let from : length text - length after ≡ length text - length rest + (length line + 1) = omega arith in
        let past : length text - length rest + length line + 1 ≡ length text - length after = omega arith in
        record {
          stands = ap (λ n. drop n text) from ∙ sym (drop-drop (length line + 1) (length text - length rest) text) ∙ ap (drop (length line + 1)) (g.stands ∙ p.whole) ∙ sym (drop-drop 1 (length line) (line ++ 10 ∷ after)) ∙ ap (drop 1) (drop_at line (10 ∷ after) (length line) refl);
          within = omega arith;
          pieces = omega arith;
          line = g.line ∙ ap₂ (λ pieces j. get_or pieces j []) p.pieces place;
          start = g.start ∙ ap₂ (start_of (length text - length rest)) p.pieces place ∙ start_later (length text - length rest) (length text - length after) (k - 1 - (passed + 1)) line (split 10 after) past;
        }

  pub found : (line : List ℕ) → FirstPiece rest line → 1 ≤ k → passed ≡ k - 1 → LineFound text k (Some (record { offset = length text - length rest; length = length line }))
  found line p some h =
      let here : k - 1 - passed ≡ 0 = omega arith in
      let n = g.pieces in
      let l = ap length p.are in
      let w = g.within in
      let s = p.short in (
        (omega arith, omega arith),
        record {
          starts = sym (g.start ∙ ap₂ (start_of (length text - length rest)) p.are here ∙ start_here (length text - length rest) 0 line p.others refl);
          within = omega arith;
          bytes = ap (take (length line)) g.stands ∙ p.front ∙ sym (g.line ∙ ap₂ (λ pieces j. get_or pieces j []) p.are here);
        },
      )

-- ---- where there is no line

line_missing : (pieces : List (List ℕ)) (k : ℕ) → length pieces ≤ k → get_or pieces k [] ≡ []
line_missing [] k h = refl
line_missing (piece ∷ pieces) zero h = absurd (omega arith)
line_missing (piece ∷ pieces) (suc k) h = line_missing pieces k (omega arith)

start_missing : (from : ℕ) (pieces : List (List ℕ)) (k : ℕ) → length pieces ≤ k → start_of from pieces k ≡ 0
unfolding start_of
start_missing from [] k h = refl
start_missing from (piece ∷ pieces) zero h = absurd (omega arith)
start_missing from (piece ∷ pieces) (suc k) h = start_missing (from + length piece + 1) pieces k (omega arith)

pub none_lies : (text : List ℕ) (k : ℕ) → (HasLine text k → ⊥) → [] ≡ line_of text k
unfolding line_of
none_lies text zero h = refl
none_lies text (suc k) h = sym (line_missing (split 10 text) k (few (dec_lt k (length (split 10 text)))))
  where
    few : Dec (k < length (split 10 text)) → length (split 10 text) ≤ k
    few (yes l) = absurd (h (omega arith, omega arith))
    few (no l) = omega arith

none_starts : (text : List ℕ) (k : ℕ) → (HasLine text k → ⊥) → 0 ≡ line_start text k
unfolding line_start
none_starts text zero h = refl
none_starts text (suc k) h = sym (start_missing 0 (split 10 text) k (few (dec_lt k (length (split 10 text)))))
  where
    few : Dec (k < length (split 10 text)) → length (split 10 text) ≤ k
    few (yes l) = absurd (h (omega arith, omega arith))
    few (no l) = omega arith

-- two zeros where there is no line say the same
pub span_or_zeros : (text : List ℕ) (k : ℕ) (r : Option Span) (span : Span) (zeros : Span → Type 0) → ((s : Span) → zeros s → s ≡ record { offset = 0; length = 0 }) → LineFound text k r → UnwrapsOrElse r zeros span → LineSpan text k span
span_or_zeros text k (Some found) span zeros z g e = subst (LineSpan text k) (sym e) g.1
span_or_zeros text k None span zeros z g e = subst (LineSpan text k) (sym (z span e)) (record { starts = none_starts text k g; within = omega arith; bytes = none_lies text k g })

-- what stands from a span's start to its end is the line
pub span_taken : (text : List ℕ) (k : ℕ) (span : Span) → LineSpan text k span → take (span.offset + span.length - span.offset) (drop span.offset text) ≡ line_of text k
span_taken text k span g =
    let e : span.offset + span.length - span.offset ≡ span.length = omega arith in
    ap (λ n. take n (drop span.offset text)) e ∙ g.bytes
