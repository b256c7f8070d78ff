-- The lines of a text (document 01, item 10: "One more call gives line k of a text").
use Rattle.std.specs.Prelude.{◌≡◌, List, [], ◌∷◌, ℕ, zero, suc, ◌+◌, ◌≤◌, ◌<◌, length, get_or, take, drop, Option, MatchOption}
use Rattle.fields.specs.Pieces.{split}
use Rattle.text.specs.declared.Span.{Span}

-- line k, from 1, without its line end, byte 10; empty where there is none. An unended last piece is a line
unfoldable pub line_of : List ℕ → ℕ → List ℕ
line_of text zero = []
line_of text (suc k) = get_or (split 10 text) k []

-- where the piece of this place starts, if the first one starts at `from` and a separator stands after each; 0 where there is none
unfoldable pub start_of : ℕ → List (List ℕ) → ℕ → ℕ
start_of from [] place = 0
start_of from (piece ∷ pieces) zero = from
start_of from (piece ∷ pieces) (suc place) = start_of (from + length piece + 1) pieces place

-- where line k starts, in bytes from the text's start; 0 where there is none
unfoldable pub line_start : List ℕ → ℕ → ℕ
line_start text zero = 0
line_start text (suc k) = start_of 0 (split 10 text) k

-- line k as a part of its text
pub record LineSpan (text : List ℕ) (k : ℕ) (span : Span) : Type 0 where
  pub starts : span.offset ≡ line_start text k
  pub within : span.offset + span.length ≤ length text
  pub bytes : take span.length (drop span.offset text) ≡ line_of text k

-- there is a line k
abbrev pub HasLine : List ℕ → ℕ → Type 0
HasLine text k = (0 < k) × (k ≤ length (split 10 text))

-- line k as a part of its text, where there is one
abbrev pub LineFound : List ℕ → ℕ → Option Span → Type 0
LineFound text k r = MatchOption r (HasLine text k → ⊥) (λ span. HasLine text k × LineSpan text k span)
