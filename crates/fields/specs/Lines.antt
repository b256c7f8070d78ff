-- The lines of a text, one after another (document 01, item 10: lines are ended by byte 10).
use Rattle.std.specs.Prelude.{◌≡◌, List, [], ◌∷◌, ℕ, ◌+◌, ◌<◌, length, Option, Some, None}
use Rattle.std.specs.Borrow.{Bor}
use Rattle.fields.specs.declared.lines.Line.{Line}
use Rattle.fields.specs.declared.lines.Line.TheVariants.{Ended, Unended}
use Rattle.fields.specs.declared.lines.Lines.{Lines}
use Rattle.fields.specs.Pieces.{split, Parted}

-- what is left of the text
abbrev pub lines_left : Lines → List ℕ
lines_left lines = lines.rest.now

-- the line's bytes, without a line end
abbrev pub line_bytes : Line → List ℕ
line_bytes (Ended row) = row.now
line_bytes (Unended row) = row.now

-- how many bytes it takes in its text
abbrev pub line_size : Line → ℕ
line_size (Ended row) = length row.now + 1
line_size (Unended row) = length row.now

-- the line, where it has its line end
abbrev pub ended_part : Line → Option (Bor (List ℕ))
ended_part (Ended row) = Some row
ended_part (Unended row) = None

-- the first line of a text, and what is left behind it: a piece with its line end, or some bytes without one, which are the last piece
abbrev pub NextLine : List ℕ → Option Line → List ℕ → Type 0
NextLine text (Some (Ended row)) rest = Parted 10 text row.now rest
NextLine text (Some (Unended row)) rest = (split 10 text ≡ text ∷ []) × (row.now ≡ text) × (0 < length text) × (rest ≡ [])
NextLine text None rest = (text ≡ []) × (rest ≡ [])
