-- What reading an input leaves in a buffer. Which bytes standard input has no contract can say; of a reader whose bytes are known, these are its first.
use Rattle.std.specs.Prelude.{◌≡◌, ⊤, List, [], ℕ, ◌≤◌, ◌<◌, length, take, Option, Some, None, Result, Ok, Err}
use Rattle.std.specs.Io.KnownBytes.{Consumes, Keeps, IsAtEnd}

-- bytes lie at the start of a buffer, so many
abbrev pub LieIn : ℕ → List ℕ → Type 0
LieIn count buffer = (count ≤ length buffer) × (count ≡ length (take count buffer))

-- A read that is no end and no failure moves a byte at least, and no more than there is room for; they are the reader's next. At the end it has none left.
-- A read that fails moves none.
abbrev pub Came : {E : Type 0} → Option (List ℕ) → Option (List ℕ) → List ℕ → Result (Option ℕ) E → Type 0
Came old new part (Ok (Some count)) = (0 < count) × LieIn count part × Consumes old new (take count part)
Came old new part (Ok None) = Consumes old new [] × (0 < length part → IsAtEnd new)
Came old new part (Err error) = Keeps old new

-- the bytes that were read lie in the buffer: all that the reader had, unless they fill it
abbrev pub Holds : {E : Type 0} → Option (List ℕ) → Option (List ℕ) → List ℕ → Result ℕ E → Type 0
Holds old new buffer (Ok count) = LieIn count buffer × Consumes old new (take count buffer) × (count < length buffer → IsAtEnd new)
Holds old new buffer (Err error) = ⊤
