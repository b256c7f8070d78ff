-- What is written for the lines after the plan (document 01, "Trays to try").
use Rattle.std.specs.Prelude.{◌≡◌, true, false, List, [], ◌∷◌, ◌++◌, ℕ, suc, ◌+◌, ◌≤◌, ℤ, length, drop, Option, Some, None, MatchOption}
use Rattle.fields.specs.Decimals.{digits}
use Rattle.std.specs.Borrow.{Bor}
use Rattle.fields.specs.declared.lines.Line.{Line}
use Rattle.fields.specs.declared.lines.Line.TheVariants.{Ended, Unended}
use Rattle.fields.specs.Lines.{line_bytes}
use Rattle.fields.specs.Pieces.{split}
use Rattle.rules.specs.declared.Location.{Location}
use Rattle.rules.specs.declared.Location.TheVariants.{Outside, Inside, OnBoundary}
use Rattle.rules.specs.declared.Refusal.{Refusal}
use Rattle.rules.specs.declared.Refusal.TheVariants.{TextTooLong, BadLine, Uneven, TooMany, NoSuchCorner, PlaceOutOfRange, TableTooShort, PlanOutOfRange, UndoFull, NothingToUndo, Unsound, OffGrammar, Unclosed}
use Rattle.rules.specs.declared.State.{State}
use Rattle.rules.specs.Plans.{Plan, plan_in_range}
use Rattle.rules.specs.Tables.{plan_of}
use Rattle.gather.specs.declared.tables.Tables.{Tables}
use Rattle.gather.specs.Regions.{LookSound}
use Rattle.rules.specs.declared.Spot.{Spot}
use Rattle.rules.specs.Spots.{spot_reply}
use Rattle.asked.specs.Queries.{query_of}
use Rattle.answers.specs.Words.{inside, outside, boundary, refused, tab, line_end}

-- ---- one line of output

abbrev pub place_word : Location → List ℕ
place_word Outside = outside
place_word Inside = inside
place_word OnBoundary = boundary

-- the word that a query gets: the reply on the grid (items 3, 4 and 6), or on the half-grid (item 7)
abbrev pub reply_word : Plan → Spot → List ℕ
reply_word plan spot = place_word (spot_reply plan spot)

-- "Each output line repeats the input fields and adds" the word
abbrev pub reply_line : List ℕ → List ℕ → List ℕ
reply_line line word = line ++ tab ++ word ++ line_end

-- a further field with a number
abbrev pub number_field : ℕ → List ℕ
number_field n = tab ++ digits n

-- "A refusal writes `refused`, the number, the line (0 where none)"
abbrev pub refusal_line : ℕ → ℕ → List ℕ
refusal_line number line = refused ++ number_field number ++ number_field line ++ line_end

-- the line that a refusal names; 11 names a table, which is not written
abbrev pub line_named : Refusal → ℕ
line_named TextTooLong = 0
line_named (BadLine line) = line
line_named Uneven = 0
line_named TooMany = 0
line_named NoSuchCorner = 0
line_named PlaceOutOfRange = 0
line_named (TableTooShort table) = 0
line_named PlanOutOfRange = 0
line_named UndoFull = 0
line_named NothingToUndo = 0
line_named Unsound = 0
line_named (OffGrammar place) = 0
line_named Unclosed = 0

-- ---- line by line

-- line k, ended, which says this, and what is written for the lines after it; a refusal stops
abbrev pub answer_line : Plan → ℕ → List ℕ → Option Spot → List ℕ → List ℕ
answer_line plan k line (Some query) rest = reply_line line (reply_word plan query) ++ rest
answer_line plan k line None rest = refusal_line 2 k

-- what stands after the last line end: nothing, or an unended line k
abbrev pub answer_end : ℕ → List ℕ → List ℕ
answer_end k [] = []
answer_end k (x ∷ xs) = refusal_line 2 k

-- the lines from line k on; the last piece is what stands after the last line end
unfoldable pub replies : Plan → ℕ → List (List ℕ) → List ℕ
replies plan k [] = []
replies plan k (last ∷ []) = answer_end k last
replies plan k (line ∷ next ∷ lines) = answer_line plan k line (query_of (split 9 line)) (replies plan (suc k) (next ∷ lines))

-- ---- what the functions that write them are given

-- what a line asks; an unended one asks nothing
abbrev pub asked_by : Line → Option Spot
asked_by (Ended row) = query_of (split 9 row.now)
asked_by (Unended row) = None

-- a line's bytes with what it asks, or a line that asks nothing
abbrev pub QueryOn : Line → Option (Bor (List ℕ) × Spot) → Type 0
QueryOn line r = MatchOption r (asked_by line ≡ None) (λ asked. (asked.0.now ≡ line_bytes line) × (asked_by line ≡ Some asked.1))

-- the tables of a prepared plan: item 6's mark stands only where a corner is out of range, and without it the tables are sound (item 9)
pub record PreparedTables (state : State) (corners : List ℤ) (rings polygons : List ℕ) (boxes : List (List ℤ)) (parts : List (List ℕ)) (edges : List ℕ) : Type 0 where
  pub marked : state.out_of_range ≡ true → plan_in_range (plan_of state corners rings polygons) ≡ false
  pub sound : state.out_of_range ≡ false → LookSound state corners rings polygons boxes parts edges

abbrev pub PreparedIn : State → Tables → Type 0
PreparedIn state tables = PreparedTables state tables.corners.now tables.rings.now tables.polygons.now tables.boxes.now tables.parts.now tables.edges.now

-- a line of a small input with its number, and room for the replies from there on
pub record Due (plan : Plan) (input : List ℕ) (from line : ℕ) (output : List ℕ) : Type 0 where
  pub small : length input ≤ 16384
  pub starts : from ≤ length input
  pub numbered : line ≤ from + 1
  pub room : length (replies plan line (split 10 (drop from input))) ≤ length output
