-- What reading a text answers, and what the lent tables then hold (document 01, item 10, refusals 1, 2 and 11).
use Rattle.std.specs.Prelude.{◌≡◌, cond, List, ℕ, ◌*◌, eqb, ltb, ℤ, length, take, Err, Ok, Result}
use Rattle.rules.specs.declared.Refusal.TheVariants.{TextTooLong, BadLine, TableTooShort}
use Rattle.rules.specs.declared.Table.TheVariants.{Corners, Rings, Polygons}
use Rattle.rules.specs.Numbers.{refusal_number, refusal_detail}
use Rattle.rules.specs.Plans.{Plan}
use Rattle.lines.specs.declared.Size.{Size}
use Rattle.lines.specs.Plans.{Meaning, start_meaning, gives_meaning, broken_meaning, meaning, size_of}
use Rattle.lines.specs.Stored.{plan_in, starting_with}
use Rattle.rules.specs.declared.Refusal.{Refusal}

-- 0 where a plan was read, or the refusal's number
abbrev pub reading_number : (Result Size Refusal) → ℕ
reading_number (Ok size) = 0
reading_number (Err refusal) = refusal_number refusal

-- 2's line, 11's table, 21's place, and 0 with any other answer; where a plan was read the answer holds its size
abbrev pub reading_detail : (Result Size Refusal) → ℕ
reading_detail (Ok size) = 0
reading_detail (Err refusal) = refusal_detail refusal

-- 11: the first table that is too short, of corners (two numbers a corner), rings, polygons
abbrev pub with_room : Size → ℕ → ℕ → ℕ → Result Size Refusal
with_room size corners rings polygons =
    cond (ltb corners (2 * size.corners)) (Err (TableTooShort Corners))
    (cond (ltb rings size.rings) (Err (TableTooShort Rings))
    (cond (ltb polygons size.polygons) (Err (TableTooShort Polygons)) (Ok size)))

-- 2 with the first line that breaks a rule, else 11; no text comes to `Start` (`never_start`)
abbrev pub reading_of : Meaning → ℕ → ℕ → ℕ → Result Size Refusal
reading_of start_meaning corners rings polygons = Err (BadLine 1)
reading_of (gives_meaning plan) corners rings polygons = with_room (size_of plan) corners rings polygons
reading_of (broken_meaning line) corners rings polygons = Err (BadLine line)

-- 1, then 2, then 11, for tables of these lengths
unfoldable pub reading : List ℕ → ℕ → ℕ → ℕ → Result Size Refusal
reading text corners rings polygons = cond (ltb 65536 (length text)) (Err TextTooLong) (reading_of (meaning text) corners rings polygons)

-- ---- the same in numbers

-- 11's table, the first of corners, rings, polygons that is too short; 0 where none is
abbrev pub short_table : Size → ℕ → ℕ → ℕ → ℕ
short_table size corners rings polygons = cond (ltb corners (2 * size.corners)) 1 (cond (ltb rings size.rings) 2 (cond (ltb polygons size.polygons) 3 0))

-- of a text that is not too long: 2 and its line, else 11 and its table, else 0
abbrev pub number_of : Meaning → ℕ → ℕ → ℕ → ℕ
number_of start_meaning corners rings polygons = 2
number_of (gives_meaning plan) corners rings polygons = cond (eqb (short_table (size_of plan) corners rings polygons) 0) 0 11
number_of (broken_meaning line) corners rings polygons = 2

abbrev pub detail_of : Meaning → ℕ → ℕ → ℕ → ℕ
detail_of start_meaning corners rings polygons = 1
detail_of (gives_meaning plan) corners rings polygons = short_table (size_of plan) corners rings polygons
detail_of (broken_meaning line) corners rings polygons = line

-- 1 first
unfoldable pub number_due : List ℕ → ℕ → ℕ → ℕ → ℕ
number_due text corners rings polygons = cond (ltb 65536 (length text)) 1 (number_of (meaning text) corners rings polygons)

unfoldable pub detail_due : List ℕ → ℕ → ℕ → ℕ → ℕ
detail_due text corners rings polygons = cond (ltb 65536 (length text)) 0 (detail_of (meaning text) corners rings polygons)

-- ---- the call

-- a table after reading
abbrev pub written : {A : Type 0} → (Result Size Refusal) → List A → List A → List A
written (Ok size) xs table = starting_with xs table
written (Err refusal) xs table = table

-- the plan of this size at the tables' start
abbrev pub first_plan : Size → List ℤ → List ℕ → List ℕ → Plan
first_plan size corners lengths counts = record { kind = size.kind; coordinates = take (2 * size.corners) corners; lengths = take size.rings lengths; counts = take size.polygons counts }

-- answer and tables of `read_plan`
pub record PlanRead (text : List ℕ) (corners corners' : List ℤ) (lengths lengths' counts counts' : List ℕ) (r : Result Size Refusal) : Type 0 where
  pub answer : r ≡ reading text (length corners) (length lengths) (length counts)
  pub number : reading_number r ≡ number_due text (length corners) (length lengths) (length counts)
  pub detail : reading_detail r ≡ detail_due text (length corners) (length lengths) (length counts)
  pub corners_written : corners' ≡ written r (plan_in (meaning text)).coordinates corners
  pub lengths_written : lengths' ≡ written r (plan_in (meaning text)).lengths lengths
  pub counts_written : counts' ≡ written r (plan_in (meaning text)).counts counts
