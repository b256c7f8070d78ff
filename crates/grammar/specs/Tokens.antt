-- What reading spaces and a number from a place of a text on promises: where they end, and that the text spells the same from there on.
use Rattle.std.specs.Prelude.{◌≡◌, Bool, false, List, ℕ, ◌≤◌, ◌<◌, cond, ltb, ℤ, length, get_or, Option, Some, None, Result, Ok, Err}
use Rattle.grammar.specs.declared.NextByte.{NextByte}
use Rattle.grammar.specs.declared.OffGrammar.{OffGrammar}
use Rattle.grammar.specs.Numbers.{Whole, Begun, value_begun, is_digit, whole_of}
use Rattle.grammar.specs.Modes.{Mode, want_x_mode, in_x_mode, want_y_mode, in_y_mode, nothing_event, next_mode, event_of}
use Rattle.grammar.specs.Spellings.{Spelling, breaks}
use Rattle.grammar.specs.Scans.{SoFar, is_broken, read_from}

-- a mode in which a space changes nothing
pub record Resting (mode : Mode) : Type 0 where
  pub stays : next_mode mode 32 ≡ mode
  pub silent : event_of mode 32 ≡ nothing_event
  pub whole : is_broken mode ≡ false

-- r is the first place from `at` on that holds no space
pub record Skipped (text : List ℕ) (at r : ℕ) : Type 0 where
  pub on : at ≤ r
  pub inside : r ≤ length text
  pub spaces : (place : ℕ) → at ≤ place → place < r → get_or text place 0 ≡ 32
  pub stops : r < length text → get_or text r 0 ≡ 32 → ⊥
  pub same : (mode : Mode) (f : SoFar) → Resting mode → read_from text at mode f ≡ read_from text r mode f

-- the byte at a place, or none behind the text's end
abbrev pub byte_at : List ℕ → ℕ → Option ℕ
byte_at text at = cond (ltb at (length text)) (Some (get_or text at 0)) None

-- a place behind the spaces, and the byte there
pub record NextRead (text : List ℕ) (at : ℕ) (m : NextByte) : Type 0 where
  pub skipped : Skipped text at m.at
  pub byte : m.byte ≡ byte_at text m.at

-- what is read, and the place behind it; or the place at which the text leaves the grammar
abbrev pub Read : Type 0 → Type 0
Read A = Result (A × ℕ) OffGrammar

-- where a number is wanted: as x, or as y after this x
pub data Wanted : Type 0 where
  wants_x : Bool → Wanted
  wants_y : Bool → Whole → Wanted

abbrev pub wanting : Wanted → Mode
wanting (wants_x multi) = want_x_mode multi
wanting (wants_y multi x) = want_y_mode multi x

-- so much of it is read
abbrev pub within : Wanted → Begun → Mode
within (wants_x multi) begun = in_x_mode multi begun
within (wants_y multi x) begun = in_y_mode multi x begun

abbrev pub after_number : List ℕ → Wanted → SoFar → Read ℤ → Spelling
after_number text w f (Ok (value, end)) = read_from text end (within w (value_begun (whole_of value))) f
after_number text w f (Err off) = breaks off.place

-- a number ends from this place on, before a byte that is no digit
abbrev pub Ended : List ℕ → ℕ → Read ℤ → Type 0
Ended text from (Ok (value, end)) = (from ≤ end) × (end ≤ length text) × (end < length text → is_digit (get_or text end 0) ≡ false)
Ended text from (Err off) = Unit {0}

-- read on from a place of the text, in the mode of any number that is wanted there
pub record NumberRead (text : List ℕ) (at : ℕ) (mode : Wanted → Mode) (from : ℕ) (r : Read ℤ) : Type 0 where
  pub ended : Ended text from r
  pub means : (w : Wanted) (f : SoFar) → read_from text at (mode w) f ≡ after_number text w f r
