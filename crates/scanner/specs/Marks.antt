-- What stands behind an item of a list in brackets (document 02, R-1).
use Rattle.std.specs.Prelude.{◌≡◌, Bool, List, ℕ, ◌≤◌, ◌<◌, length, Ok, Err}
use Rattle.grammar.specs.Tokens.{Read}
use Rattle.grammar.specs.Modes.{Place, Mode, after_y_mode, after_ring_mode, after_member_mode, next_mode, event_of}
use Rattle.grammar.specs.Spellings.{breaks}
use Rattle.grammar.specs.Scans.{SoFar, built, read_from}
use Rattle.scanner.specs.declared.marks.Mark.{Mark}
use Rattle.scanner.specs.declared.marks.Mark.TheVariants.{Comma, Bracket}

-- an item of a list in brackets
pub data Item : Type 0 where
  position_item : Bool → Place → Item
  ring_item : Bool → Item
  member_item : Item

abbrev pub behind : Item → Mode
behind (position_item multi p) = after_y_mode multi p
behind (ring_item multi) = after_ring_mode multi
behind member_item = after_member_mode

abbrev pub byte_of : Mark → ℕ
byte_of Comma = 44
byte_of Bracket = 41

-- the text goes on with the mark's byte, whichever item it stands behind
pub record MarkThere (text : List ℕ) (at : ℕ) (mark : Mark) (end : ℕ) : Type 0 where
  pub means : (item : Item) (f : SoFar) → read_from text at (behind item) f ≡ read_from text end (next_mode (behind item) (byte_of mark)) (built f (event_of (behind item) (byte_of mark)))
  pub on : at < end
  pub inside : end ≤ length text

abbrev pub MarkRead : List ℕ → ℕ → Read Mark → Type 0
MarkRead text at (Ok (mark, end)) = MarkThere text at mark end
MarkRead text at (Err off) = (item : Item) (f : SoFar) → read_from text at (behind item) f ≡ breaks off.place
