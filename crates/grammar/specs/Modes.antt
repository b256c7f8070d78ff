-- Where in the grammar the bytes of a text lead, one after another (document 02, R-1).
use Rattle.std.specs.Prelude.{Bool, true, false, cond, List, ℕ, ◌+◌, ◌-◌, eqb, get_or}
use Rattle.grammar.specs.Numbers.{Whole, Begun, minus_begun, value_begun, off_begun, is_digit, first_byte, next_digit}
use Rattle.grammar.specs.Words.{polygon, multipolygon, empty}

-- a position as it is read
pub record Place : Type 0 where
  pub x : Whole
  pub y : Whole

-- where in the grammar the bytes so far lead; the flag says that the text is a MULTIPOLYGON
pub data Mode : Type 0 where
  start_mode : Mode
  -- so many bytes of the first word are read
  word_mode : Bool → ℕ → Mode
  -- a space stands after the word
  spaced_mode : Bool → Mode
  -- so many bytes of EMPTY are read, as the whole text
  empty_text_mode : ℕ → Mode
  want_member_mode : Mode
  -- so many bytes of EMPTY are read, as a member
  empty_member_mode : ℕ → Mode
  after_member_mode : Mode
  want_ring_mode : Bool → Mode
  want_x_mode : Bool → Mode
  in_x_mode : Bool → Begun → Mode
  want_y_mode : Bool → Whole → Mode
  in_y_mode : Bool → Whole → Begun → Mode
  after_y_mode : Bool → Place → Mode
  after_ring_mode : Bool → Mode
  finished_mode : Mode
  -- no text of the grammar begins so
  broken_mode : Mode

-- what a byte ends
pub data Event : Type 0 where
  nothing_event : Event
  -- a position that others of its ring follow
  corner_event : Place → Event
  -- a ring, with its last position
  ring_ends_event : Place → Event
  polygon_ends_event : Event

abbrev pub word_of : Bool → List ℕ
word_of true = multipolygon
word_of false = polygon

abbrev pub at_start : ℕ → Mode
at_start b = cond (eqb b 80) (word_mode false 1) (cond (eqb b 77) (word_mode true 1) broken_mode)

abbrev pub opening : Bool → ℕ → Mode
opening multi b = cond (eqb b 40) (cond multi want_member_mode (want_ring_mode false)) broken_mode

abbrev pub after_word : Bool → ℕ → Mode
after_word multi b = cond (eqb b 32) (spaced_mode multi) (opening multi b)

-- a byte of a word, or 0 behind its last; no byte of a word is 0
abbrev pub in_word : Bool → ℕ → ℕ → Mode
in_word multi k b = cond (eqb (get_or (word_of multi) k 0) 0) (after_word multi b) (cond (eqb b (get_or (word_of multi) k 0)) (word_mode multi (k + 1)) broken_mode)

abbrev pub spaced_word : Bool → ℕ → Mode
spaced_word multi b = cond (eqb b 32) (spaced_mode multi) (cond (eqb b 69) (empty_text_mode 1) (opening multi b))

abbrev pub in_empty : ℕ → ℕ → Mode
in_empty k b = cond (eqb (get_or empty k 0) 0) broken_mode (cond (eqb b (get_or empty k 0)) (empty_text_mode (k + 1)) broken_mode)

abbrev pub want_member : ℕ → Mode
want_member b = cond (eqb b 32) want_member_mode (cond (eqb b 40) (want_ring_mode true) (cond (eqb b 69) (empty_member_mode 1) broken_mode))

abbrev pub after_member : ℕ → Mode
after_member b = cond (eqb b 32) after_member_mode (cond (eqb b 44) want_member_mode (cond (eqb b 41) finished_mode broken_mode))

abbrev pub in_empty_member : ℕ → ℕ → Mode
in_empty_member k b = cond (eqb (get_or empty k 0) 0) (after_member b) (cond (eqb b (get_or empty k 0)) (empty_member_mode (k + 1)) broken_mode)

abbrev pub want_ring : Bool → ℕ → Mode
want_ring multi b = cond (eqb b 32) (want_ring_mode multi) (cond (eqb b 40) (want_x_mode multi) broken_mode)

abbrev pub begun_x : Bool → Begun → Mode
begun_x multi minus_begun = in_x_mode multi minus_begun
begun_x multi (value_begun x) = in_x_mode multi (value_begun x)
begun_x multi off_begun = broken_mode

abbrev pub begun_y : Bool → Whole → Begun → Mode
begun_y multi x minus_begun = in_y_mode multi x minus_begun
begun_y multi x (value_begun y) = in_y_mode multi x (value_begun y)
begun_y multi x off_begun = broken_mode

abbrev pub want_x : Bool → ℕ → Mode
want_x multi b = cond (eqb b 32) (want_x_mode multi) (begun_x multi (first_byte b))

abbrev pub want_y : Bool → Whole → ℕ → Mode
want_y multi x b = cond (eqb b 32) (want_y_mode multi x) (begun_y multi x (first_byte b))

abbrev pub after_x : Bool → Whole → ℕ → Mode
after_x multi x b = cond (eqb b 32) (want_y_mode multi x) broken_mode

abbrev pub end_x : Bool → Begun → ℕ → Mode
end_x multi minus_begun b = broken_mode
end_x multi (value_begun x) b = after_x multi x b
end_x multi off_begun b = broken_mode

abbrev pub in_x : Bool → Begun → ℕ → Mode
in_x multi n b = cond (is_digit b) (begun_x multi (next_digit n (b - 48))) (end_x multi n b)

abbrev pub after_point : Bool → Place → ℕ → Mode
after_point multi p b = cond (eqb b 32) (after_y_mode multi p) (cond (eqb b 44) (want_x_mode multi) (cond (eqb b 41) (after_ring_mode multi) broken_mode))

abbrev pub end_y : Bool → Whole → Begun → ℕ → Mode
end_y multi x minus_begun b = broken_mode
end_y multi x (value_begun y) b = after_point multi (record { x = x; y = y }) b
end_y multi x off_begun b = broken_mode

abbrev pub in_y : Bool → Whole → Begun → ℕ → Mode
in_y multi x n b = cond (is_digit b) (begun_y multi x (next_digit n (b - 48))) (end_y multi x n b)

abbrev pub after_ring : Bool → ℕ → Mode
after_ring multi b = cond (eqb b 32) (after_ring_mode multi) (cond (eqb b 44) (want_ring_mode multi) (cond (eqb b 41) (cond multi after_member_mode finished_mode) broken_mode))

abbrev pub finished : ℕ → Mode
finished b = cond (eqb b 32) finished_mode broken_mode

unfoldable pub next_mode : Mode → ℕ → Mode
next_mode start_mode b = at_start b
next_mode (word_mode multi k) b = in_word multi k b
next_mode (spaced_mode multi) b = spaced_word multi b
next_mode (empty_text_mode k) b = in_empty k b
next_mode want_member_mode b = want_member b
next_mode (empty_member_mode k) b = in_empty_member k b
next_mode after_member_mode b = after_member b
next_mode (want_ring_mode multi) b = want_ring multi b
next_mode (want_x_mode multi) b = want_x multi b
next_mode (in_x_mode multi n) b = in_x multi n b
next_mode (want_y_mode multi x) b = want_y multi x b
next_mode (in_y_mode multi x n) b = in_y multi x n b
next_mode (after_y_mode multi p) b = after_point multi p b
next_mode (after_ring_mode multi) b = after_ring multi b
next_mode finished_mode b = finished b
next_mode broken_mode b = broken_mode

-- ---- what a byte ends

abbrev pub point_event : Place → ℕ → Event
point_event p b = cond (eqb b 44) (corner_event p) (cond (eqb b 41) (ring_ends_event p) nothing_event)

abbrev pub y_event : Whole → Begun → ℕ → Event
y_event x minus_begun b = nothing_event
y_event x (value_begun y) b = point_event (record { x = x; y = y }) b
y_event x off_begun b = nothing_event

abbrev pub ring_event : ℕ → Event
ring_event b = cond (eqb b 41) polygon_ends_event nothing_event

unfoldable pub event_of : Mode → ℕ → Event
event_of start_mode b = nothing_event
event_of (word_mode multi k) b = nothing_event
event_of (spaced_mode multi) b = nothing_event
event_of (empty_text_mode k) b = nothing_event
event_of want_member_mode b = nothing_event
event_of (empty_member_mode k) b = nothing_event
event_of after_member_mode b = nothing_event
event_of (want_ring_mode multi) b = nothing_event
event_of (want_x_mode multi) b = nothing_event
event_of (in_x_mode multi n) b = nothing_event
event_of (want_y_mode multi x) b = nothing_event
event_of (in_y_mode multi x n) b = y_event x n b
event_of (after_y_mode multi p) b = point_event p b
event_of (after_ring_mode multi) b = ring_event b
event_of finished_mode b = nothing_event
event_of broken_mode b = nothing_event
