-- What scanning each part of a text promises: from the place behind it on the text spells the same, with what the part says built, counted and
-- stored (document 02, R-1).
use Rattle.std.specs.Prelude.{◌≡◌, Bool, true, false, List, [], ◌∷◌, ◌++◌, ℕ, ◌+◌, ◌*◌, ◌≤◌, ◌<◌, ℤ, length, get_or, set, Some, Result, Ok, Err}
use Rattle.geom.specs.declared.Point.{Point}
use Rattle.grammar.specs.declared.OffGrammar.{OffGrammar}
use Rattle.grammar.specs.Grammar.{Ring, Polygon}
use Rattle.grammar.specs.Tokens.{Read, byte_at}
use Rattle.grammar.specs.Modes.{Mode, start_mode, word_mode, want_member_mode, want_ring_mode, want_x_mode, after_y_mode, after_ring_mode, after_member_mode, finished_mode, word_of}
use Rattle.grammar.specs.Spellings.{Spelling, spells, breaks}
use Rattle.grammar.specs.Scans.{SoFar, place_of, read_from}
use Rattle.grammar.specs.Texts.{drop_last}
use Rattle.grammar.specs.Plans.{is_closed, numbers_of, coordinates}
use Rattle.grammar.specs.Plans as Plans
use Rattle.scanner.specs.declared.Extent.{Extent}
use Rattle.scanner.specs.Puts.{put}
use Rattle.scanner.specs.Extents.{no_extent, with_ring, with_all, Counted}

-- the polygons done, the rings of the present one, and no position of a ring
abbrev pub so_far_of : List Polygon → Polygon → SoFar
so_far_of done rings = record { done = done; rings = rings; ring = [] }

-- ---- a position

abbrev pub after_position : List ℕ → Bool → SoFar → Read Point → Spelling
after_position text multi f (Ok (p, end)) = read_from text end (after_y_mode multi (place_of p)) f
after_position text multi f (Err off) = breaks off.place

abbrev pub PositionEnds : List ℕ → ℕ → Read Point → Type 0
PositionEnds text at (Ok (p, end)) = (at < end) × (end ≤ length text)
PositionEnds text at (Err off) = Unit {0}

pub record PositionRead (text : List ℕ) (at : ℕ) (r : Read Point) : Type 0 where
  pub ends : PositionEnds text at r
  pub means : (multi : Bool) (f : SoFar) → read_from text at (want_x_mode multi) f ≡ after_position text multi f r

-- ---- a ring, wanted in this mode

pub record RingThere (text : List ℕ) (at : ℕ) (want : Bool → Mode) (e : Extent) (corners corners' : List ℤ) (lengths lengths' : List ℕ) (e' : Extent) (end : ℕ) : Type 0 where
  pub ring : Ring
  pub means : (multi : Bool) (done : List Polygon) (rings : Polygon) → read_from text at (want multi) (so_far_of done rings) ≡ read_from text end (after_ring_mode multi) (so_far_of done (rings ++ (ring ∷ [])))
  pub counted : e' ≡ with_ring e (length (drop_last ring)) (is_closed ring)
  pub corners_put : corners' ≡ put (2 * e.corners) (numbers_of (drop_last ring)) corners
  pub lengths_put : lengths' ≡ set lengths e.rings (length (drop_last ring))
  pub on : at < end
  pub inside : end ≤ length text
  pub few : Counted e' end

abbrev pub RingScanned : List ℕ → ℕ → (Bool → Mode) → Extent → List ℤ → List ℤ → List ℕ → List ℕ → Read Extent → Type 0
RingScanned text at want e corners corners' lengths lengths' (Ok (e', end)) = RingThere text at want e corners corners' lengths lengths' e' end
RingScanned text at want e corners corners' lengths lengths' (Err off) = (multi : Bool) (done : List Polygon) (rings : Polygon) → read_from text at (want multi) (so_far_of done rings) ≡ breaks off.place

-- ---- a word

-- so many bytes of it, from its start on, stand at a place
pub record Matched (text : List ℕ) (at : ℕ) (word : List ℕ) (r : ℕ) : Type 0 where
  pub most : r ≤ length word
  pub upto : (j : ℕ) → j < r → byte_at text (at + j) ≡ Some (get_or word j 0)
  pub stops : r < length word → byte_at text (at + r) ≡ Some (get_or word r 0) → ⊥

-- all of it, up to the place behind it; or some, up to the place of the first byte that is not the word's
abbrev pub WordRead : List ℕ → ℕ → List ℕ → Result ℕ OffGrammar → Type 0
WordRead text at word (Ok end) = (end ≡ at + length word) × Matched text at word (length word)
WordRead text at word (Err off) = (n : ℕ) × (off.place ≡ at + n) × (n < length word) × Matched text at word n

-- ---- polygons

-- from a place to another the text adds these polygons: none or one for a member, all for a text
pub record Adds (e : Extent) (corners corners' : List ℤ) (lengths lengths' counts counts' : List ℕ) (e' : Extent) (added : List Polygon) : Type 0 where
  pub counted : e' ≡ with_all e added
  pub corners_put : corners' ≡ put (2 * e.corners) (coordinates added) corners
  pub lengths_put : lengths' ≡ put e.rings (Plans.lengths added) lengths
  pub counts_put : counts' ≡ put e.polygons (Plans.counts added) counts

-- behind a polygon other members may stand, or the text ends
abbrev pub after_polygon : Bool → Mode
after_polygon true = after_member_mode
after_polygon false = finished_mode

pub record PolygonThere (text : List ℕ) (at : ℕ) (e : Extent) (corners corners' : List ℤ) (lengths lengths' counts counts' : List ℕ) (e' : Extent) (end : ℕ) : Type 0 where
  pub rings : Polygon
  pub means : (multi : Bool) (done : List Polygon) → read_from text at (want_ring_mode multi) (so_far_of done []) ≡ read_from text end (after_polygon multi) (so_far_of (done ++ (rings ∷ [])) [])
  pub adds : Adds e corners corners' lengths lengths' counts counts' e' (rings ∷ [])
  pub on : at < end
  pub inside : end ≤ length text
  pub few : Counted e' end

abbrev pub PolygonScanned : List ℕ → ℕ → Extent → List ℤ → List ℤ → List ℕ → List ℕ → List ℕ → List ℕ → Read Extent → Type 0
PolygonScanned text at e corners corners' lengths lengths' counts counts' (Ok (e', end)) = PolygonThere text at e corners corners' lengths lengths' counts counts' e' end
PolygonScanned text at e corners corners' lengths lengths' counts counts' (Err off) = (multi : Bool) (done : List Polygon) → read_from text at (want_ring_mode multi) (so_far_of done []) ≡ breaks off.place

-- a member: a polygon, or EMPTY, which adds none
pub record MemberThere (text : List ℕ) (at : ℕ) (e : Extent) (corners corners' : List ℤ) (lengths lengths' counts counts' : List ℕ) (e' : Extent) (end : ℕ) : Type 0 where
  pub added : List Polygon
  pub means : (done : List Polygon) → read_from text at want_member_mode (so_far_of done []) ≡ read_from text end after_member_mode (so_far_of (done ++ added) [])
  pub adds : Adds e corners corners' lengths lengths' counts counts' e' added
  pub on : at < end
  pub inside : end ≤ length text
  pub few : Counted e' end

abbrev pub MemberScanned : List ℕ → ℕ → Extent → List ℤ → List ℤ → List ℕ → List ℕ → List ℕ → List ℕ → Read Extent → Type 0
MemberScanned text at e corners corners' lengths lengths' counts counts' (Ok (e', end)) = MemberThere text at e corners corners' lengths lengths' counts counts' e' end
MemberScanned text at e corners corners' lengths lengths' counts counts' (Err off) = (done : List Polygon) → read_from text at want_member_mode (so_far_of done []) ≡ breaks off.place

-- what is wanted behind the bracket that follows the first word
abbrev pub bracketed : Bool → Mode
bracketed true = want_member_mode
bracketed false = want_ring_mode false

-- from this mode on to the end of what is in brackets
pub record AllThere (text : List ℕ) (at : ℕ) (mode : Mode) (corners corners' : List ℤ) (lengths lengths' counts counts' : List ℕ) (e' : Extent) (end : ℕ) : Type 0 where
  pub polygons : List Polygon
  pub means : read_from text at mode (so_far_of [] []) ≡ read_from text end finished_mode (so_far_of polygons [])
  pub adds : Adds no_extent corners corners' lengths lengths' counts counts' e' polygons
  pub inside : end ≤ length text

abbrev pub AllScanned : List ℕ → ℕ → Mode → List ℤ → List ℤ → List ℕ → List ℕ → List ℕ → List ℕ → Read Extent → Type 0
AllScanned text at mode corners corners' lengths lengths' counts counts' (Ok (e', end)) = AllThere text at mode corners corners' lengths lengths' counts counts' e' end
AllScanned text at mode corners corners' lengths lengths' counts counts' (Err off) = read_from text at mode (so_far_of [] []) ≡ breaks off.place

-- ---- a text

-- whether the first word is MULTIPOLYGON, or POLYGON, and the place behind it
abbrev pub FirstWordRead : List ℕ → Read Bool → Type 0
FirstWordRead text (Ok (multi, at)) = (at ≡ length (word_of multi)) × (at ≤ length text) × ((f : SoFar) → read_from text 0 start_mode f ≡ read_from text at (word_mode multi at) f)
FirstWordRead text (Err off) = (f : SoFar) → read_from text 0 start_mode f ≡ breaks off.place

pub record TextThere (text : List ℕ) (at : ℕ) (mode : Mode) (corners corners' : List ℤ) (lengths lengths' counts counts' : List ℕ) (e' : Extent) : Type 0 where
  pub polygons : List Polygon
  pub means : read_from text at mode (so_far_of [] []) ≡ spells polygons
  pub adds : Adds no_extent corners corners' lengths lengths' counts counts' e' polygons

-- from this mode on to its end
abbrev pub TextScanned : List ℕ → ℕ → Mode → List ℤ → List ℤ → List ℕ → List ℕ → List ℕ → List ℕ → Result Extent OffGrammar → Type 0
TextScanned text at mode corners corners' lengths lengths' counts counts' (Ok e') = TextThere text at mode corners corners' lengths lengths' counts counts' e'
TextScanned text at mode corners corners' lengths lengths' counts counts' (Err off) = read_from text at mode (so_far_of [] []) ≡ breaks off.place

-- EMPTY adds nothing, whatever the tables are
abbrev pub EmptyScanned : List ℕ → ℕ → Mode → Result Extent OffGrammar → Type 0
EmptyScanned text at mode r = (corners : List ℤ) (lengths counts : List ℕ) → TextScanned text at mode corners corners lengths lengths counts counts r

-- behind either word
abbrev pub WithoutBrackets : List ℕ → ℕ → Result Extent OffGrammar → Type 0
WithoutBrackets text at r = (multi : Bool) → at ≡ length (word_of multi) → EmptyScanned text at (word_mode multi at) r

-- the end of the text, where spaces alone stand
abbrev pub Ended : List ℕ → ℕ → Result (Unit {0}) OffGrammar → Type 0
Ended text end (Ok done) = (f : SoFar) → read_from text end finished_mode f ≡ spells f.done
Ended text end (Err off) = (f : SoFar) → read_from text end finished_mode f ≡ breaks off.place
