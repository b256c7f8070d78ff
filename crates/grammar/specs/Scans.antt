-- What a text spells, found a byte at a time: so contracts are equations. `means` shows that it is the grammar's (document 02, R-1).
use Rattle.std.specs.Prelude.{Bool, true, false, cond, List, [], ◌∷◌, ◌++◌, eqb, drop, ℕ, suc}
use Rattle.grammar.specs.Grammar.{Ring, Polygon}
use Rattle.geom.specs.declared.Point.{Point}
use Rattle.grammar.specs.Modes.{Place, Mode, start_mode, word_mode, spaced_mode, empty_text_mode, want_member_mode, empty_member_mode, after_member_mode, want_ring_mode, want_x_mode, in_x_mode, want_y_mode, in_y_mode, after_y_mode, after_ring_mode, finished_mode, broken_mode, Event, nothing_event, corner_event, ring_ends_event, polygon_ends_event, next_mode, event_of}
use Rattle.grammar.specs.Numbers.{value_of, whole_of}
use Rattle.grammar.specs.Spellings.{Spelling, spells, breaks}

-- the polygons done, the rings of the present one and the positions of the present ring
pub record SoFar : Type 0 where
  pub done : List Polygon
  pub rings : Polygon
  pub ring : Ring

abbrev pub nothing : SoFar
nothing = record { done = []; rings = []; ring = [] }

abbrev pub point_of : Place → Point
point_of p = record { x = value_of p.x; y = value_of p.y }

abbrev pub place_of : Point → Place
place_of p = record { x = whole_of p.x; y = whole_of p.y }

abbrev pub built : SoFar → Event → SoFar
built f nothing_event = f
built f (corner_event p) = record { done = f.done; rings = f.rings; ring = f.ring ++ (point_of p ∷ []) }
built f (ring_ends_event p) = record { done = f.done; rings = f.rings ++ ((f.ring ++ (point_of p ∷ [])) ∷ []); ring = [] }
built f polygon_ends_event = record { done = f.done ++ (f.rings ∷ []); rings = []; ring = f.ring }

-- whether a text may end here
abbrev pub may_end : Mode → Bool
may_end start_mode = false
may_end (word_mode multi k) = false
may_end (spaced_mode multi) = false
may_end (empty_text_mode k) = eqb k 5
may_end want_member_mode = false
may_end (empty_member_mode k) = false
may_end after_member_mode = false
may_end (want_ring_mode multi) = false
may_end (want_x_mode multi) = false
may_end (in_x_mode multi n) = false
may_end (want_y_mode multi x) = false
may_end (in_y_mode multi x n) = false
may_end (after_y_mode multi p) = false
may_end (after_ring_mode multi) = false
may_end finished_mode = true
may_end broken_mode = false

abbrev pub is_broken : Mode → Bool
is_broken start_mode = false
is_broken (word_mode multi k) = false
is_broken (spaced_mode multi) = false
is_broken (empty_text_mode k) = false
is_broken want_member_mode = false
is_broken (empty_member_mode k) = false
is_broken after_member_mode = false
is_broken (want_ring_mode multi) = false
is_broken (want_x_mode multi) = false
is_broken (in_x_mode multi n) = false
is_broken (want_y_mode multi x) = false
is_broken (in_y_mode multi x n) = false
is_broken (after_y_mode multi p) = false
is_broken (after_ring_mode multi) = false
is_broken finished_mode = false
is_broken broken_mode = true

-- the bytes from place k on, in this mode with so much built
unfoldable pub read : ℕ → Mode → SoFar → List ℕ → Spelling
read k mode f [] = cond (may_end mode) (spells f.done) (breaks k)
read k mode f (b ∷ text) = cond (is_broken (next_mode mode b)) (breaks k) (read (suc k) (next_mode mode b) (built f (event_of mode b)) text)

unfoldable pub spelling : List ℕ → Spelling
spelling text = read 0 start_mode nothing text

-- the same of a text, from a place on
abbrev pub read_from : List ℕ → ℕ → Mode → SoFar → Spelling
read_from text at mode f = read at mode f (drop at text)
