-- Places of 21 worked out by computing. Assumes nothing.
use mathlib.Core.Path.{◌≡◌, refl}
use mathlib.Core.List.{[], ◌∷◌}
use Rattle.grammar.specs.Modes.{next_mode, event_of}
use Rattle.grammar.specs.Spellings.{spells, breaks}
use Rattle.grammar.specs.Scans.{read, spelling}

-- `POLYGON((01`
leading_zero : spelling (80 ∷ 79 ∷ 76 ∷ 89 ∷ 71 ∷ 79 ∷ 78 ∷ 40 ∷ 40 ∷ 48 ∷ 49 ∷ []) ≡ breaks 10
unfolding spelling read next_mode event_of
leading_zero = refl

-- `POLYGON((-0`
minus_nought : spelling (80 ∷ 79 ∷ 76 ∷ 89 ∷ 71 ∷ 79 ∷ 78 ∷ 40 ∷ 40 ∷ 45 ∷ 48 ∷ []) ≡ breaks 10
unfolding spelling read next_mode event_of
minus_nought = refl

-- `POLYGON((9223372036854775808 0`
past_64 : spelling (80 ∷ 79 ∷ 76 ∷ 89 ∷ 71 ∷ 79 ∷ 78 ∷ 40 ∷ 40 ∷ 57 ∷ 50 ∷ 50 ∷ 51 ∷ 51 ∷ 55 ∷ 50 ∷ 48 ∷ 51 ∷ 54 ∷ 56 ∷ 53 ∷ 52 ∷ 55 ∷ 55 ∷ 53 ∷ 56 ∷ 48 ∷ 56 ∷ 32 ∷ 48 ∷ []) ≡ breaks 27
unfolding spelling read next_mode event_of
past_64 = refl

-- `POLYGON((9223372036854775807 0`
most_64 : spelling (80 ∷ 79 ∷ 76 ∷ 89 ∷ 71 ∷ 79 ∷ 78 ∷ 40 ∷ 40 ∷ 57 ∷ 50 ∷ 50 ∷ 51 ∷ 51 ∷ 55 ∷ 50 ∷ 48 ∷ 51 ∷ 54 ∷ 56 ∷ 53 ∷ 52 ∷ 55 ∷ 55 ∷ 53 ∷ 56 ∷ 48 ∷ 55 ∷ 32 ∷ 48 ∷ []) ≡ breaks 30
unfolding spelling read next_mode event_of
most_64 = refl

-- `POLYGON((-9223372036854775808 0`
least_64 : spelling (80 ∷ 79 ∷ 76 ∷ 89 ∷ 71 ∷ 79 ∷ 78 ∷ 40 ∷ 40 ∷ 45 ∷ 57 ∷ 50 ∷ 50 ∷ 51 ∷ 51 ∷ 55 ∷ 50 ∷ 48 ∷ 51 ∷ 54 ∷ 56 ∷ 53 ∷ 52 ∷ 55 ∷ 55 ∷ 53 ∷ 56 ∷ 48 ∷ 56 ∷ 32 ∷ 48 ∷ []) ≡ breaks 31
unfolding spelling read next_mode event_of
least_64 = refl

-- `POLYGON((-9223372036854775809`
past_least : spelling (80 ∷ 79 ∷ 76 ∷ 89 ∷ 71 ∷ 79 ∷ 78 ∷ 40 ∷ 40 ∷ 45 ∷ 57 ∷ 50 ∷ 50 ∷ 51 ∷ 51 ∷ 55 ∷ 50 ∷ 48 ∷ 51 ∷ 54 ∷ 56 ∷ 53 ∷ 52 ∷ 55 ∷ 55 ∷ 53 ∷ 56 ∷ 48 ∷ 57 ∷ []) ≡ breaks 28
unfolding spelling read next_mode event_of
past_least = refl

-- `POLYGON ()`
no_ring : spelling (80 ∷ 79 ∷ 76 ∷ 89 ∷ 71 ∷ 79 ∷ 78 ∷ 32 ∷ 40 ∷ 41 ∷ []) ≡ breaks 9
unfolding spelling read next_mode event_of
no_ring = refl

-- `POLYGON (())`
no_position : spelling (80 ∷ 79 ∷ 76 ∷ 89 ∷ 71 ∷ 79 ∷ 78 ∷ 32 ∷ 40 ∷ 40 ∷ 41 ∷ 41 ∷ []) ≡ breaks 10
unfolding spelling read next_mode event_of
no_position = refl

-- `POLYGON EMPTY `
trailing_after_empty : spelling (80 ∷ 79 ∷ 76 ∷ 89 ∷ 71 ∷ 79 ∷ 78 ∷ 32 ∷ 69 ∷ 77 ∷ 80 ∷ 84 ∷ 89 ∷ 32 ∷ []) ≡ breaks 13
unfolding spelling read next_mode event_of
trailing_after_empty = refl

-- ` POLYGON EMPTY`
leading_space : spelling (32 ∷ 80 ∷ 79 ∷ 76 ∷ 89 ∷ 71 ∷ 79 ∷ 78 ∷ 32 ∷ 69 ∷ 77 ∷ 80 ∷ 84 ∷ 89 ∷ []) ≡ breaks 0
unfolding spelling read next_mode event_of
leading_space = refl

-- `POLYGON`
only_word : spelling (80 ∷ 79 ∷ 76 ∷ 89 ∷ 71 ∷ 79 ∷ 78 ∷ []) ≡ breaks 7
unfolding spelling read next_mode event_of
only_word = refl

-- ``
nothing_at_all : spelling [] ≡ breaks 0
unfolding spelling read next_mode event_of
nothing_at_all = refl

-- `POLYGON EMPTY`
empty_spelt : spelling (80 ∷ 79 ∷ 76 ∷ 89 ∷ 71 ∷ 79 ∷ 78 ∷ 32 ∷ 69 ∷ 77 ∷ 80 ∷ 84 ∷ 89 ∷ []) ≡ spells []
unfolding spelling read next_mode event_of
empty_spelt = refl

-- `MULTIPOLYGON(EMPTY , EMPTY)  `
empty_members : spelling (77 ∷ 85 ∷ 76 ∷ 84 ∷ 73 ∷ 80 ∷ 79 ∷ 76 ∷ 89 ∷ 71 ∷ 79 ∷ 78 ∷ 40 ∷ 69 ∷ 77 ∷ 80 ∷ 84 ∷ 89 ∷ 32 ∷ 44 ∷ 32 ∷ 69 ∷ 77 ∷ 80 ∷ 84 ∷ 89 ∷ 41 ∷ 32 ∷ 32 ∷ []) ≡ spells []
unfolding spelling read next_mode event_of
empty_members = refl

-- `POLYGON (EMPTY`
ring_empty : spelling (80 ∷ 79 ∷ 76 ∷ 89 ∷ 71 ∷ 79 ∷ 78 ∷ 32 ∷ 40 ∷ 69 ∷ 77 ∷ 80 ∷ 84 ∷ 89 ∷ []) ≡ breaks 9
unfolding spelling read next_mode event_of
ring_empty = refl

-- `Polygon`
other_letters : spelling (80 ∷ 111 ∷ 108 ∷ 121 ∷ 103 ∷ 111 ∷ 110 ∷ []) ≡ breaks 1
unfolding spelling read next_mode event_of
other_letters = refl

-- `POINT (0 0)`
point : spelling (80 ∷ 79 ∷ 73 ∷ 78 ∷ 84 ∷ 32 ∷ 40 ∷ 48 ∷ 32 ∷ 48 ∷ 41 ∷ []) ≡ breaks 2
unfolding spelling read next_mode event_of
point = refl

-- `POLYGON ((0.0`
decimal_point : spelling (80 ∷ 79 ∷ 76 ∷ 89 ∷ 71 ∷ 79 ∷ 78 ∷ 32 ∷ 40 ∷ 40 ∷ 48 ∷ 46 ∷ 48 ∷ []) ≡ breaks 11
unfolding spelling read next_mode event_of
decimal_point = refl

-- `POLYGON ((0,`
comma_for_space : spelling (80 ∷ 79 ∷ 76 ∷ 89 ∷ 71 ∷ 79 ∷ 78 ∷ 32 ∷ 40 ∷ 40 ∷ 48 ∷ 44 ∷ []) ≡ breaks 11
unfolding spelling read next_mode event_of
comma_for_space = refl

-- `POLYGON ((0 0 0`
third : spelling (80 ∷ 79 ∷ 76 ∷ 89 ∷ 71 ∷ 79 ∷ 78 ∷ 32 ∷ 40 ∷ 40 ∷ 48 ∷ 32 ∷ 48 ∷ 32 ∷ 48 ∷ []) ≡ breaks 14
unfolding spelling read next_mode event_of
third = refl
