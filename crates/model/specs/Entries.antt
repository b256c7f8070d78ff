-- What a correction changes and what is recorded of it (document 01, item 9 and refusal 13).
use Rattle.std.specs.Prelude.{Bool, true, ◌||◌, List, [], ◌∷◌, ℕ, ◌+◌, ◌*◌, leb, ℤ, pos, negsuc, get_or, set}
use Rattle.geom.specs.declared.Point.{Point}
use Rattle.rules.specs.Plans.{corner_at}

-- corner i put at a place, in a list of coordinates
abbrev pub put_corner : List ℤ → ℕ → Point → List ℤ
put_corner corners i place = set (set corners (2 * i) place.x) (2 * i + 1) place.y

-- a record of a move: the corner and its old place
pub record Entry : Type 0 where
  pub corner : ℕ
  pub place : Point

abbrev pub entry_of : List ℤ → ℕ → Entry
entry_of corners i = record { corner = i; place = corner_at corners i }

-- what an undo puts back: the corner takes that place back
abbrev pub put_back : List ℤ → Entry → List ℤ
put_back corners entry = put_corner corners entry.corner entry.place

-- item 9: whether a move from an old place to a new one is recorded; a move to the same place records too
unfoldable pub is_recorded : Point → Point → Bool
is_recorded old new = true

-- 13: the records fill the undo table, at its lent length or at 65,536
abbrev pub is_full : ℕ → ℕ → Bool
is_full lent held = leb lent held || leb 65536 held

-- ---- a record as a row of the undo table: corner, old x, old y
abbrev pub undo_row : Entry → List ℤ
undo_row entry = pos entry.corner ∷ entry.place.x ∷ entry.place.y ∷ []

-- the corner that a signed number names. One below zero names none: it stands for the greatest number of 64 bits, and no plan has so
-- many corners
abbrev pub corner_named : ℤ → ℕ
corner_named (pos i) = i
corner_named (negsuc i) = 18446744073709551615

abbrev pub entry_in : List ℤ → Entry
entry_in row = record { corner = corner_named (get_or row 0 (pos 0)); place = record { x = get_or row 1 (pos 0); y = get_or row 2 (pos 0) } }
