-- Calls as rows of numbers.
use Rattle.std.specs.Prelude.{Bool, cond, ◌&&◌, List, ℤ, pos, get_or}
use Rattle.std.specs.Int.Signed.{le_z}
use Rattle.geom.specs.declared.Point.{Point}
use Rattle.model.specs.declared.Call.{Call}
use Rattle.model.specs.declared.Call.TheVariants.{Move, Undo, Locate, LocateDoubled}
use Rattle.model.specs.Entries.{corner_named}

abbrev pub is_number : ℤ → ℤ → Bool
is_number k m = le_z k m && le_z m k

-- a kind, a corner, x and y: 0 is a move, 1 an undo, 2 a look-up, and any other a look-up on the half-grid. A corner below zero is none
abbrev pub coded : ℤ → ℤ → Point → Call
coded kind corner p = cond (is_number kind (pos 0)) (Move (corner_named corner) p) (cond (is_number kind (pos 1)) Undo (cond (is_number kind (pos 2)) (Locate p) (LocateDoubled p)))

abbrev pub call_of : List ℤ → Call
call_of row = coded (get_or row 0 (pos 0)) (get_or row 1 (pos 0)) (record { x = get_or row 2 (pos 0); y = get_or row 3 (pos 0) })
