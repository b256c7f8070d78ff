-- A walk's rectangle, cursor, step and place as numbers.
use Rattle.std.specs.Prelude.{Bool, cond, ℕ, Option, Some, None, Result, Ok, Err}
use Rattle.geom.specs.declared.Rect.{Rect}
use Rattle.rules.specs.declared.Unsound.{Unsound}
use Rattle.walk.specs.declared.Cursor.{Cursor}
use Rattle.walk.specs.declared.Query.{Query}
use Rattle.walk.specs.declared.Query.TheVariants.{Meeting, Holding}
use Rattle.walk.specs.declared.Step.{Step}
use Rattle.testing.specs.declared.walks.RectNumbers.{RectNumbers}
use Rattle.testing.specs.declared.walks.CursorNumbers.{CursorNumbers}
use Rattle.testing.specs.declared.walks.StepNumbers.{StepNumbers}

abbrev pub cursor_of : CursorNumbers → Cursor
cursor_of numbers = record { nodes = numbers.nodes; waiting = numbers.waiting; met = numbers.met; at = numbers.at; to = numbers.to }

abbrev pub cursor_numbers : Cursor → CursorNumbers
cursor_numbers cursor = record { nodes = cursor.nodes; waiting = cursor.waiting; met = cursor.met; at = cursor.at; to = cursor.to }

abbrev pub rect_named : RectNumbers → Rect
rect_named numbers = record { min = record { x = numbers.least_x; y = numbers.least_y }; max = record { x = numbers.greatest_x; y = numbers.greatest_y } }

-- the boxes that meet the rectangle, or those that hold it
abbrev pub query_named : Bool → Rect → Query
query_named meeting rect = cond meeting (Meeting rect) (Holding rect)

-- 0 an edge, 1 the end, 15 refused; the cursor is as it was where no edge comes
abbrev pub step_numbers : Result (Option Step) Unsound → CursorNumbers → StepNumbers
step_numbers (Ok (Some step)) cursor = record { what = 0; edge = step.edge; cursor = cursor_numbers step.after }
step_numbers (Ok None) cursor = record { what = 1; edge = 0; cursor = cursor }
step_numbers (Err _) cursor = record { what = 15; edge = 0; cursor = cursor }

-- the place, or the greatest number of 64 bits where it is refused
abbrev pub place_named : Result ℕ Unsound → ℕ
place_named (Ok k) = k
place_named (Err _) = 18446744073709551615
