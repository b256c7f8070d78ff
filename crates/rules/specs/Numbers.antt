-- The number of each kind, place, table and refusal (document 01, item 11, "From the input", "From the state"; document 02's requests).
use Rattle.std.specs.Prelude.{cond, ℕ, eqb, ℤ, pos, neg_ℤ, Err, None, Ok, Option, Some}
use Rattle.rules.specs.declared.Kind.{Kind}
use Rattle.rules.specs.declared.Location.{Location}
use Rattle.rules.specs.declared.Location.TheVariants.{Outside, Inside, OnBoundary}
use Rattle.rules.specs.declared.Table.{Table}
use Rattle.rules.specs.declared.Table.TheVariants.{Corners, Rings, Polygons, Nodes, Edges, Output}
use Rattle.rules.specs.declared.Refusal.{Refusal}
use Rattle.rules.specs.declared.Refusal.TheVariants.{TextTooLong, BadLine, Uneven, TooMany, NoSuchCorner, PlaceOutOfRange, TableTooShort, PlanOutOfRange, UndoFull, NothingToUndo, Unsound, OffGrammar, Unclosed}
use Rattle.rules.specs.Answering.{Reply, Verdict}

-- 0 names a list, 1 a tree
abbrev pub kind_named : ℕ → Option Kind
kind_named number = cond (eqb number 0) (Some Kind.Polygons) (cond (eqb number 1) (Some Kind.Tree) None)

abbrev pub kind_number : Kind → ℕ
kind_number Kind.Polygons = 0
kind_number Kind.Tree = 1

-- item 11
abbrev pub location_number : Location → ℕ
location_number Outside = 0
location_number Inside = 1
location_number OnBoundary = 2

-- refusal 11's order
abbrev pub table_number : Table → ℕ
table_number Corners = 1
table_number Rings = 2
table_number Polygons = 3
table_number Nodes = 4
table_number Edges = 5
-- R-1: "as sixth table"
table_number Output = 6

abbrev pub refusal_number : Refusal → ℕ
refusal_number TextTooLong = 1
refusal_number (BadLine line) = 2
refusal_number Uneven = 3
refusal_number TooMany = 4
refusal_number NoSuchCorner = 5
refusal_number PlaceOutOfRange = 6
refusal_number (TableTooShort table) = 11
refusal_number PlanOutOfRange = 12
refusal_number UndoFull = 13
refusal_number NothingToUndo = 14
refusal_number Unsound = 15
-- R-1: "Refusal numbers that requests add count among document 01's"
refusal_number (OffGrammar place) = 21
refusal_number Unclosed = 22

-- 2 returns its line, 11 its table, 21 its place
abbrev pub refusal_detail : Refusal → ℕ
refusal_detail TextTooLong = 0
refusal_detail (BadLine line) = line
refusal_detail Uneven = 0
refusal_detail TooMany = 0
refusal_detail NoSuchCorner = 0
refusal_detail PlaceOutOfRange = 0
refusal_detail (TableTooShort table) = table_number table
refusal_detail PlanOutOfRange = 0
refusal_detail UndoFull = 0
refusal_detail NothingToUndo = 0
refusal_detail Unsound = 0
refusal_detail (OffGrammar place) = place
refusal_detail Unclosed = 0

-- item 11: a reply as one signed number, the place or minus the refusal
abbrev pub reply_number : Reply → ℤ
reply_number (Ok location) = pos (location_number location)
reply_number (Err refusal) = neg_ℤ (pos (refusal_number refusal))

-- 0 where nothing is refused, or the refusal
abbrev pub verdict_number : Verdict → ℕ
verdict_number (Ok _) = 0
verdict_number (Err refusal) = refusal_number refusal
