-- Item 10 a line at a time as the code does it: by sizes alone, and as stores into the tables. Lemmas tie these to `Plans`.
use Rattle.std.specs.Prelude.{◌≡◌, cond, List, ℕ, ◌+◌, ◌-◌, ◌*◌, ◌≤◌, ◌<◌, ℤ, length, get_or, set, Option, Some, None, Result, Ok, Err}
use Rattle.rules.specs.declared.Kind.{Kind}
use Rattle.rules.specs.declared.Kind.TheVariants.{Polygons}
use Rattle.lines.specs.declared.records.Record.{Record}
use Rattle.lines.specs.declared.records.Record.TheVariants.{Header, Outer, Hole, Node, Corner}
use Rattle.lines.specs.declared.Size.{Size}
use Rattle.lines.specs.declared.stages.BadLine.{BadLine}
use Rattle.lines.specs.Plans.{Meaning, start_meaning, gives_meaning, broken_meaning, size_of, is_header, allowed}

-- the size of a plan with nothing in it
abbrev pub empty_size : Kind → Size
empty_size kind = record { kind = kind; corners = 0; rings = 0; polygons = 0 }

-- the size after a line
abbrev pub size_after : Size → Record → Size
size_after so_far (Header kind) = empty_size kind
size_after so_far Outer = record { kind = so_far.kind; corners = so_far.corners; rings = so_far.rings + 1; polygons = so_far.polygons + 1 }
size_after so_far Hole = record { kind = so_far.kind; corners = so_far.corners; rings = so_far.rings + 1; polygons = so_far.polygons }
size_after so_far Node = record { kind = so_far.kind; corners = so_far.corners; rings = so_far.rings + 1; polygons = so_far.polygons }
size_after so_far (Corner p) = record { kind = so_far.kind; corners = so_far.corners + 1; rings = so_far.rings; polygons = so_far.polygons }

-- refusal 2 of a meaning, and its line
abbrev pub broken_number : Meaning → ℕ
broken_number start_meaning = 2
broken_number (gives_meaning plan) = 0
broken_number (broken_meaning line) = 2

abbrev pub broken_line : Meaning → ℕ
broken_line start_meaning = 1
broken_line (gives_meaning plan) = 0
broken_line (broken_meaning line) = line

-- 2 at this line
abbrev pub bad_line : ℕ → Result Size BadLine
bad_line k = Err (record { line = k })

-- a meaning by its size; a text without a line is broken in line 1
abbrev pub stage_of : Meaning → Result Size BadLine
stage_of start_meaning = bad_line 1
stage_of (gives_meaning plan) = Ok (size_of plan)
stage_of (broken_meaning line) = bad_line line

-- 2 and its line where a line breaks a rule
abbrev pub stage_number : Result Size BadLine → ℕ
stage_number (Ok size) = 0
stage_number (Err bad) = 2

abbrev pub stage_detail : Result Size BadLine → ℕ
stage_detail (Ok size) = 0
stage_detail (Err bad) = bad.line

-- what a text comes to, by its meaning: the size of its plan, or 2 with the first line that breaks a rule
pub record Judged (m : Meaning) (r : Result Size BadLine) : Type 0 where
  pub stage : r ≡ stage_of m
  pub number : stage_number r ≡ broken_number m
  pub detail : stage_detail r ≡ broken_line m

-- line k, ended, which says this, after a plan of this size or before the first line
abbrev pub stage_after : ℕ → Option Size → Option Record → Result Size BadLine
stage_after k None (Some line) = cond (is_header line) (Ok (size_after (empty_size Polygons) line)) (bad_line k)
stage_after k (Some size) (Some line) = cond (allowed size line) (Ok (size_after size line)) (bad_line k)
stage_after k so_far None = bad_line k

-- a size that can be counted on
abbrev pub Countable : Size → Type 0
Countable size = (size.corners ≤ 65536) × (size.rings ≤ 65536) × (size.polygons ≤ 65536)

abbrev pub SoFarCountable : Option Size → Type 0
SoFarCountable None = Unit {0}
SoFarCountable (Some size) = Countable size

-- ---- stores

-- a text gives a plan, and tables of these lengths have room for it
abbrev pub Ready : Meaning → ℕ → ℕ → ℕ → Type 0
Ready start_meaning corners rings polygons = ⊥
Ready (gives_meaning plan) corners rings polygons = (length plan.coordinates ≤ corners) × (length plan.lengths ≤ rings) × (length plan.counts ≤ polygons)
Ready (broken_meaning line) corners rings polygons = ⊥

-- the number at place n − 1, one more
abbrev pub one_more_before : ℕ → List ℕ → List ℕ
one_more_before n table = set table (n - 1) (get_or table (n - 1) 0 + 1)

-- there is such a number, and it can be counted on
abbrev pub RoomBefore : ℕ → List ℕ → Type 0
RoomBefore n table = (0 < n) × (n ≤ length table) × (get_or table (n - 1) 0 ≤ 65536)

-- the corner table after a line, which held n corners
abbrev pub corners_with : ℕ → Record → List ℤ → List ℤ
corners_with n (Header kind) table = table
corners_with n Outer table = table
corners_with n Hole table = table
corners_with n Node table = table
corners_with n (Corner p) table = set (set table (2 * n) p.x) (2 * n + 1) p.y

-- a corner has a place
abbrev pub CornerRoom : ℕ → Record → List ℤ → Type 0
CornerRoom n (Header kind) table = Unit {0}
CornerRoom n Outer table = Unit {0}
CornerRoom n Hole table = Unit {0}
CornerRoom n Node table = Unit {0}
CornerRoom n (Corner p) table = 2 * n + 1 < length table

-- the ring table after a line, which held n rings
abbrev pub lengths_with : ℕ → Record → List ℕ → List ℕ
lengths_with n (Header kind) table = table
lengths_with n Outer table = set table n 0
lengths_with n Hole table = set table n 0
lengths_with n Node table = set table n 0
lengths_with n (Corner p) table = one_more_before n table

-- a ring has a place, and a corner a ring
abbrev pub LengthRoom : ℕ → Record → List ℕ → Type 0
LengthRoom n (Header kind) table = Unit {0}
LengthRoom n Outer table = n < length table
LengthRoom n Hole table = n < length table
LengthRoom n Node table = n < length table
LengthRoom n (Corner p) table = RoomBefore n table

-- the polygon table after a line, which held n polygons
abbrev pub counts_with : ℕ → Record → List ℕ → List ℕ
counts_with n (Header kind) table = table
counts_with n Outer table = set table n 1
counts_with n Hole table = one_more_before n table
counts_with n Node table = table
counts_with n (Corner p) table = table

-- a polygon has a place, and a hole a polygon
abbrev pub CountRoom : ℕ → Record → List ℕ → Type 0
CountRoom n (Header kind) table = Unit {0}
CountRoom n Outer table = n < length table
CountRoom n Hole table = RoomBefore n table
CountRoom n Node table = Unit {0}
CountRoom n (Corner p) table = Unit {0}
