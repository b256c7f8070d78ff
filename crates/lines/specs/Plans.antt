-- The meaning of a text: each line in turn carries the plan on, or is the first that breaks a rule (document 01, item 10).
use Rattle.std.specs.Prelude.{Bool, true, false, not, cond, ◌&&◌, List, [], ◌∷◌, ◌++◌, ℕ, suc, ltb, length, Option, Some, None}
use Rattle.fields.specs.Pieces.{split}
use Rattle.rules.specs.declared.Kind.{Kind}
use Rattle.rules.specs.declared.Kind.TheVariants.{Polygons}
use Rattle.rules.specs.Plans.{Plan, is_list, corner_count}
use Rattle.lines.specs.declared.records.Record.{Record}
use Rattle.lines.specs.declared.records.Record.TheVariants.{Header, Outer, Hole, Node, Corner}
use Rattle.lines.specs.declared.Size.{Size}
use Rattle.lines.specs.Records.{record_of}

-- a plan's kind and how many corners, rings and polygons it has; a tree has no polygons
abbrev pub size_of : Plan → Size
size_of plan = record { kind = plan.kind; corners = corner_count plan; rings = length plan.lengths; polygons = length plan.counts }

-- ---- what a line adds

-- a plan with nothing in it
abbrev pub empty_plan : Kind → Plan
empty_plan kind = record { kind = kind; coordinates = []; lengths = []; counts = [] }

-- the last of a list of numbers, one more
unfoldable pub last_one_more : List ℕ → List ℕ
last_one_more [] = []
last_one_more (n ∷ []) = suc n ∷ []
last_one_more (n ∷ m ∷ ns) = n ∷ last_one_more (m ∷ ns)

-- the words open a ring, of no corners yet; a hole's ring counts for the last polygon, a corner for the last ring
unfoldable pub grown : Plan → Record → Plan
grown plan (Header kind) = empty_plan kind
grown plan Outer = record { kind = plan.kind; coordinates = plan.coordinates; lengths = plan.lengths ++ 0 ∷ []; counts = plan.counts ++ 1 ∷ [] }
grown plan Hole = record { kind = plan.kind; coordinates = plan.coordinates; lengths = plan.lengths ++ 0 ∷ []; counts = last_one_more plan.counts }
grown plan Node = record { kind = plan.kind; coordinates = plan.coordinates; lengths = plan.lengths ++ 0 ∷ []; counts = plan.counts }
grown plan (Corner p) = record { kind = plan.kind; coordinates = plan.coordinates ++ p.x ∷ p.y ∷ []; lengths = last_one_more plan.lengths; counts = plan.counts }

-- ---- which lines may come

-- the first line is the header
abbrev pub is_header : Record → Bool
is_header (Header kind) = true
is_header Outer = false
is_header Hole = false
is_header Node = false
is_header (Corner p) = false

-- after it: `outer` and `hole` in lists, `node` in trees; a hole needs an earlier outer, a corner an open ring
abbrev pub allowed : Size → Record → Bool
allowed so_far (Header kind) = false
allowed so_far Outer = is_list so_far.kind
allowed so_far Hole = is_list so_far.kind && ltb 0 so_far.polygons
allowed so_far Node = not (is_list so_far.kind)
allowed so_far (Corner p) = ltb 0 so_far.rings

-- ---- line by line

-- before the first line; the plan that the lines so far give; or the first line that breaks a rule
pub data Meaning : Type 0 where
  start_meaning : Meaning
  gives_meaning : Plan → Meaning
  broken_meaning : ℕ → Meaning

-- line k, ended by byte 10, by what it says; a line off the format breaks a rule
abbrev pub after_line : ℕ → Meaning → Option Record → Meaning
after_line k start_meaning (Some line) = cond (is_header line) (gives_meaning (grown (empty_plan Polygons) line)) (broken_meaning k)
after_line k start_meaning None = broken_meaning k
after_line k (gives_meaning plan) (Some line) = cond (allowed (size_of plan) line) (gives_meaning (grown plan line)) (broken_meaning k)
after_line k (gives_meaning plan) None = broken_meaning k
after_line k (broken_meaning j) line = broken_meaning j

-- what stands after the last line end: nothing, or an unended line k, which breaks a rule; so does a text without a header
abbrev pub at_end : ℕ → Meaning → List ℕ → Meaning
at_end k start_meaning last = broken_meaning k
at_end k (gives_meaning plan) [] = gives_meaning plan
at_end k (gives_meaning plan) (x ∷ xs) = broken_meaning k
at_end k (broken_meaning j) last = broken_meaning j

-- the lines from line k on; the last piece is what stands after the last line end
unfoldable pub after_lines : ℕ → Meaning → List (List ℕ) → Meaning
after_lines k so_far [] = so_far
after_lines k so_far (last ∷ []) = at_end k so_far last
after_lines k so_far (line ∷ next ∷ lines) = after_lines (suc k) (after_line k so_far (record_of (split 9 line))) (next ∷ lines)

-- lines are parted by byte 10 and counted from 1, fields are parted by byte 9
unfoldable pub meaning : List ℕ → Meaning
meaning text = after_lines 1 start_meaning (split 10 text)
