-- What a line says by its fields (document 01, item 10).
use Rattle.std.specs.Prelude.{cond, List, [], ◌∷◌, ℕ, ℤ, Option, Some, None, option_map}
use Rattle.geom.specs.declared.Point.{Point}
use Rattle.fields.specs.Bytes.{same_bytes}
use Rattle.fields.specs.Decimals.{number_of}
use Rattle.rules.specs.declared.Kind.TheVariants.{Polygons, Tree}
use Rattle.lines.specs.declared.records.Record.{Record}
use Rattle.lines.specs.declared.records.Record.TheVariants.{Header, Outer, Hole, Node, Corner}
use Rattle.lines.specs.Words.{plan, list, tree, outer, hole, node, at}

-- a line of one word; bare `plan` is a list
unfoldable pub one_field : List ℕ → Option Record
one_field word = cond (same_bytes word plan) (Some (Header Polygons)) (cond (same_bytes word outer) (Some Outer) (cond (same_bytes word hole) (Some Hole) (cond (same_bytes word node) (Some Node) None)))

-- `plan` with `list` or `tree`
unfoldable pub two_fields : List ℕ → List ℕ → Option Record
two_fields word kind = cond (same_bytes word plan) (cond (same_bytes kind list) (Some (Header Polygons)) (cond (same_bytes kind tree) (Some (Header Tree)) None)) None

-- a point, where both fields are numbers
abbrev pub point_from : Option ℤ → Option ℤ → Option Point
point_from (Some x) (Some y) = Some (record { x = x; y = y })
point_from (Some x) None = None
point_from None y = None

unfoldable pub point_of : List ℕ → List ℕ → Option Point
point_of x y = point_from (number_of x) (number_of y)

-- `at`, x, y
unfoldable pub three_fields : List ℕ → List ℕ → List ℕ → Option Record
three_fields word x y = cond (same_bytes word at) (option_map Corner (point_of x y)) None

-- by how many fields there are; `None` for a line off the format
unfoldable pub record_of : List (List ℕ) → Option Record
record_of [] = None
record_of (word ∷ []) = one_field word
record_of (word ∷ kind ∷ []) = two_fields word kind
record_of (word ∷ x ∷ y ∷ []) = three_fields word x y
record_of (word ∷ x ∷ y ∷ more ∷ fields) = None
