-- Worked examples of the meaning of a text, by computing. Assumes nothing.
use mathlib.Core.Path.{◌≡◌, refl}
use mathlib.Core.List.{List, [], ◌∷◌, ◌++◌}
use Prim.Native.Nat.{ℕ}
use lib.IntN.{pos, negsuc}
use Rattle.fields.specs.Decimals.{digits_within, digits, decimal, worth, value_of, number_of}
use Rattle.fields.specs.Pieces.{split}
use Rattle.rules.specs.declared.Kind.TheVariants.{Polygons, Tree}
use Rattle.text.specs.Lines.{line_of, start_of, line_start}
use Rattle.lines.specs.Plans.{gives_meaning, broken_meaning, empty_plan, last_one_more, grown, after_lines, meaning}
use Rattle.lines.specs.Records.{one_field, two_fields, point_of, three_fields, record_of}
use Rattle.lines.specs.Words.{plan, list, tree, outer, hole, node, at}

-- lines, each ended by byte 10
abbrev pub text : List (List ℕ) → List ℕ
text [] = []
text (line ∷ lines) = line ++ 10 ∷ text lines

-- a field and a tab before others
infixr 70 ◌⇥◌
abbrev pub ◌⇥◌ : List ℕ → List ℕ → List ℕ
field ⇥ rest = field ++ 9 ∷ rest

-- "0", "7", "-3"
abbrev zero : List ℕ
zero = 48 ∷ []

abbrev seven : List ℕ
seven = 55 ∷ []

abbrev minus_three : List ℕ
minus_three = 45 ∷ 51 ∷ []

-- ---- plans

bare : meaning (text (plan ∷ [])) ≡ gives_meaning (empty_plan Polygons)
unfolding meaning after_lines grown record_of one_field split
bare = refl

listed : meaning (text (plan ⇥ list ∷ [])) ≡ gives_meaning (empty_plan Polygons)
unfolding meaning after_lines grown record_of two_fields split
listed = refl

a_tree : meaning (text (plan ⇥ tree ∷ node ∷ node ∷ [])) ≡ gives_meaning (record { kind = Tree; coordinates = []; lengths = 0 ∷ 0 ∷ []; counts = [] })
unfolding meaning after_lines grown record_of one_field two_fields split
a_tree = refl

-- a polygon of an outer ring with a corner and a hole with two, and a polygon of one empty ring
rings : meaning (text (plan ∷ outer ∷ at ⇥ zero ⇥ seven ∷ hole ∷ at ⇥ seven ⇥ minus_three ∷ at ⇥ zero ⇥ zero ∷ outer ∷ [])) ≡ gives_meaning (record { kind = Polygons; coordinates = pos 0 ∷ pos 7 ∷ pos 7 ∷ negsuc 2 ∷ pos 0 ∷ pos 0 ∷ []; lengths = 1 ∷ 2 ∷ 0 ∷ []; counts = 2 ∷ 1 ∷ [] })
unfolding meaning after_lines grown last_one_more record_of one_field three_fields point_of split number_of value_of worth decimal digits digits_within
rings = refl

-- ---- the first line that breaks a rule

empty : meaning [] ≡ broken_meaning 1
unfolding meaning after_lines split
empty = refl

unended : meaning plan ≡ broken_meaning 1
unfolding meaning after_lines split
unended = refl

last_unended : meaning (text (plan ∷ []) ++ outer) ≡ broken_meaning 2
unfolding meaning after_lines grown record_of one_field split
last_unended = refl

blank : meaning (text (plan ∷ [] ∷ outer ∷ [])) ≡ broken_meaning 2
unfolding meaning after_lines grown record_of one_field split
blank = refl

carriage_return : meaning (text ((plan ++ 13 ∷ []) ∷ [])) ≡ broken_meaning 1
unfolding meaning after_lines grown record_of one_field split
carriage_return = refl

-- "plan list" with a space, and "ring"
space : meaning (text ((plan ++ 32 ∷ list) ∷ [])) ≡ broken_meaning 1
unfolding meaning after_lines grown record_of one_field split
space = refl

unknown_word : meaning (text (plan ∷ outer ∷ (114 ∷ 105 ∷ 110 ∷ 103 ∷ []) ∷ [])) ≡ broken_meaning 3
unfolding meaning after_lines grown record_of one_field split
unknown_word = refl

trailing_tab : meaning (text (plan ⇥ [] ∷ [])) ≡ broken_meaning 1
unfolding meaning after_lines grown record_of two_fields split
trailing_tab = refl

hole_first : meaning (text (plan ∷ hole ∷ [])) ≡ broken_meaning 2
unfolding meaning after_lines grown record_of one_field split
hole_first = refl

corner_first : meaning (text (plan ∷ at ⇥ zero ⇥ zero ∷ [])) ≡ broken_meaning 2
unfolding meaning after_lines grown record_of one_field three_fields point_of split number_of value_of worth decimal digits digits_within
corner_first = refl

node_in_list : meaning (text (plan ∷ outer ∷ node ∷ hole ∷ [])) ≡ broken_meaning 3
unfolding meaning after_lines grown record_of one_field split
node_in_list = refl

outer_in_tree : meaning (text (plan ⇥ tree ∷ outer ∷ [])) ≡ broken_meaning 2
unfolding meaning after_lines grown record_of one_field two_fields split
outer_in_tree = refl

second_header : meaning (text (plan ∷ plan ∷ [])) ≡ broken_meaning 2
unfolding meaning after_lines grown record_of one_field split
second_header = refl

leading_zero : meaning (text (plan ∷ outer ∷ at ⇥ zero ⇥ (48 ∷ 49 ∷ []) ∷ [])) ≡ broken_meaning 3
unfolding meaning after_lines grown record_of one_field three_fields point_of split number_of value_of worth decimal digits digits_within
leading_zero = refl

-- ---- line k

second_line : line_of (text (plan ∷ outer ∷ [])) 2 ≡ outer
unfolding line_of split
second_line = refl

no_third_line : line_of (text (plan ∷ outer ∷ [])) 3 ≡ []
unfolding line_of split
no_third_line = refl

no_line_zero : line_of (text (plan ∷ [])) 0 ≡ []
unfolding line_of
no_line_zero = refl

unended_line : line_of (text (plan ∷ []) ++ outer) 2 ≡ outer
unfolding line_of split
unended_line = refl

-- ---- where line k starts

second_start : line_start (text (plan ∷ outer ∷ [])) 2 ≡ 5
unfolding line_start start_of split
second_start = refl

unended_start : line_start (text (plan ∷ []) ++ outer) 2 ≡ 5
unfolding line_start start_of split
unended_start = refl

after_blank_start : line_start (text ([] ∷ [] ∷ outer ∷ [])) 3 ≡ 2
unfolding line_start start_of split
after_blank_start = refl

no_fourth_start : line_start (text (plan ∷ outer ∷ [])) 4 ≡ 0
unfolding line_start start_of split
no_fourth_start = refl
