-- Worked examples of the whole, by computing. Assumes nothing.
use mathlib.Core.Path.{◌≡◌, refl}
use mathlib.Core.List.{List, [], ◌∷◌, ◌++◌}
use Prim.Native.Nat.{ℕ, ◌<◌}
use lib.ListN.{length, replicate}
use Rattle.fields.specs.Decimals.{digits_within, digits, decimal, worth, value_of, number_of}
use Rattle.fields.specs.Pieces.{split}
use Rattle.predicates.specs.Turn.{orientation, on_segment}
use Rattle.rules.specs.Edges.{edges_from, edges_of, all_edges, edge_winding, winding, on_edge}
use Rattle.rules.specs.Lists.{any_of, count_of, sum_of, total, parts_of}
use Rattle.rules.specs.Plans.{corners_of, rings_of, polygons_of, all_in_range, plan_in_range, plan_reply, plan_half_reply}
use Rattle.rules.specs.Replies.{ring_reply, holes_reply, polygon_reply, list_reply, tree_reply, doubled_edges, half_reply}
use Rattle.lines.specs.Plans.{last_one_more, grown, after_lines, meaning}
use Rattle.lines.specs.Records.{one_field, two_fields, point_of, three_fields, record_of}
use Rattle.lines.specs.Words.{plan, list, outer, hole, at}
use Rattle.asked.specs.Queries.{word_query, query_of, asks}
use Rattle.answers.specs.Replies.{replies}
use Rattle.answers.specs.Answers.{plan_text, after_plan, answered}
use Rattle.asked.specs.Words.{grid_word, half_word}
use Rattle.answers.specs.Words.{inside, outside, boundary, refused}
use Rattle.answers.proofs.Outcomes.{long_input}

-- lines, each ended by byte 10
abbrev pub lines : List (List ℕ) → List ℕ
lines [] = []
lines (line ∷ rest) = line ++ (10 ∷ lines rest)

-- a field and a tab before others
infixr 70 ◌⇥◌
abbrev pub ◌⇥◌ : List ℕ → List ℕ → List ℕ
field ⇥ rest = field ++ (9 ∷ rest)

-- "0", "1", "2", "4", "5", "6", "10"
abbrev pub n0 : List ℕ
n0 = 48 ∷ []

abbrev pub n1 : List ℕ
n1 = 49 ∷ []

abbrev pub n2 : List ℕ
n2 = 50 ∷ []

abbrev pub n4 : List ℕ
n4 = 52 ∷ []

abbrev pub n5 : List ℕ
n5 = 53 ∷ []

abbrev pub n6 : List ℕ
n6 = 54 ∷ []

abbrev pub n10 : List ℕ
n10 = 49 ∷ 48 ∷ []

-- document 01's plan: a square with a square hole
abbrev square : List (List ℕ)
square = plan ⇥ list ∷ outer ∷ at ⇥ n0 ⇥ n0 ∷ at ⇥ n10 ⇥ n0 ∷ at ⇥ n10 ⇥ n10 ∷ at ⇥ n0 ⇥ n10 ∷ hole ∷ at ⇥ n4 ⇥ n4 ∷ at ⇥ n6 ⇥ n4 ∷ at ⇥ n6 ⇥ n6 ∷ at ⇥ n4 ⇥ n6 ∷ []

-- document 01's input and output, whole
abbrev pub worked : List ℕ
worked = lines square ++ lines (grid_word ⇥ n5 ⇥ n5 ∷ grid_word ⇥ n4 ⇥ n5 ∷ grid_word ⇥ n1 ⇥ n5 ∷ [])

abbrev pub worked_output : List ℕ
worked_output = lines (grid_word ⇥ n5 ⇥ n5 ⇥ outside ∷ grid_word ⇥ n4 ⇥ n5 ⇥ boundary ∷ grid_word ⇥ n1 ⇥ n5 ⇥ inside ∷ [])

pub worked_answered : answered worked ≡ worked_output
unfolding answered plan_text after_plan replies asks query_of word_query point_of meaning after_lines grown last_one_more record_of one_field two_fields three_fields split number_of value_of worth decimal digits digits_within orientation on_segment edges_from edges_of all_edges edge_winding winding on_edge any_of count_of sum_of total parts_of corners_of rings_of polygons_of all_in_range plan_in_range plan_reply plan_half_reply ring_reply holes_reply polygon_reply list_reply tree_reply doubled_edges half_reply
worked_answered = refl

-- the last two the other way round
abbrev pub turned : List ℕ
turned = lines square ++ lines (grid_word ⇥ n1 ⇥ n5 ∷ grid_word ⇥ n5 ⇥ n5 ∷ [])

pub turned_answered : answered turned ≡ lines (grid_word ⇥ n1 ⇥ n5 ⇥ inside ∷ grid_word ⇥ n5 ⇥ n5 ⇥ outside ∷ [])
unfolding answered plan_text after_plan replies asks query_of word_query point_of meaning after_lines grown last_one_more record_of one_field two_fields three_fields split number_of value_of worth decimal digits digits_within orientation on_segment edges_from edges_of all_edges edge_winding winding on_edge any_of count_of sum_of total parts_of corners_of rings_of polygons_of all_in_range plan_in_range plan_reply plan_half_reply ring_reply holes_reply polygon_reply list_reply tree_reply doubled_edges half_reply
turned_answered = refl

-- on the half-grid: doubled (1, 1) is inside, doubled (10, 10) in the hole
on_half_grid : answered (lines square ++ lines (half_word ⇥ n1 ⇥ n1 ∷ half_word ⇥ n10 ⇥ n10 ∷ [])) ≡ lines (half_word ⇥ n1 ⇥ n1 ⇥ inside ∷ half_word ⇥ n10 ⇥ n10 ⇥ outside ∷ [])
unfolding answered plan_text after_plan replies asks query_of word_query point_of meaning after_lines grown last_one_more record_of one_field two_fields three_fields split number_of value_of worth decimal digits digits_within orientation on_segment edges_from edges_of all_edges edge_winding winding on_edge any_of count_of sum_of total parts_of corners_of rings_of polygons_of all_in_range plan_in_range plan_reply plan_half_reply ring_reply holes_reply polygon_reply list_reply tree_reply doubled_edges half_reply
on_half_grid = refl

-- ---- refusals

-- `refused`, number, line
abbrev pub refusal : List ℕ → List ℕ → List ℕ
refusal number line = lines (refused ⇥ number ⇥ line ∷ [])

-- 1, whatever the input says
pub too_long : (input : List ℕ) → 16384 < length input → answered input ≡ refusal n1 n0
unfolding digits digits_within
too_long input h = long_input input h

-- nothing, and a query before any plan
no_input : answered [] ≡ refusal n2 n1
unfolding answered plan_text after_plan replies asks query_of word_query point_of meaning after_lines grown last_one_more record_of one_field two_fields three_fields split number_of value_of worth decimal digits digits_within orientation on_segment edges_from edges_of all_edges edge_winding winding on_edge any_of count_of sum_of total parts_of corners_of rings_of polygons_of all_in_range plan_in_range plan_reply plan_half_reply ring_reply holes_reply polygon_reply list_reply tree_reply doubled_edges half_reply
no_input = refl

no_plan : answered (lines (grid_word ⇥ n0 ⇥ n0 ∷ [])) ≡ refusal n2 n1
unfolding answered plan_text after_plan replies asks query_of word_query point_of meaning after_lines grown last_one_more record_of one_field two_fields three_fields split number_of value_of worth decimal digits digits_within orientation on_segment edges_from edges_of all_edges edge_winding winding on_edge any_of count_of sum_of total parts_of corners_of rings_of polygons_of all_in_range plan_in_range plan_reply plan_half_reply ring_reply holes_reply polygon_reply list_reply tree_reply doubled_edges half_reply
no_plan = refl

-- a plan and no query
pub no_query : answered (lines (plan ∷ [])) ≡ []
unfolding answered plan_text after_plan replies asks query_of word_query point_of meaning after_lines grown last_one_more record_of one_field two_fields three_fields split number_of value_of worth decimal digits digits_within orientation on_segment edges_from edges_of all_edges edge_winding winding on_edge any_of count_of sum_of total parts_of corners_of rings_of polygons_of all_in_range plan_in_range plan_reply plan_half_reply ring_reply holes_reply polygon_reply list_reply tree_reply doubled_edges half_reply
no_query = refl

plan_unended : answered (lines (plan ∷ []) ++ outer) ≡ refusal n2 n2
unfolding answered plan_text after_plan replies asks query_of word_query point_of meaning after_lines grown last_one_more record_of one_field two_fields three_fields split number_of value_of worth decimal digits digits_within orientation on_segment edges_from edges_of all_edges edge_winding winding on_edge any_of count_of sum_of total parts_of corners_of rings_of polygons_of all_in_range plan_in_range plan_reply plan_half_reply ring_reply holes_reply polygon_reply list_reply tree_reply doubled_edges half_reply
plan_unended = refl

-- a reply stands before a refusal, whose line counts from the input's first, and nothing comes after it
pub stops : answered (lines (plan ∷ grid_word ⇥ n0 ⇥ n0 ∷ grid_word ⇥ n0 ∷ grid_word ⇥ n0 ⇥ n0 ∷ [])) ≡ lines (grid_word ⇥ n0 ⇥ n0 ⇥ outside ∷ []) ++ refusal n2 (51 ∷ [])
unfolding answered plan_text after_plan replies asks query_of word_query point_of meaning after_lines grown last_one_more record_of one_field two_fields three_fields split number_of value_of worth decimal digits digits_within orientation on_segment edges_from edges_of all_edges edge_winding winding on_edge any_of count_of sum_of total parts_of corners_of rings_of polygons_of all_in_range plan_in_range plan_reply plan_half_reply ring_reply holes_reply polygon_reply list_reply tree_reply doubled_edges half_reply
stops = refl

-- a query's word alone ends the plan
word_alone : answered (lines (plan ∷ half_word ∷ outer ∷ [])) ≡ refusal n2 n2
unfolding answered plan_text after_plan replies asks query_of word_query point_of meaning after_lines grown last_one_more record_of one_field two_fields three_fields split number_of value_of worth decimal digits digits_within orientation on_segment edges_from edges_of all_edges edge_winding winding on_edge any_of count_of sum_of total parts_of corners_of rings_of polygons_of all_in_range plan_in_range plan_reply plan_half_reply ring_reply holes_reply polygon_reply list_reply tree_reply doubled_edges half_reply
word_alone = refl

-- after the first query a line of the plan, a blank one and an unended one
plan_line : answered (lines (plan ∷ grid_word ⇥ n0 ⇥ n0 ∷ outer ∷ [])) ≡ lines (grid_word ⇥ n0 ⇥ n0 ⇥ outside ∷ []) ++ refusal n2 (51 ∷ [])
unfolding answered plan_text after_plan replies asks query_of word_query point_of meaning after_lines grown last_one_more record_of one_field two_fields three_fields split number_of value_of worth decimal digits digits_within orientation on_segment edges_from edges_of all_edges edge_winding winding on_edge any_of count_of sum_of total parts_of corners_of rings_of polygons_of all_in_range plan_in_range plan_reply plan_half_reply ring_reply holes_reply polygon_reply list_reply tree_reply doubled_edges half_reply
plan_line = refl

blank_line : answered (lines (plan ∷ grid_word ⇥ n0 ⇥ n0 ∷ [] ∷ [])) ≡ lines (grid_word ⇥ n0 ⇥ n0 ⇥ outside ∷ []) ++ refusal n2 (51 ∷ [])
unfolding answered plan_text after_plan replies asks query_of word_query point_of meaning after_lines grown last_one_more record_of one_field two_fields three_fields split number_of value_of worth decimal digits digits_within orientation on_segment edges_from edges_of all_edges edge_winding winding on_edge any_of count_of sum_of total parts_of corners_of rings_of polygons_of all_in_range plan_in_range plan_reply plan_half_reply ring_reply holes_reply polygon_reply list_reply tree_reply doubled_edges half_reply
blank_line = refl

query_unended : answered (lines (plan ∷ grid_word ⇥ n0 ⇥ n0 ∷ []) ++ grid_word ⇥ n0 ⇥ n0) ≡ lines (grid_word ⇥ n0 ⇥ n0 ⇥ outside ∷ []) ++ refusal n2 (51 ∷ [])
unfolding answered plan_text after_plan replies asks query_of word_query point_of meaning after_lines grown last_one_more record_of one_field two_fields three_fields split number_of value_of worth decimal digits digits_within orientation on_segment edges_from edges_of all_edges edge_winding winding on_edge any_of count_of sum_of total parts_of corners_of rings_of polygons_of all_in_range plan_in_range plan_reply plan_half_reply ring_reply holes_reply polygon_reply list_reply tree_reply doubled_edges half_reply
query_unended = refl

-- 11 for 257 rings, with no line, and before it 2 for a line of the plan
pub too_many_lem : answered (lines (plan ∷ replicate 257 outer)) ≡ refusal (49 ∷ 49 ∷ []) n0
unfolding answered plan_text after_plan replies asks query_of word_query point_of meaning after_lines grown last_one_more record_of one_field two_fields three_fields split number_of value_of worth decimal digits digits_within orientation on_segment edges_from edges_of all_edges edge_winding winding on_edge any_of count_of sum_of total parts_of corners_of rings_of polygons_of all_in_range plan_in_range plan_reply plan_half_reply ring_reply holes_reply polygon_reply list_reply tree_reply doubled_edges half_reply
too_many_lem = refl

pub two_first : answered (lines (plan ∷ replicate 257 outer) ++ lines (list ∷ [])) ≡ refusal n2 (50 ∷ 53 ∷ 57 ∷ [])
unfolding answered plan_text after_plan replies asks query_of word_query point_of meaning after_lines grown last_one_more record_of one_field two_fields three_fields split number_of value_of worth decimal digits digits_within orientation on_segment edges_from edges_of all_edges edge_winding winding on_edge any_of count_of sum_of total parts_of corners_of rings_of polygons_of all_in_range plan_in_range plan_reply plan_half_reply ring_reply holes_reply polygon_reply list_reply tree_reply doubled_edges half_reply
two_first = refl
