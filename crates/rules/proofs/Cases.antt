-- Document 01's cases P1 to P13, computed from the definitions. Assumes nothing.
use mathlib.Core.Path.{◌≡◌, refl}
use mathlib.Core.List.{map}
use Rattle.predicates.specs.Turn.{orientation, on_segment}
use Rattle.rules.specs.Cases.{cases}
use Rattle.rules.specs.Edges.{edges_from, edges_of, all_edges, edge_winding, winding, on_edge}
use Rattle.rules.specs.Lists.{any_of, count_of, sum_of, total, parts_of}
use Rattle.rules.specs.Nodes.{nodes_within, node_count}
use Rattle.rules.specs.Plans.{corners_of, rings_of, polygons_of, too_many, uneven, plan_verdict, all_in_range, plan_in_range, plan_reply, plan_half_reply}
use Rattle.rules.specs.Replies.{ring_reply, holes_reply, polygon_reply, list_reply, tree_reply, doubled_edges, half_reply}

-- every case gives what document 01 says
pub cases_hold : map (λ c. c.given) cases ≡ map (λ c. c.said) cases
unfolding cases orientation on_segment edges_from edges_of all_edges edge_winding winding on_edge any_of count_of sum_of total parts_of nodes_within node_count corners_of rings_of polygons_of too_many uneven plan_verdict all_in_range plan_in_range plan_reply plan_half_reply ring_reply holes_reply polygon_reply list_reply tree_reply doubled_edges half_reply
cases_hold = refl
