-- Wrong engines that the contracts rule out, whatever their code is. An engine meets the contract of `locate` or `locate_doubled` if
-- it answers every plan and point as that contract says. Assumes nothing.
use Rattle.std.specs.Prelude.{Err, Ok}
use mathlib.Core.Path.{◌≡◌, refl, sym, ◌∙◌, ap, subst}
use mathlib.Core.Bool.{Bool, true, false}
use mathlib.Core.List.{List, [], ◌∷◌}
use Prim.Native.Nat.{ℕ}
use lib.Dec.{T}
use lib.IntN.{ℤ, pos}
use Rattle.geom.specs.declared.Point.{Point}
use Rattle.geom.specs.Range.{in_range}
use Rattle.predicates.specs.Turn.{orientation, on_segment}
use Rattle.rules.specs.declared.Kind.{Kind}
use Rattle.rules.specs.declared.Kind.TheVariants.{Polygons}
use Rattle.rules.specs.declared.Location.{Location}
use Rattle.rules.specs.declared.Location.TheVariants.{Outside, Inside, OnBoundary}
use Rattle.rules.specs.declared.Refusal.{Refusal}
use Rattle.rules.specs.declared.Refusal.TheVariants.{Uneven}
use Rattle.rules.specs.declared.State.{State}
use Rattle.rules.specs.Edges.{edges_from, edges_of, all_edges, edge_winding, winding, on_edge}
use Rattle.rules.specs.Lists.{any_of, count_of, sum_of, total, parts_of}
use Rattle.rules.specs.Plans.{Plan, corners_of, rings_of, polygons_of, too_many, uneven, plan_verdict, all_in_range, plan_in_range, plan_reply, plan_half_reply, answer}
use Rattle.rules.specs.Replies.{ring_reply, holes_reply, polygon_reply, list_reply, doubled_edges, half_reply}
use Rattle.rules.specs.Tables.{ends_from, plan_of, PlanSound}
use Rattle.rules.proofs.Tables.{list_state, list_held, list_sound}
use Rattle.query.specs.Calls.{LookedUp}
use Rattle.outlines.proofs.Steps.{at_refused}
use Rattle.rules.specs.Answering.{Reply, Accepted}

abbrev pub Engine : Type 0
Engine = Kind → List ℤ → List ℕ → List ℕ → Point → Reply

abbrev pub plan : Kind → List ℤ → List ℕ → List ℕ → Plan
plan kind coordinates lengths counts = record { kind = kind; coordinates = coordinates; lengths = lengths; counts = counts }

-- what `locate` and `locate_doubled` ensure
abbrev pub Meets : Engine → Type 0
Meets f = (kind : Kind) (coordinates : List ℤ) (lengths counts : List ℕ) (p : Point) → f kind coordinates lengths counts p ≡ answer (plan_verdict (plan kind coordinates lengths counts)) (plan_reply (plan kind coordinates lengths counts) p)

abbrev pub MeetsDoubled : Engine → Type 0
MeetsDoubled f = (kind : Kind) (coordinates : List ℤ) (lengths counts : List ℕ) (p : Point) → f kind coordinates lengths counts p ≡ answer (plan_verdict (plan kind coordinates lengths counts)) (plan_half_reply (plan kind coordinates lengths counts) p)

-- ---- a square, gone round twice, at its middle, beside it, and torn
abbrev pub square : List ℤ
square = pos 0 ∷ pos 0 ∷ pos 10 ∷ pos 0 ∷ pos 10 ∷ pos 10 ∷ pos 0 ∷ pos 10 ∷ pos 0 ∷ pos 0 ∷ pos 10 ∷ pos 0 ∷ pos 10 ∷ pos 10 ∷ pos 0 ∷ pos 10 ∷ []

abbrev pub middle : Point
middle = record { x = pos 5; y = pos 5 }

abbrev pub doubled_middle : Point
doubled_middle = record { x = pos 10; y = pos 10 }

abbrev beside : Point
beside = record { x = pos 11; y = pos 5 }

middle_inside : answer (plan_verdict (plan Polygons square (8 ∷ []) (1 ∷ []))) (plan_reply (plan Polygons square (8 ∷ []) (1 ∷ [])) middle) ≡ Ok Inside
unfolding orientation on_segment edges_from edges_of edge_winding winding on_edge any_of sum_of total parts_of corners_of rings_of polygons_of too_many uneven plan_verdict all_in_range plan_in_range plan_reply ring_reply holes_reply polygon_reply list_reply
middle_inside = refl

beside_outside : answer (plan_verdict (plan Polygons square (8 ∷ []) (1 ∷ []))) (plan_reply (plan Polygons square (8 ∷ []) (1 ∷ [])) beside) ≡ Ok Outside
unfolding orientation on_segment edges_from edges_of edge_winding winding on_edge any_of sum_of total parts_of corners_of rings_of polygons_of too_many uneven plan_verdict all_in_range plan_in_range plan_reply ring_reply holes_reply polygon_reply list_reply
beside_outside = refl

torn_refused : (location : Location) → answer (plan_verdict (plan Polygons square (7 ∷ []) (1 ∷ []))) location ≡ Err Uneven
unfolding total too_many uneven plan_verdict
torn_refused location = refl

doubled_outside : answer (plan_verdict (plan Polygons square (8 ∷ []) (1 ∷ []))) (plan_half_reply (plan Polygons square (8 ∷ []) (1 ∷ [])) doubled_middle) ≡ Ok Outside
unfolding orientation on_segment edges_from edges_of all_edges edge_winding on_edge any_of count_of total parts_of corners_of rings_of too_many uneven plan_verdict all_in_range plan_in_range plan_half_reply doubled_edges half_reply
doubled_outside = refl

is_inside_reply : Reply → Bool
is_inside_reply (Ok Outside) = false
is_inside_reply (Ok Inside) = true
is_inside_reply (Ok OnBoundary) = false
is_inside_reply (Err refusal) = false

apart : ◌≡◌ {A = Reply} (Ok Inside) (Ok Outside) → ⊥
unfolding is_inside_reply
apart e = subst T (ap is_inside_reply e) tt

-- ---- caught
pub always_outside : (f : Engine) → Meets f → ((kind : Kind) (coordinates : List ℤ) (lengths counts : List ℕ) (p : Point) → f kind coordinates lengths counts p ≡ Ok Outside) → ⊥
always_outside f meets wrong = apart (sym middle_inside ∙ sym (meets Polygons square (8 ∷ []) (1 ∷ []) middle) ∙ wrong Polygons square (8 ∷ []) (1 ∷ []) middle)

pub one_reply_a_plan : (f : Engine) → Meets f → ((kind : Kind) (coordinates : List ℤ) (lengths counts : List ℕ) (p q : Point) → f kind coordinates lengths counts p ≡ f kind coordinates lengths counts q) → ⊥
one_reply_a_plan f meets wrong =
    apart (sym middle_inside ∙ sym (meets Polygons square (8 ∷ []) (1 ∷ []) middle) ∙ wrong Polygons square (8 ∷ []) (1 ∷ []) middle beside ∙ meets Polygons square (8 ∷ []) (1 ∷ []) beside ∙ beside_outside)

pub refusal_throughout : (f : Engine) → Meets f → ((kind : Kind) (coordinates : List ℤ) (lengths counts : List ℕ) (p : Point) → (refusal : Refusal) × (f kind coordinates lengths counts p ≡ Err refusal)) → ⊥
refusal_throughout f meets wrong =
    let w = wrong Polygons square (8 ∷ []) (1 ∷ []) middle in
    at_refused Inside w.0 (sym middle_inside ∙ sym (meets Polygons square (8 ∷ []) (1 ∷ []) middle) ∙ w.1)

pub nothing_refused : (f : Engine) → Meets f → ((kind : Kind) (coordinates : List ℤ) (lengths counts : List ℕ) (p : Point) → (location : Location) × (f kind coordinates lengths counts p ≡ Ok location)) → ⊥
nothing_refused f meets wrong =
    let w = wrong Polygons square (7 ∷ []) (1 ∷ []) middle in
    at_refused w.0 Uneven (sym w.1 ∙ meets Polygons square (7 ∷ []) (1 ∷ []) middle ∙ torn_refused _)

-- one rule for both grids: P10 parts them
pub one_rule_for_both : (f g : Engine) → Meets f → MeetsDoubled g → ((kind : Kind) (coordinates : List ℤ) (lengths counts : List ℕ) → f kind coordinates lengths counts middle ≡ g kind coordinates lengths counts doubled_middle) → ⊥
one_rule_for_both f g meets doubled same =
    apart (sym middle_inside ∙ sym (meets Polygons square (8 ∷ []) (1 ∷ []) middle) ∙ same Polygons square (8 ∷ []) (1 ∷ []) ∙ doubled Polygons square (8 ∷ []) (1 ∷ []) doubled_middle ∙ doubled_outside)

-- ---- a square with two square holes, one within the other, at a point on the lesser one's boundary: which of them comes first decides
abbrev pub lesser_first : List ℤ
lesser_first = pos 0 ∷ pos 0 ∷ pos 10 ∷ pos 0 ∷ pos 10 ∷ pos 10 ∷ pos 0 ∷ pos 10 ∷ pos 4 ∷ pos 4 ∷ pos 6 ∷ pos 4 ∷ pos 6 ∷ pos 6 ∷ pos 4 ∷ pos 6 ∷ pos 3 ∷ pos 3 ∷ pos 7 ∷ pos 3 ∷ pos 7 ∷ pos 7 ∷ pos 3 ∷ pos 7 ∷ []

abbrev pub greater_first : List ℤ
greater_first = pos 0 ∷ pos 0 ∷ pos 10 ∷ pos 0 ∷ pos 10 ∷ pos 10 ∷ pos 0 ∷ pos 10 ∷ pos 3 ∷ pos 3 ∷ pos 7 ∷ pos 3 ∷ pos 7 ∷ pos 7 ∷ pos 3 ∷ pos 7 ∷ pos 4 ∷ pos 4 ∷ pos 6 ∷ pos 4 ∷ pos 6 ∷ pos 6 ∷ pos 4 ∷ pos 6 ∷ []

abbrev pub rim : Point
rim = record { x = pos 4; y = pos 5 }

lesser_decides : answer (plan_verdict (plan Polygons lesser_first (4 ∷ 4 ∷ 4 ∷ []) (3 ∷ []))) (plan_reply (plan Polygons lesser_first (4 ∷ 4 ∷ 4 ∷ []) (3 ∷ [])) rim) ≡ Ok OnBoundary
unfolding orientation on_segment edges_from edges_of edge_winding winding on_edge any_of sum_of total parts_of corners_of rings_of polygons_of too_many uneven plan_verdict all_in_range plan_in_range plan_reply ring_reply holes_reply polygon_reply list_reply
lesser_decides = refl

greater_decides : answer (plan_verdict (plan Polygons greater_first (4 ∷ 4 ∷ 4 ∷ []) (3 ∷ []))) (plan_reply (plan Polygons greater_first (4 ∷ 4 ∷ 4 ∷ []) (3 ∷ [])) rim) ≡ Ok Outside
unfolding orientation on_segment edges_from edges_of edge_winding winding on_edge any_of sum_of total parts_of corners_of rings_of polygons_of too_many uneven plan_verdict all_in_range plan_in_range plan_reply ring_reply holes_reply polygon_reply list_reply
greater_decides = refl

is_outside_reply : Reply → Bool
is_outside_reply (Ok Outside) = true
is_outside_reply (Ok Inside) = false
is_outside_reply (Ok OnBoundary) = false
is_outside_reply (Err refusal) = false

not_outside : ◌≡◌ {A = Reply} (Ok Outside) (Ok OnBoundary) → ⊥
unfolding is_outside_reply
not_outside e = subst T (ap is_outside_reply e) tt

-- holes read backwards, a later hole that overrides the first that decides, or holes taken as a set: each of these answers the one
-- order as the rule answers the other
pub hole_order_ignored : (f : Engine) → Meets f → f Polygons lesser_first (4 ∷ 4 ∷ 4 ∷ []) (3 ∷ []) rim ≡ f Polygons greater_first (4 ∷ 4 ∷ 4 ∷ []) (3 ∷ []) rim → ⊥
hole_order_ignored f meets same =
    not_outside (sym greater_decides ∙ sym (meets Polygons greater_first (4 ∷ 4 ∷ 4 ∷ []) (3 ∷ []) rim) ∙ sym same ∙ meets Polygons lesser_first (4 ∷ 4 ∷ 4 ∷ []) (3 ∷ []) rim ∙ lesser_decides)

pub holes_backwards : (f : Engine) → Meets f → f Polygons lesser_first (4 ∷ 4 ∷ 4 ∷ []) (3 ∷ []) rim ≡ answer (plan_verdict (plan Polygons greater_first (4 ∷ 4 ∷ 4 ∷ []) (3 ∷ []))) (plan_reply (plan Polygons greater_first (4 ∷ 4 ∷ 4 ∷ []) (3 ∷ [])) rim) → ⊥
holes_backwards f meets wrong = hole_order_ignored f meets (wrong ∙ sym (meets Polygons greater_first (4 ∷ 4 ∷ 4 ∷ []) (3 ∷ []) rim))

-- ---- outer rings alone on the half-grid: a square with one hole at the hole's middle, and the same square without it
abbrev pub outer_ring : List ℤ
outer_ring = pos 0 ∷ pos 0 ∷ pos 10 ∷ pos 0 ∷ pos 10 ∷ pos 10 ∷ pos 0 ∷ pos 10 ∷ []

abbrev pub with_hole : List ℤ
with_hole = pos 0 ∷ pos 0 ∷ pos 10 ∷ pos 0 ∷ pos 10 ∷ pos 10 ∷ pos 0 ∷ pos 10 ∷ pos 4 ∷ pos 4 ∷ pos 6 ∷ pos 4 ∷ pos 6 ∷ pos 6 ∷ pos 4 ∷ pos 6 ∷ []

outer_inside : answer (plan_verdict (plan Polygons outer_ring (4 ∷ []) (1 ∷ []))) (plan_half_reply (plan Polygons outer_ring (4 ∷ []) (1 ∷ [])) doubled_middle) ≡ Ok Inside
unfolding orientation on_segment edges_from edges_of all_edges edge_winding on_edge any_of count_of total parts_of corners_of rings_of too_many uneven plan_verdict all_in_range plan_in_range plan_half_reply doubled_edges half_reply
outer_inside = refl

hole_outside : answer (plan_verdict (plan Polygons with_hole (4 ∷ 4 ∷ []) (2 ∷ []))) (plan_half_reply (plan Polygons with_hole (4 ∷ 4 ∷ []) (2 ∷ [])) doubled_middle) ≡ Ok Outside
unfolding orientation on_segment edges_from edges_of all_edges edge_winding on_edge any_of count_of total parts_of corners_of rings_of too_many uneven plan_verdict all_in_range plan_in_range plan_half_reply doubled_edges half_reply
hole_outside = refl

pub outers_alone : (f : Engine) → MeetsDoubled f → f Polygons with_hole (4 ∷ 4 ∷ []) (2 ∷ []) doubled_middle ≡ f Polygons outer_ring (4 ∷ []) (1 ∷ []) doubled_middle → ⊥
outers_alone f meets same =
    apart (sym outer_inside ∙ sym (meets Polygons outer_ring (4 ∷ []) (1 ∷ []) doubled_middle) ∙ sym same ∙ meets Polygons with_hole (4 ∷ 4 ∷ []) (2 ∷ []) doubled_middle ∙ hole_outside)

-- ---- the calls over prepared tables: the square's tables are sound, and the answer at its middle is inside, not 15 and not outside
abbrev pub square_plan : Plan
square_plan = plan Polygons square (8 ∷ []) (1 ∷ [])

accepted : plan_verdict square_plan ≡ Accepted
unfolding any_of total too_many uneven plan_verdict
accepted = refl

near : plan_in_range square_plan ≡ true
unfolding any_of corners_of all_in_range plan_in_range
near = refl

inside : plan_reply square_plan middle ≡ Inside
unfolding orientation on_segment edges_from edges_of edge_winding winding on_edge any_of sum_of parts_of corners_of rings_of polygons_of all_in_range plan_in_range plan_reply ring_reply holes_reply polygon_reply list_reply
inside = refl

pub tables_answer : (r : Reply)
    → LookedUp (list_state square_plan) square (ends_from 0 (8 ∷ [])) (ends_from 0 (1 ∷ [])) (in_range middle) (plan_reply (plan_of (list_state square_plan) square (ends_from 0 (8 ∷ [])) (ends_from 0 (1 ∷ []))) middle) r
    → r ≡ Ok Inside
tables_answer r looked =
    looked.exact (list_sound square (8 ∷ []) (1 ∷ []) accepted near) refl
    ∙ ap (λ held. Ok (plan_reply held middle)) (list_held square (8 ∷ []) (1 ∷ []) accepted)
    ∙ ap Ok inside

-- ---- sound tables never get 15, and nothing else is ever refused
pub sound_never_refused : (state : State) (corners : List ℤ) (rings polygons : List ℕ) (ranged : Bool) (location : Location) (r : Reply) (refusal : Refusal)
    → LookedUp state corners rings polygons ranged location r → PlanSound state corners rings polygons → state.out_of_range ≡ false → r ≡ Err refusal → ⊥
sound_never_refused state corners rings polygons ranged location r refusal looked sound in_range_lem e = at_refused location refusal (sym (looked.exact sound in_range_lem) ∙ e)
