-- From a plan that passes refusals 4 and 3, or tables that are sound, to entries that fit; and from the flags of the calls to their
-- replies. Assumes nothing.
use mathlib.Core.Path.{◌≡◌, refl, sym, ◌∙◌, ap, ap₂}
use mathlib.Core.Bool.{Bool, true, false, not, cond, ◌&&◌, ◌||◌}
use mathlib.Core.List.{List, [], ◌∷◌, map}
use Prim.Native.Nat.{ℕ, zero, suc, ◌+◌, ◌-◌, ◌*◌}
use native.Mathlib.Omega.{arith}
use lib.IntN.{ℤ}
use lib.ListN.{length, take, drop}
use Rattle.integers.proofs.Tests.{not_true}
use Rattle.geom.specs.declared.Point.{Point}
use Rattle.geom.specs.Range.{in_range, in_doubled_range}
use Rattle.rules.specs.declared.Kind.{Kind}
use Rattle.rules.specs.declared.Kind.TheVariants.{Polygons, Tree}
use Rattle.rules.specs.declared.Location.TheVariants.{Outside, Inside, OnBoundary}
use Rattle.rules.specs.declared.Spot.{Spot}
use Rattle.rules.specs.declared.Spot.TheVariants.{OnGrid, Doubled}
use Rattle.rules.specs.declared.State.{State}
use Rattle.rules.specs.Edges.{all_edges, on_edge}
use Rattle.rules.specs.Lists.{any_of, count_of, parts_of, total, is_odd}
use Rattle.rules.specs.Plans.{Plan, corners_of, rings_of, polygons_of, plan_verdict, all_in_range, plan_in_range, kind_reply, plan_reply, plan_half_reply}
use Rattle.rules.specs.Spots.{spot_in_range, near_reply, spot_reply}
use Rattle.rules.specs.Replies.{crosses, doubled, doubled_edges, half_reply, list_reply, tree_reply}
use Rattle.rules.specs.Tables.{ends_from, lengths_from, polygons_in, plan_of, PlanSound}
use Rattle.rules.proofs.Corners.{near_first}
use Rattle.rules.proofs.Verdicts.{even}
use Rattle.outlines.specs.declared.rows.Form.{Form}
use Rattle.outlines.specs.declared.rows.Form.TheVariants.{Lengths, Ends}
use Rattle.query.specs.Calls.{plan_by, Fitting}
use Rattle.rings.specs.Half.{near_doubled}
use Rattle.outlines.specs.Shapes.{half_near}
use Rattle.outlines.specs.Rows.{lengths_by, Within, parts_from}
use Rattle.rules.specs.Answering.{Accepted}

-- ---- sums that come out let every entry fit
pub fits_lengths : (limit start : ℕ) (table : List ℕ) → start + total table ≡ limit → Within Lengths limit start table
unfolding Within total
fits_lengths limit start [] e = omega arith
fits_lengths limit start (n ∷ table) e = (omega arith, fits_lengths limit (start + n) table (omega arith))

head : ℕ → List ℕ → ℕ
head d [] = d
head d (x ∷ xs) = x

tail : List ℕ → List ℕ
tail [] = []
tail (x ∷ xs) = xs

pub fits_ends : (limit start : ℕ) (table : List ℕ) → ends_from start (lengths_from start table) ≡ table → start + total (lengths_from start table) ≡ limit → Within Ends limit start table
unfolding Within total ends_from lengths_from head tail
fits_ends limit start [] ends e = omega arith
fits_ends limit start (end ∷ table) ends e =
    let here : start + (end - start) ≡ end = ap (head 0) ends in
    let rest : ends_from end (lengths_from end table) ≡ table = ap (λ s. ends_from s (lengths_from end table)) (sym here) ∙ ap tail ends in
    (omega arith, fits_ends limit end table rest (omega arith))

pub lengths_length : (start : ℕ) (table : List ℕ) → length (lengths_from start table) ≡ length table
unfolding lengths_from
lengths_length start [] = refl
lengths_length start (end ∷ table) = ap suc (lengths_length end table)

-- ---- what is accepted, or sound, fits
pub accepted_fits : (plan : Plan) → plan_verdict plan ≡ Accepted → Fitting Lengths plan.kind plan.coordinates plan.lengths plan.counts
accepted_fits plan e =
    let h = even plan e in
    record { by_ring = fits_lengths _ 0 plan.lengths (omega (arith, h.corners)); by_polygon = λ list. fits_lengths _ 0 plan.counts (omega (arith, h.rings list)) }

pub sound_fits : (state : State) (corners : List ℤ) (rings polygons : List ℕ) → PlanSound state corners rings polygons
    → Fitting Ends state.kind (take (2 * state.corners) corners) (take state.rings rings) (take (polygons_in state.kind state.polygons) polygons)
unfolding plan_of
sound_fits state corners rings polygons s =
    let h = even (plan_of state corners rings polygons) s.passes in
    record {
      by_ring = fits_ends _ 0 (take state.rings rings) s.ring_ends (omega (arith, h.corners));
      by_polygon = λ list. fits_ends _ 0 (take (polygons_in state.kind state.polygons) polygons) s.polygon_ends (omega (arith, h.rings list, lengths_length 0 (take state.rings rings)));
    }

-- ---- the replies of either form are the plan's
pub list_is : (form : Form) (coordinates : List ℤ) (rings polygons : List ℕ) (p : Point) → list_reply (parts_from form (parts_from form (corners_of coordinates) 0 rings) 0 polygons) p ≡ kind_reply Polygons (plan_by form Polygons coordinates rings polygons) p
unfolding parts_from rings_of polygons_of
list_is form coordinates rings polygons p = refl

pub tree_is : (form : Form) (coordinates : List ℤ) (rings polygons : List ℕ) (p : Point) → tree_reply (parts_from form (corners_of coordinates) 0 rings) p ≡ kind_reply Tree (plan_by form Tree coordinates rings polygons) p
unfolding parts_from rings_of
tree_is form coordinates rings polygons p = refl

-- ---- corners in range are doubled
doubled_all : (corners : List Point) → all_in_range corners ≡ true → map near_doubled corners ≡ map doubled corners
doubled_all [] e = refl
doubled_all (corner ∷ corners) e = let h = near_first corner corners e in
    ap₂ ◌∷◌ (ap (λ t. cond t (doubled corner) corner) h.0) (doubled_all corners h.1)

near_take : (n : ℕ) (corners : List Point) → all_in_range corners ≡ true → all_in_range (take n corners) ≡ true
unfolding all_in_range any_of
near_take zero corners e = refl
near_take (suc n) [] e = refl
near_take (suc n) (corner ∷ corners) e = let h = near_first corner corners e in
    let rest : any_of (λ c. not (in_range c)) (take n corners) ≡ false = not_true _ (near_take n corners h.1) in
    λ i. not (not (h.0 i) || rest i)

near_drop : (n : ℕ) (corners : List Point) → all_in_range corners ≡ true → all_in_range (drop n corners) ≡ true
near_drop zero corners e = e
near_drop (suc n) [] e = e
near_drop (suc n) (corner ∷ corners) e = near_drop n corners (near_first corner corners e).1

rings_doubled : (lengths : List ℕ) (corners : List Point) → all_in_range corners ≡ true → map (map near_doubled) (parts_of lengths corners) ≡ map (map doubled) (parts_of lengths corners)
unfolding parts_of
rings_doubled [] corners e = refl
rings_doubled (n ∷ lengths) corners e = ap₂ ◌∷◌ (doubled_all (take n corners) (near_take n corners e)) (rings_doubled lengths (drop n corners) (near_drop n corners e))

pub half_is : (form : Form) (kind : Kind) (coordinates : List ℤ) (rings polygons : List ℕ) (p : Point) → plan_in_range (plan_by form kind coordinates rings polygons) ≡ true
    → half_near (parts_from form (corners_of coordinates) 0 rings) p ≡ half_reply (rings_of (plan_by form kind coordinates rings polygons)) p
unfolding half_near half_reply doubled_edges parts_from rings_of plan_in_range
half_is form kind coordinates rings polygons p near =
    ap (λ rings. cond (on_edge (all_edges rings) p) OnBoundary (cond (is_odd (count_of (λ e. crosses e p) (all_edges rings))) Inside Outside)) (rings_doubled (lengths_by form 0 rings) (corners_of coordinates) near)

-- ---- by the tests of the calls
pub located : (plan : Plan) (p : Point) (near ranged : Bool) → plan_in_range plan ≡ near → in_range p ≡ ranged → plan_reply plan p ≡ cond (near && ranged) (kind_reply plan.kind plan p) Outside
unfolding plan_reply
located plan p near ranged e f = λ i. cond (e i && f i) (kind_reply plan.kind plan p) Outside

pub half_located : (plan : Plan) (p : Point) (near ranged : Bool) → plan_in_range plan ≡ near → in_doubled_range p ≡ ranged → plan_half_reply plan p ≡ cond (near && ranged) (half_reply (rings_of plan) p) Outside
unfolding plan_half_reply
half_located plan p near ranged e f = λ i. cond (e i && f i) (half_reply (rings_of plan) p) Outside

pub spot_located : (plan : Plan) (spot : Spot) (near ranged : Bool) → plan_in_range plan ≡ near → spot_in_range spot ≡ ranged → spot_reply plan spot ≡ cond (near && ranged) (near_reply plan spot) Outside
spot_located plan (OnGrid p) near ranged e f = located plan p near ranged e f
spot_located plan (Doubled p) near ranged e f = half_located plan p near ranged e f
