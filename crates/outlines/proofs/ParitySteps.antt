-- Even-odd, ring after ring: the parity so far and the rings still to come make up the whole. Assumes nothing.
use mathlib.Core.Path.{◌≡◌, refl, sym, ◌∙◌, ap, ap₂}
use mathlib.Core.Bool.{Bool, true, false, not, beq, cond, ◌||◌}
use mathlib.Core.List.{List, [], ◌∷◌, ◌++◌, map}
use Prim.Native.Nat.{suc}
use lib.IntN.{ℤ}
use Rattle.std.specs.Prelude.{Option, Some, None}
use Rattle.geom.specs.declared.Point.{Point}
use Rattle.rules.specs.declared.Location.{Location}
use Rattle.rules.specs.declared.Location.TheVariants.{Outside, Inside, OnBoundary}
use Rattle.rules.specs.Edges.{Edge, edges_of, all_edges, winding, on_edge}
use Rattle.rules.specs.Lists.{any_of, count_of, is_odd, xor}
use Rattle.rules.specs.Replies.{is_nonzero, crosses, tree_reply}
use Rattle.rules.proofs.Flags.{xor_assoc, xor_none}
use Rattle.rules.proofs.FourRays.{odd_suc, odd_count, oddly_append, on_append}
use Rattle.rings.specs.Crossings.{ring_winding}
use Rattle.rings.specs.Half.{near_doubled, corner_on}
use Rattle.rings.proofs.Halving.{odd_times, odd_winding}
use Rattle.rings.proofs.Rounds.{on_grid}
use Rattle.outlines.specs.Shapes.{half_near, turns_over, parity_place}

-- two flags that differ
pub differs : (a b : Bool) → not (beq a b) ≡ xor a b
differs true true = refl
differs true false = refl
differs false true = refl
differs false false = refl

module _ (half : Bool) (p : Point) where
  -- a ring as it is counted on the grid or on the half-grid, whether the point is on it, and whether it turns the parity over
  abbrev pub counted : List Point → List Point
  counted ring = map (corner_on half) ring

  abbrev touches : List Point → Bool
  touches ring = on_edge (edges_of (counted ring)) p

  abbrev turns : List Point → Bool
  turns ring = turns_over half (winding (counted ring) p)

  pub record Even (rings : List (List Point)) (odd : Bool) (later : List (List Point)) : Type 0 where
    pub on : any_of touches rings ≡ any_of touches later
    pub parity : is_odd (count_of turns rings) ≡ xor odd (is_odd (count_of turns later))

  pub none_counted : (rings : List (List Point)) → Even rings false rings
  none_counted rings = record { on = refl; parity = refl }

  one_more : (ring : List Point) (later : List (List Point)) → is_odd (count_of turns (ring ∷ later)) ≡ xor (turns ring) (is_odd (count_of turns later))
  unfolding count_of
  one_more ring later = go (turns ring)
    where
      go : (b : Bool) → is_odd (cond b (suc (count_of turns later)) (count_of turns later)) ≡ xor b (is_odd (count_of turns later))
      go true = odd_suc (count_of turns later)
      go false = refl

  -- ---- one ring more, by its winding number
  module _ (rings : List (List Point)) (odd : Bool) (ring : List Point) (later : List (List Point)) (g : Even rings odd (ring ∷ later)) where
    pub ring_counted : (w : ℤ) → ring_winding (counted ring) p ≡ Some w → Even rings (xor odd (turns_over half w)) later
    unfolding ring_winding any_of
    ring_counted w e = go (touches ring) refl
      where
        go : (on : Bool) → touches ring ≡ on → Even rings (xor odd (turns_over half w)) later
        go true on = absurd (let clash : None ≡ Some w = sym (ap (λ t. cond t None (Some (winding (counted ring) p))) on) ∙ e in cc clash)
        go false off =
            let some : Some (winding (counted ring) p) ≡ Some w = sym (ap (λ t. cond t None (Some (winding (counted ring) p))) off) ∙ e in
            let is : winding (counted ring) p ≡ w = cc some in
            record {
              on = g.on ∙ ap (λ t. t || any_of touches later) off;
              parity = g.parity ∙ ap (xor odd) (one_more ring later) ∙ sym (xor_assoc odd (turns ring) (is_odd (count_of turns later))) ∙ ap (λ w. xor (xor odd (turns_over half w)) (is_odd (count_of turns later))) is;
            }

  -- ---- the whole
  abbrev pub place : List (List Point) → Location
  place rings = cond (any_of touches rings) OnBoundary (cond (is_odd (count_of turns rings)) Inside Outside)

  pub ring_touched : (rings : List (List Point)) (odd : Bool) (ring : List Point) (later : List (List Point)) → Even rings odd (ring ∷ later) → ring_winding (counted ring) p ≡ None → OnBoundary ≡ place rings
  unfolding ring_winding any_of
  ring_touched rings odd ring later g e = go (touches ring) refl
    where
      go : (on : Bool) → touches ring ≡ on → OnBoundary ≡ place rings
      go true on = sym (ap (λ t. cond t OnBoundary (cond (is_odd (count_of turns rings)) Inside Outside)) (g.on ∙ ap (λ t. t || any_of touches later) on))
      go false off = absurd (let clash : Some (winding (counted ring) p) ≡ None = sym (ap (λ t. cond t None (Some (winding (counted ring) p))) off) ∙ e in cc clash)

  pub all_counted : (rings : List (List Point)) (odd : Bool) → Even rings odd [] → cond odd Inside Outside ≡ place rings
  unfolding any_of count_of
  all_counted rings odd g = sym (λ i. cond (g.on i) OnBoundary (cond ((g.parity ∙ xor_none odd) i) Inside Outside))

-- ---- it is the rule of either grid
tree_place : (p : Point) (rings : List (List Point)) → place false p rings ≡ tree_reply rings p
unfolding tree_reply
tree_place p rings = λ i. cond (any_of (λ ring. on_edge (edges_of (on_grid ring i)) p) rings) OnBoundary (cond (is_odd (count_of (λ ring. is_nonzero (winding (on_grid ring i) p)) rings)) Inside Outside)

abbrev edges_in : List (List Point) → List Edge
edges_in rings = all_edges (map (map near_doubled) rings)

odd_append : (s t : List Edge) (p : Point) → odd_times (s ++ t) p ≡ xor (odd_times s p) (odd_times t p)
odd_append s t p =
    odd_count (λ e. crosses e p) (s ++ t) ∙ oddly_append (λ e. crosses e p) s t
    ∙ ap₂ xor (sym (odd_count (λ e. crosses e p) s)) (sym (odd_count (λ e. crosses e p) t))

on_all : (p : Point) (rings : List (List Point)) → any_of (touches true p) rings ≡ on_edge (edges_in rings) p
unfolding any_of all_edges on_edge
on_all p [] = refl
on_all p (ring ∷ rings) = ap (λ t. touches true p ring || t) (on_all p rings) ∙ sym (on_append (edges_of (map near_doubled ring)) (edges_in rings) p)

odd_all : (p : Point) (rings : List (List Point)) → is_odd (count_of (turns true p) rings) ≡ odd_times (edges_in rings) p
unfolding all_edges count_of
odd_all p [] = refl
odd_all p (ring ∷ rings) =
    one_more true p ring rings
    ∙ ap₂ xor (odd_winding (map near_doubled ring) p) (odd_all p rings)
    ∙ sym (odd_append (edges_of (map near_doubled ring)) (edges_in rings) p)

half_place : (p : Point) (rings : List (List Point)) → place true p rings ≡ half_near rings p
unfolding half_near
half_place p rings = λ i. cond (on_all p rings i) OnBoundary (cond (odd_all p rings i) Inside Outside)

pub place_is : (half : Bool) (p : Point) (rings : List (List Point)) → place half p rings ≡ parity_place half rings p
place_is true p rings = half_place p rings
place_is false p rings = tree_place p rings
