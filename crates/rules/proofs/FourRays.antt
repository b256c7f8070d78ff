-- The four-ray theorem: round a point on none of a ring's edges, the winding number counted on each of the four rays is the winding
-- number of item 3, and the number of crossings has the same parity on each ray. For rings, and for all edges of a list of rings.
-- Assumes nothing.
use mathlib.Core.Path.{◌≡◌, refl, sym, ◌∙◌, ap, ap₂}
use mathlib.Core.Bool.{Bool, true, false, not, cond, ◌||◌}
use mathlib.Core.List.{List, [], ◌∷◌, ◌++◌}
use Prim.Native.Nat.{ℕ, suc, ◌%◌}
use native.Mathlib.Omega.{arith}
use borrow.Author.Tests.{eqb-true, eqb-false, eq-eqb, ne_eqb}
use lib.Dec.{eqb}
use lib.IntN.{ℤ, pos, ◌+ℤ◌, +ℤ_idl, +ℤ_assoc}
use Rattle.integers.proofs.Order.{zarith, add_parts}
use Rattle.integers.proofs.Tests.{or_assoc, or_false}
use Rattle.geom.specs.declared.Point.{Point}
use Rattle.predicates.specs.Turn.{on_segment}
use Rattle.rules.specs.declared.Ray.{Ray}
use Rattle.rules.specs.Edges.{Edge, edges_from, edges_of, all_edges, edge_winding, winding, on_edge}
use Rattle.rules.specs.Lists.{any_of, count_of, sum_of, is_odd, xor}
use Rattle.rules.specs.Rays.{winding_on}
use Rattle.rules.specs.Replies.{is_nonzero}
use Rattle.rules.proofs.Flags.{xor_assoc, xor_comm, xor_step, xor_cancel}
use Rattle.rules.proofs.RayEdges.{potential_at, edge_winding_lem, edge_parity}

-- ---- the point is on none of the edges
pub off_first : (e : Edge) (es : List Edge) (p : Point) → on_edge (e ∷ es) p ≡ false → on_segment e.0 e.1 p ≡ false
unfolding on_edge any_of
off_first e es p h = (or_false (on_segment e.0 e.1 p) (on_edge es p) h).0

pub off_rest : (e : Edge) (es : List Edge) (p : Point) → on_edge (e ∷ es) p ≡ false → on_edge es p ≡ false
unfolding on_edge any_of
off_rest e es p h = (or_false (on_segment e.0 e.1 p) (on_edge es p) h).1

-- ---- sums: weights that differ, edge by edge, by a potential of the corners have the same sum round a ring
sum_step : (g s f h t e u : ℤ) → g +ℤ u ≡ h +ℤ e → s +ℤ f ≡ t +ℤ u → g +ℤ s +ℤ f ≡ h +ℤ t +ℤ e
sum_step g s f h t e u j k =
    omega (zarith, add_parts g u, add_parts h e, add_parts s f, add_parts t u, add_parts g s, add_parts (g +ℤ s) f, add_parts h t, add_parts (h +ℤ t) e)

sum_cancel : (x y z : ℤ) → x +ℤ z ≡ y +ℤ z → x ≡ y
sum_cancel x y z h = omega (zarith, add_parts x z, add_parts y z)

zero_right : (x : ℤ) → x +ℤ pos 0 ≡ x
zero_right x = omega (zarith, add_parts x (pos 0))

module _ (g h : Edge → ℤ) (f : Point → ℤ) (p : Point) (one : (a b : Point) → on_segment a b p ≡ false → g (a, b) +ℤ f b ≡ h (a, b) +ℤ f a) where
  telescope : (first corner : Point) (rest : List Point) → on_edge (edges_from first corner rest) p ≡ false → sum_of g (edges_from first corner rest) +ℤ f first ≡ sum_of h (edges_from first corner rest) +ℤ f corner
  unfolding edges_from sum_of
  telescope first corner [] off =
      rw (zero_right (g (corner, first)), zero_right (h (corner, first))) (one corner first (off_first (corner, first) [] p off))
  telescope first corner (next ∷ rest) off =
      sum_step (g (corner, next)) (sum_of g (edges_from first next rest)) (f first) (h (corner, next)) (sum_of h (edges_from first next rest)) (f corner) (f next)
      (one corner next (off_first (corner, next) (edges_from first next rest) p off)) (telescope first next rest (off_rest (corner, next) (edges_from first next rest) p off))

  pub round_ring : (ring : List Point) → on_edge (edges_of ring) p ≡ false → sum_of g (edges_of ring) ≡ sum_of h (edges_of ring)
  unfolding edges_of sum_of
  round_ring [] off = refl
  round_ring (first ∷ rest) off = sum_cancel (sum_of g (edges_from first first rest)) (sum_of h (edges_from first first rest)) (f first) (telescope first first rest off)

-- THE THEOREM, for a ring: on each ray the winding number of item 3
pub four_rays : (ray : Ray) (ring : List Point) (p : Point) → on_edge (edges_of ring) p ≡ false → sum_of (λ e. winding_on ray e.0 e.1 p) (edges_of ring) ≡ winding ring p
unfolding winding
four_rays ray ring p off = round_ring (λ e. winding_on ray e.0 e.1 p) (λ e. edge_winding e.0 e.1 p) (potential_at ray p) p (edge_winding_lem ray p) ring off

-- ---- parity
unfoldable pub oddly : (Edge → Bool) → List Edge → Bool
oddly test [] = false
oddly test (e ∷ es) = xor (test e) (oddly test es)

pub odd_suc : (n : ℕ) → is_odd (suc n) ≡ not (is_odd n)
odd_suc n = go (eqb (n % 2) 1) refl
  where
    go : (b : Bool) → eqb (n % 2) 1 ≡ b → eqb (suc n % 2) 1 ≡ not b
    go true e = ne_eqb (suc n % 2) 1 (λ h. omega (arith, eqb-true (n % 2) 1 e))
    go false e = eq-eqb (suc n % 2) 1 (let d = eqb-false (n % 2) 1 e in omega arith)

-- how many pass is odd exactly if the tests' parity is
pub odd_count : (test : Edge → Bool) (es : List Edge) → is_odd (count_of test es) ≡ oddly test es
unfolding count_of oddly
odd_count test [] = refl
odd_count test (e ∷ es) = go (test e) (odd_count test es)
  where
    go : (b : Bool) → is_odd (count_of test es) ≡ oddly test es → is_odd (cond b (suc (count_of test es)) (count_of test es)) ≡ xor b (oddly test es)
    go true r = odd_suc (count_of test es) ∙ ap not r
    go false r = r

module _ (g h : Edge → Bool) (f : Point → Bool) (p : Point) (one : (a b : Point) → on_segment a b p ≡ false → xor (g (a, b)) (f b) ≡ xor (h (a, b)) (f a)) where
  telescope_parity : (first corner : Point) (rest : List Point) → on_edge (edges_from first corner rest) p ≡ false → xor (oddly g (edges_from first corner rest)) (f first) ≡ xor (oddly h (edges_from first corner rest)) (f corner)
  unfolding edges_from oddly
  telescope_parity first corner [] off =
      rw (xor_comm (g (corner, first)) false, xor_comm (h (corner, first)) false) (one corner first (off_first (corner, first) [] p off))
  telescope_parity first corner (next ∷ rest) off =
      xor_step (g (corner, next)) (oddly g (edges_from first next rest)) (f first) (h (corner, next)) (oddly h (edges_from first next rest)) (f corner) (f next)
      (one corner next (off_first (corner, next) (edges_from first next rest) p off)) (telescope_parity first next rest (off_rest (corner, next) (edges_from first next rest) p off))

  round_parity : (ring : List Point) → on_edge (edges_of ring) p ≡ false → oddly g (edges_of ring) ≡ oddly h (edges_of ring)
  unfolding edges_of oddly
  round_parity [] off = refl
  round_parity (first ∷ rest) off = xor_cancel (oddly g (edges_from first first rest)) (oddly h (edges_from first first rest)) (f first) (telescope_parity first first rest off)

-- THE THEOREM, of crossings: their number is odd on each ray or on none
pub four_rays_parity : (ray : Ray) (ring : List Point) (p : Point) → on_edge (edges_of ring) p ≡ false
    → is_odd (count_of (λ e. is_nonzero (winding_on ray e.0 e.1 p)) (edges_of ring)) ≡ is_odd (count_of (λ e. is_nonzero (edge_winding e.0 e.1 p)) (edges_of ring))
four_rays_parity ray ring p off =
    odd_count (λ e. is_nonzero (winding_on ray e.0 e.1 p)) (edges_of ring)
    ∙ round_parity (λ e. is_nonzero (winding_on ray e.0 e.1 p)) (λ e. is_nonzero (edge_winding e.0 e.1 p)) (λ c. is_nonzero (potential_at ray p c)) p (edge_parity ray p) ring off
    ∙ sym (odd_count (λ e. is_nonzero (edge_winding e.0 e.1 p)) (edges_of ring))

-- ---- several rings: all edges of all of them
pub sum_append : (g : Edge → ℤ) (s t : List Edge) → sum_of g (s ++ t) ≡ sum_of g s +ℤ sum_of g t
unfolding sum_of
sum_append g [] t = sym (+ℤ_idl (sum_of g t))
sum_append g (e ∷ s) t = ap (λ z. g e +ℤ z) (sum_append g s t) ∙ sym (+ℤ_assoc (g e) (sum_of g s) (sum_of g t))

pub oddly_append : (g : Edge → Bool) (s t : List Edge) → oddly g (s ++ t) ≡ xor (oddly g s) (oddly g t)
unfolding oddly
oddly_append g [] t = refl
oddly_append g (e ∷ s) t = ap (xor (g e)) (oddly_append g s t) ∙ sym (xor_assoc (g e) (oddly g s) (oddly g t))

pub on_append : (s t : List Edge) (p : Point) → on_edge (s ++ t) p ≡ on_edge s p || on_edge t p
unfolding on_edge any_of
on_append [] t p = refl
on_append (e ∷ s) t p = ap (λ b. on_segment e.0 e.1 p || b) (on_append s t p) ∙ sym (or_assoc (on_segment e.0 e.1 p) (on_edge s p) (on_edge t p))

pub four_rays_all : (ray : Ray) (rings : List (List Point)) (p : Point) → on_edge (all_edges rings) p ≡ false
    → sum_of (λ e. winding_on ray e.0 e.1 p) (all_edges rings) ≡ sum_of (λ e. edge_winding e.0 e.1 p) (all_edges rings)
unfolding all_edges winding sum_of
four_rays_all ray [] p off = refl
four_rays_all ray (ring ∷ rings) p off =
    let apart = or_false (on_edge (edges_of ring) p) (on_edge (all_edges rings) p) (sym (on_append (edges_of ring) (all_edges rings) p) ∙ off) in
    sum_append (λ e. winding_on ray e.0 e.1 p) (edges_of ring) (all_edges rings)
    ∙ ap₂ ◌+ℤ◌ (four_rays ray ring p apart.0) (four_rays_all ray rings p apart.1)
    ∙ sym (sum_append (λ e. edge_winding e.0 e.1 p) (edges_of ring) (all_edges rings))

oddly_all : (ray : Ray) (rings : List (List Point)) (p : Point) → on_edge (all_edges rings) p ≡ false
    → oddly (λ e. is_nonzero (winding_on ray e.0 e.1 p)) (all_edges rings) ≡ oddly (λ e. is_nonzero (edge_winding e.0 e.1 p)) (all_edges rings)
unfolding all_edges oddly
oddly_all ray [] p off = refl
oddly_all ray (ring ∷ rings) p off =
    let apart = or_false (on_edge (edges_of ring) p) (on_edge (all_edges rings) p) (sym (on_append (edges_of ring) (all_edges rings) p) ∙ off) in
    oddly_append (λ e. is_nonzero (winding_on ray e.0 e.1 p)) (edges_of ring) (all_edges rings)
    ∙ ap₂ xor (round_parity (λ e. is_nonzero (winding_on ray e.0 e.1 p)) (λ e. is_nonzero (edge_winding e.0 e.1 p)) (λ c. is_nonzero (potential_at ray p c)) p (edge_parity ray p) ring apart.0) (oddly_all ray rings p apart.1)
    ∙ sym (oddly_append (λ e. is_nonzero (edge_winding e.0 e.1 p)) (edges_of ring) (all_edges rings))

pub four_rays_parity_all : (ray : Ray) (rings : List (List Point)) (p : Point) → on_edge (all_edges rings) p ≡ false
    → is_odd (count_of (λ e. is_nonzero (winding_on ray e.0 e.1 p)) (all_edges rings)) ≡ is_odd (count_of (λ e. is_nonzero (edge_winding e.0 e.1 p)) (all_edges rings))
four_rays_parity_all ray rings p off =
    odd_count (λ e. is_nonzero (winding_on ray e.0 e.1 p)) (all_edges rings) ∙ oddly_all ray rings p off ∙ sym (odd_count (λ e. is_nonzero (edge_winding e.0 e.1 p)) (all_edges rings))
