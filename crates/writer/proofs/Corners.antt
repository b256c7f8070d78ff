-- The corners of a ring, and the ring closed. Assumes nothing.
use mathlib.Core.Path.{◌≡◌, ap, ◌∙◌}
use mathlib.Core.List.{List, [], ◌∷◌, ◌++◌}
use Prim.Native.Nat.{ℕ, suc, ◌+◌, ◌/◌, ◌≤◌, ◌<◌}
use native.Mathlib.Numerals.{add-one}
use native.Mathlib.Omega.{arith}
use lib.IntN.{ℤ}
use lib.ListN.{length, drop, drop_of_length-le}
use Rattle.geom.specs.declared.Point.{Point}
use Rattle.rules.specs.Plans.{corners_of, corner_at}
use Rattle.rules.proofs.Corners.{corners_cons, corners_length}
use Rattle.grammar.specs.Texts.{pair_text, ring_text, closed}
use Rattle.writer.specs.Drawn.{lead, leads}
use Rattle.writer.proofs.Leads.{Three, brackets_leads, leads_more}

pub corner_here : (ring : List ℤ) (i : ℕ) → i < length ring / 2 → drop i (corners_of ring) ≡ corner_at ring i ∷ drop (suc i) (corners_of ring)
corner_here ring i h = corners_cons ring i (omega (arith, h)) ∙ ap (λ k. corner_at ring i ∷ drop k (corners_of ring)) (add-one i)

pub corners_over : (ring : List ℤ) (i : ℕ) → length ring / 2 ≤ i → drop i (corners_of ring) ≡ []
corners_over ring i h = drop_of_length-le (corners_of ring) {i = i} (let l = corners_length ring in omega (arith, l, h))

ring_is : (ring : List ℤ) → 1 < length ring → ring_text (closed (corners_of ring)) ≡ (leads pair_text 0 (corners_of ring) ++ (lead 1 ++ pair_text (corner_at ring 0))) ++ (41 ∷ [])
unfolding corners_of closed
ring_is [] h = absurd (omega arith)
ring_is (x ∷ []) h = absurd (omega arith)
ring_is (x ∷ y ∷ rest) h =
    let p : Point = record { x = x; y = y } in
    brackets_leads pair_text (closed (p ∷ corners_of rest)) (omega arith)
    ∙ ap (λ s. s ++ (41 ∷ [])) (leads_more pair_text 0 (p ∷ corners_of rest) p ∙ ap (λ k. leads pair_text 0 (p ∷ corners_of rest) ++ (lead k ++ pair_text p)) (let e : 0 + suc (length (corners_of rest)) ≡ suc (length (corners_of rest)) = omega arith in e))

-- a ring in three parts
pub ring_parts : (ring : List ℤ) → 1 < length ring → Three (ring_text (closed (corners_of ring))) (leads pair_text 0 (corners_of ring)) (lead 1 ++ pair_text (corner_at ring 0)) (41 ∷ [])
ring_parts ring h = record { is = ring_is ring h }
