-- The plan of a text is accepted, and it is no larger than the largest text can say. Assumes nothing.
use mathlib.Core.Path.{◌≡◌, refl, ap, subst}
use mathlib.Core.Bool.{Bool, true, false, not, ◌&&◌, ◌||◌}
use mathlib.Core.List.{List, [], ◌∷◌}
use Prim.Native.Nat.{ℕ, ◌+◌, ◌*◌, ◌%◌, ◌≤◌}
use native.Mathlib.Omega.{arith}
use lib.Dec.{eqb}
use lib.ListN.{length}
use borrow.Author.Tests.{eq-eqb, ne_eqb}
use Rattle.rules.specs.Lists.{any_of, total, is_odd}
use Rattle.rules.specs.Plans.{Plan, corner_count, is_list, uneven, plan_verdict}
use Rattle.rules.proofs.Verdicts.{few_enough, accepted_else}
use Rattle.lines.specs.Plans.{gives_meaning, meaning}
use Rattle.lines.proofs.Sensible.{Fine, Sensible, meaning_fine, fewer_polygons}
use Rattle.rules.specs.Answering.{Accepted}

-- what a text of the largest size can hold: 9,360 corners, 13,106 rings, 10,921 polygons
pub record Largest (plan : Plan) : Type 0 where
  pub even : length plan.coordinates ≡ 2 * corner_count plan
  pub corners : length plan.coordinates ≤ 18720
  pub rings : length plan.lengths ≤ 13106
  pub polygons : length plan.counts ≤ 10921

-- a corner stands in some ring, whose line has its bytes too
at_most : (ns : List ℕ) (m : ℕ) → 5 + 7 * total ns + 5 * length ns + m ≤ 65536 → total ns ≤ 9360
unfolding total
at_most [] m h = omega arith
at_most (n ∷ ns) m h = omega arith

largest_of : (n : ℕ) (plan : Plan) → n ≤ 65536 → Sensible n plan → Largest plan
largest_of n plan h g =
    let b = g.bytes in
    let e = g.even in
    let p = fewer_polygons n plan g in
    let c = at_most plan.lengths (length plan.counts) (omega arith) in
    record { even = omega arith; corners = omega arith; rings = omega arith; polygons = omega arith }

neither : (a b : Bool) → (a ≡ true → b ≡ false) → (a && b) ≡ false
neither true b f = f refl
neither false b f = refl

fits_together : (n : ℕ) (plan : Plan) → Sensible n plan → uneven plan ≡ false
unfolding uneven
fits_together n plan g =
    let e = g.even in
    let whole : is_odd (length plan.coordinates) ≡ false = ne_eqb (length plan.coordinates % 2) 1 (λ z. absurd (omega arith)) in
    let corners : not (eqb (total plan.lengths) (corner_count plan)) ≡ false = ap not (eq-eqb (total plan.lengths) (corner_count plan) (omega arith)) in
    let polygons : (is_list plan.kind && (not (eqb (total plan.counts) (length plan.lengths)) || any_of (λ k. eqb k 0) plan.counts)) ≡ false = neither (is_list plan.kind) _ (λ list. rw (eq-eqb (total plan.counts) (length plan.lengths) (g.rings list)) g.polygons) in
    λ i. whole i || (corners i || polygons i)

accepted_of : (n : ℕ) (plan : Plan) → n ≤ 65536 → Sensible n plan → plan_verdict plan ≡ Accepted
accepted_of n plan h g =
    let b = g.bytes in
    let e = g.even in
    let p = fewer_polygons n plan g in
    accepted_else plan (few_enough plan (record { corners = omega arith; rings = omega arith; polygons = λ list. omega arith })) (fits_together n plan g)

module _ (text : List ℕ) (plan : Plan) (small : length text ≤ 65536) (e : meaning text ≡ gives_meaning plan) where
  sensible : Sensible (length text) plan
  sensible = subst (Fine (length text)) e (meaning_fine text)

  pub largest : Largest plan
  largest = largest_of (length text) plan small sensible

  pub accepted : plan_verdict plan ≡ Accepted
  accepted = accepted_of (length text) plan small sensible
