-- Slots: one edge more, and what a slot says in the end. Assumes nothing.
use mathlib.Core.Path.{◌≡◌, refl, sym, ap, ◌∙◌}
use mathlib.Core.Bool.{Bool, true, false, cond, ◌&&◌, ◌||◌}
use mathlib.Core.List.{List, [], ◌∷◌}
use Prim.Native.Nat.{ℕ, ◌≤◌, ◌^◌}
use native.Mathlib.Omega.{arith}
use borrow.Author.Tests.{eq-eqb, ne_eqb}
use lib.Dec.{eqb}
use lib.IntN.{ℤ, pos, nat_abs, ◌+ℤ◌, +ℤ_idl, +ℤ_comm}
use lib.ListN.{length}
use Rattle.integers.proofs.Sizes.{abs_add}
use Rattle.geom.proofs.Range.{near_within}
use Rattle.rules.specs.declared.Location.TheVariants.{Outside, Inside, OnBoundary}
use Rattle.rules.specs.Lists.{sum_of, any_of}
use Rattle.rules.specs.Replies.{is_nonzero}
use Rattle.rules.proofs.Indexed.{bit}
use Rattle.rings.specs.declared.crossings.Crossing.{Crossing}
use Rattle.rings.specs.declared.crossings.Crossing.TheVariants.{Nothing, Up, Down, On}
use Rattle.rings.specs.Crossings.{is_on, weight_of}
use Rattle.rings.proofs.EdgeCounts.{weight_small}
use Rattle.gather.specs.Slots.{is_nothing, boundary, slot_of, counted_of, place_of}
use Rattle.gather.specs.Tallies.{Met, winding_in, on_in}

-- a winding that a slot can count
pub counted_slot : (w : ℤ) (on : Bool) (c : Crossing) → nat_abs w ≤ 2 ^ 61 → counted_of (slot_of w on) c ≡ slot_of (weight_of c +ℤ w) (is_on c || on)
counted_slot w true c h = sym (go (is_on c))
  where
    go : (b : Bool) → slot_of (weight_of c +ℤ w) (b || true) ≡ boundary
    go true = refl
    go false = refl
counted_slot w false c h = ap (λ b. cond b (cond (is_on c) boundary (w +ℤ weight_of c)) boundary) (near_within (2 ^ 61) w h) ∙ go (is_on c)
  where
    go : (b : Bool) → cond b boundary (w +ℤ weight_of c) ≡ slot_of (weight_of c +ℤ w) (b || false)
    go true = refl
    go false = +ℤ_comm w (weight_of c)

pub place_slot : (w : ℤ) (on : Bool) → nat_abs w ≤ 2 ^ 61 → place_of (slot_of w on) ≡ cond on OnBoundary (cond (is_nonzero w) Inside Outside)
place_slot w true h = refl
place_slot w false h = ap (λ b. cond b (cond (is_nonzero w) Inside Outside) OnBoundary) (near_within (2 ^ 61) w h)

-- ---- the edges met
pub winding_none : (r : ℕ) → winding_in [] r ≡ pos 0
unfolding winding_in sum_of
winding_none r = refl

pub on_none : (r : ℕ) → on_in [] r ≡ false
unfolding on_in any_of
on_none r = refl

-- an edge of ring r, of another ring, and one that says nothing
pub winding_own : (met : List Met) (r : ℕ) (c : Crossing) → winding_in ((r, c) ∷ met) r ≡ weight_of c +ℤ winding_in met r
unfolding winding_in sum_of
winding_own met r c = ap (λ b. cond b (weight_of c) (pos 0) +ℤ winding_in met r) (eq-eqb r r refl)

pub on_own : (met : List Met) (r : ℕ) (c : Crossing) → on_in ((r, c) ∷ met) r ≡ is_on c || on_in met r
unfolding on_in any_of
on_own met r c = ap (λ b. b && is_on c || on_in met r) (eq-eqb r r refl)

pub winding_other : (met : List Met) (s r : ℕ) (c : Crossing) → (s ≡ r → ⊥) → winding_in ((s, c) ∷ met) r ≡ winding_in met r
unfolding winding_in sum_of
winding_other met s r c d = ap (λ b. cond b (weight_of c) (pos 0) +ℤ winding_in met r) (ne_eqb s r d) ∙ +ℤ_idl (winding_in met r)

pub on_other : (met : List Met) (s r : ℕ) (c : Crossing) → (s ≡ r → ⊥) → on_in ((s, c) ∷ met) r ≡ on_in met r
unfolding on_in any_of
on_other met s r c d = ap (λ b. b && is_on c || on_in met r) (ne_eqb s r d)

pub winding_nothing : (met : List Met) (s r : ℕ) (c : Crossing) → is_nothing c ≡ true → winding_in ((s, c) ∷ met) r ≡ winding_in met r
unfolding winding_in sum_of
winding_nothing met s r Nothing e = go (eqb s r)
  where
    go : (b : Bool) → cond b (pos 0) (pos 0) +ℤ winding_in met r ≡ winding_in met r
    go true = +ℤ_idl (winding_in met r)
    go false = +ℤ_idl (winding_in met r)
winding_nothing met s r Up e = absurd (omega (arith, ap bit e))
winding_nothing met s r Down e = absurd (omega (arith, ap bit e))
winding_nothing met s r On e = absurd (omega (arith, ap bit e))

pub on_nothing : (met : List Met) (s r : ℕ) (c : Crossing) → is_nothing c ≡ true → on_in ((s, c) ∷ met) r ≡ on_in met r
unfolding on_in any_of
on_nothing met s r Nothing e = go (eqb s r)
  where
    go : (b : Bool) → b && false || on_in met r ≡ on_in met r
    go true = refl
    go false = refl
on_nothing met s r Up e = absurd (omega (arith, ap bit e))
on_nothing met s r Down e = absurd (omega (arith, ap bit e))
on_nothing met s r On e = absurd (omega (arith, ap bit e))

-- no more windings than edges met
pub winding_small : (met : List Met) (r : ℕ) → nat_abs (winding_in met r) ≤ length met
unfolding winding_in sum_of
winding_small [] r = omega arith
winding_small (m ∷ met) r = let h = winding_small met r in omega (arith, abs_add (cond (eqb m.0 r) (weight_of m.1) (pos 0)) (winding_in met r), either (eqb m.0 r))
  where
    either : (b : Bool) → nat_abs (cond b (weight_of m.1) (pos 0)) ≤ 1
    either true = weight_small m.1
    either false = omega arith
