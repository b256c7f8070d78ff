-- The ways out of a look-up through the boxes: settled before a table is read, or by the walks. Assumes nothing.
use Rattle.std.specs.Prelude.{Ok, Err}
use mathlib.Core.Path.{◌≡◌, refl, sym, ◌∙◌, ap, subst}
use mathlib.Core.Bool.{Bool, true, false}
use mathlib.Core.Logic.{inl, inr, ⊎_elim}
use mathlib.Core.List.{List}
use Prim.Native.Nat.{ℕ}
use lib.Dec.{T}
use lib.IntN.{ℤ}
use Rattle.rules.specs.declared.Location.{Location}
use Rattle.rules.specs.declared.Location.TheVariants.{Outside}
use Rattle.rules.specs.declared.Refusal.{Refusal}
use Rattle.rules.specs.declared.Refusal.TheVariants.{Unsound}
use Rattle.rules.specs.declared.Spot.{Spot}
use Rattle.rules.specs.declared.State.{State}
use Rattle.rules.specs.Spots.{spot_in_range, near_reply, spot_reply}
use Rattle.rules.specs.Tables.{plan_of}
use Rattle.outlines.proofs.Steps.{at_refused, same_refused}
use Rattle.query.proofs.Fits.{spot_located}
use Rattle.gather.specs.Regions.{LookSound, LookedUp}
use Rattle.prepared.specs.Calls.{Looked}
use Rattle.rules.specs.Answering.{Reply}

pub clash : {b : Bool} → b ≡ true → b ≡ false → ⊥
clash e f = subst T f (subst T (sym e) tt)

module _ (state : State) (corners : List ℤ) (rings polygons : List ℕ) (boxes : List (List ℤ)) (parts : List (List ℕ)) (edges : List ℕ) (ranged : Bool) (location : Location) where
  pub marked : state.out_of_range ≡ true → Looked state corners rings polygons boxes parts edges ranged location (Ok Outside)
  marked m = record { early = λ e. refl; looked = λ n k. absurd (clash m n) }

  pub beyond : ranged ≡ false → Looked state corners rings polygons boxes parts edges ranged location (Ok Outside)
  beyond far = record { early = λ e. refl; looked = λ n k. absurd (clash k far) }

  -- walks that give the reply of a sound plan where the point is in range
  pub walked : state.out_of_range ≡ false → ranged ≡ true → (place : Location) → (LookSound state corners rings polygons boxes parts edges → place ≡ location) → (r : Reply)
      → LookedUp state corners rings polygons boxes parts edges place r → Looked state corners rings polygons boxes parts edges ranged location r
  walked m n place is r looked = record {
    early = λ e. absurd (⊎_elim (λ k. clash k m) (λ k. clash n k) e);
    looked = λ k j. record { short = looked.short; placed = looked.placed; exact = λ s. looked.exact s ∙ ap Ok (is s) };
  }

-- items 4 and 7 without the range rule, for a spot in range and a sound plan
pub in_range_lem : (state : State) (corners : List ℤ) (rings polygons : List ℕ) (boxes : List (List ℤ)) (parts : List (List ℕ)) (edges : List ℕ) (spot : Spot) → spot_in_range spot ≡ true
    → LookSound state corners rings polygons boxes parts edges → near_reply (plan_of state corners rings polygons) spot ≡ spot_reply (plan_of state corners rings polygons) spot
in_range_lem state corners rings polygons boxes parts edges spot n s = sym (spot_located (plan_of state corners rings polygons) spot true true s.plan.near n)

-- no other refusal than 15
pub only_unsound : (state : State) (corners : List ℤ) (rings polygons : List ℕ) (boxes : List (List ℤ)) (parts : List (List ℕ)) (edges : List ℕ) (ranged : Bool) (location : Location) (r : Reply)
    → Looked state corners rings polygons boxes parts edges ranged location r → (refusal : Refusal) → r ≡ Err refusal → refusal ≡ Unsound
only_unsound state corners rings polygons boxes parts edges ranged location r looked refusal e = go state.out_of_range ranged refl refl
  where
    go : (m n : Bool) → state.out_of_range ≡ m → ranged ≡ n → refusal ≡ Unsound
    go true n f g = absurd (at_refused Outside refusal (sym (looked.early (inl f)) ∙ e))
    go false false f g = absurd (at_refused Outside refusal (sym (looked.early (inr g)) ∙ e))
    go false true f g = ⊎_elim (λ at. absurd (at_refused at.0 refusal (sym at.1 ∙ e))) (λ is. same_refused refusal Unsound (sym e ∙ is)) (looked.looked f g).placed
