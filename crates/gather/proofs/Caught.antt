-- Wrong look-ups that the contract rules out, whatever the code is, on either grid. Assumes nothing.
use Rattle.std.specs.Prelude.{Err, Ok}
use mathlib.Core.Path.{◌≡◌, ap}
use mathlib.Core.Bool.{Bool, true, false}
use mathlib.Core.Logic.{inl, inr}
use mathlib.Core.List.{List}
use Prim.Native.Nat.{ℕ}
use native.Mathlib.Omega.{arith}
use lib.IntN.{ℤ}
use Rattle.rules.specs.declared.Location.{Location}
use Rattle.rules.specs.declared.Refusal.{Refusal}
use Rattle.rules.specs.declared.State.{State}
use Rattle.rules.specs.Numbers.{refusal_number}
use Rattle.rules.proofs.Indexed.{bit}
use Rattle.gather.specs.Regions.{LookSound, Placed, LookedUp}
use Rattle.rules.specs.Answering.{Reply}

module _ (state : State) (corners : List ℤ) (rings polygons : List ℕ) (boxes : List (List ℤ)) (parts : List (List ℕ)) (edges : List ℕ) (place : Location) where
  abbrev place_in : Reply → Location
  place_in (Ok location) = location
  place_in (Err refusal) = place

  abbrev is_at : Reply → Bool
  is_at (Ok location) = true
  is_at (Err refusal) = false

  abbrev number_in : Reply → ℕ
  number_in (Ok location) = 15
  number_in (Err refusal) = refusal_number refusal

  -- a refusal throughout
  pub not_refused : LookSound state corners rings polygons boxes parts edges → (refusal : Refusal) → LookedUp state corners rings polygons boxes parts edges place (Err refusal) → ⊥
  not_refused S refusal L = absurd (omega (arith, ap (λ r. bit (is_at r)) (L.exact S)))

  -- any other place: always outside, the same place for every point, one ring's place for all
  pub not_elsewhere : LookSound state corners rings polygons boxes parts edges → (location : Location) → (location ≡ place → ⊥) → LookedUp state corners rings polygons boxes parts edges place (Ok location) → ⊥
  not_elsewhere S location other L = other (ap place_in (L.exact S))

  -- on any tables a number other than 15
  pub only_unsound : (refusal : Refusal) → LookedUp state corners rings polygons boxes parts edges place (Err refusal) → refusal_number refusal ≡ 15
  only_unsound refusal L = go L.placed
    where
      go : Placed (Err refusal) → refusal_number refusal ≡ 15
      go (inl at) = absurd (omega (arith, ap (λ r. bit (is_at r)) at.1))
      go (inr e) = ap number_in e
