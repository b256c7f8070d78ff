-- The numbers of replies are small, so none is lost as a signed number. Assumes nothing.
use mathlib.Core.Path.{◌≡◌, ap, ◌∙◌}
use Prim.Native.Nat.{ℕ, zero, suc, ◌≤◌}
use native.Mathlib.Omega.{arith}
use lib.IntN.{pos, neg_ℤ, ◌-ℤ◌, +ℤ_idl}
use mir.Syntax.{w64}
use mir.Val.{SFits, to_z, of_z}
use mir.Facts.{to_z_pos, to_z-of_z}
use Rattle.rules.specs.declared.Location.{Location}
use Rattle.rules.specs.declared.Location.TheVariants.{Outside, Inside, OnBoundary}
use Rattle.rules.specs.declared.Refusal.{Refusal}
use Rattle.rules.specs.declared.Refusal.TheVariants.{TextTooLong, BadLine, Uneven, TooMany, NoSuchCorner, PlaceOutOfRange, TableTooShort, PlanOutOfRange, UndoFull, NothingToUndo, Unsound, OffGrammar, Unclosed}
use Rattle.rules.specs.Numbers.{location_number, refusal_number}

-- 25 is the greatest refusal number of document 02
abbrev pub Small : ℕ → Type 0
Small n = n ≤ 25

pub location_small : (location : Location) → Small (location_number location)
location_small Outside = omega arith
location_small Inside = omega arith
location_small OnBoundary = omega arith

pub refusal_small : (refusal : Refusal) → Small (refusal_number refusal)
refusal_small TextTooLong = omega arith
refusal_small (BadLine line) = omega arith
refusal_small Uneven = omega arith
refusal_small TooMany = omega arith
refusal_small NoSuchCorner = omega arith
refusal_small PlaceOutOfRange = omega arith
refusal_small (TableTooShort table) = omega arith
refusal_small PlanOutOfRange = omega arith
refusal_small UndoFull = omega arith
refusal_small NothingToUndo = omega arith
refusal_small Unsound = omega arith
refusal_small (OffGrammar place) = omega arith
refusal_small Unclosed = omega arith

pub small_fits : (n : ℕ) → Small n → SFits w64 (pos n)
small_fits n h = record { sfits = omega arith }

pub small_is : (n : ℕ) → Small n → to_z w64 n ≡ pos n
small_is n h = to_z_pos w64 (omega arith)

below_zero_lem : (n : ℕ) → pos 0 -ℤ pos n ≡ neg_ℤ (pos n)
below_zero_lem n = +ℤ_idl (neg_ℤ (pos n))

pub minus_fits : (n : ℕ) → Small n → SFits w64 (pos 0 -ℤ to_z w64 n)
minus_fits n h = rw (small_is n h, below_zero_lem n) (go n h)
  where
    go : (n : ℕ) → Small n → SFits w64 (neg_ℤ (pos n))
    go zero k = record { sfits = omega arith }
    go (suc n) k = record { sfits = omega arith }

pub minus_is : (n : ℕ) → Small n → to_z w64 (of_z w64 (pos 0 -ℤ to_z w64 n)) ≡ neg_ℤ (pos n)
minus_is n h = to_z-of_z (minus_fits n h) ∙ ap (λ z. pos 0 -ℤ z) (small_is n h) ∙ below_zero_lem n
