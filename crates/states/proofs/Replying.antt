-- A point whose numbers were read from bits, and a look-up's number that was. Assumes nothing.
use Rattle.std.specs.Prelude.{Option}
use mathlib.Core.Path.{sym, subst}
use lib.IntN.{ℤ}
use mir.Syntax.{w64}
use mir.Val.{SFits}
use Rattle.geom.specs.declared.Point.{Point}
use Rattle.integers.proofs.Bits.{rd, rd_is}
use Rattle.rules.specs.declared.State.{State}
use Rattle.rules.specs.Answering.{Reply}
use Rattle.states.specs.States.{Replied}

pub place_read : (Promised : Point → Type 0) (x y : ℤ) → SFits w64 x → SFits w64 y → Promised (record { x = rd x; y = rd y }) → Promised (record { x = x; y = y })
place_read Promised x y fx fy promised = subst Promised (λ i. record { x = rd_is x fx i; y = rd_is y fy i }) promised

pub replied_read : (named : Option State) (Promised : Point → State → Reply → Type 0) (x y answer : ℤ) → SFits w64 x → SFits w64 y → SFits w64 answer → Replied named (Promised (record { x = rd x; y = rd y })) answer → Replied named (Promised (record { x = x; y = y })) (rd answer)
replied_read named Promised x y answer fx fy fits replied =
    place_read (λ p. Replied named (Promised p) (rd answer)) x y fx fy (subst (λ a. Replied named (Promised (record { x = rd x; y = rd y })) a) (sym (rd_is answer fits)) replied)
