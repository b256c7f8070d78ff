-- `boxes::ring_of` meets its contract: the ring sought starts no later than e from `lo` on, and ends after e at `hi`.
use Prim.Native.Nat.{◌+◌, ◌-◌, ◌/◌}
use native.Mathlib.Omega.{arith}
use Rattle.boxes.proofs.Rings.{start_zero, start_suc}
use Rattle.boxes.proofs.ring_of.Goals as goal

pub loop-lo-init : goal.loop-lo-init
loop-lo-init c = let a = c.args in (omega arith, omega arith, c.requires.2, omega (arith, start_zero a.rings.now))

pub loop-lo-preserved : goal.loop-lo-preserved
loop-lo-preserved c =
    let l = c.loop-lo in
    let a = c.args in
    (omega arith, l.invariant.1, l.invariant.2, omega (arith, start_suc a.rings.now (l.lo + (l.hi - l.lo) / 2), c.if-e-rings.false))
