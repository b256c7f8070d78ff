-- `cut::selection::partition` meets its contract: one turn reads a number, and moves it in front if it is at most v (`Partings`).
use mathlib.Core.Path.{refl, ◌∙◌}
use Prim.Native.Nat.{◌<◌}
use native.Mathlib.Omega.{arith}
use Rattle.cut.proofs.Shuffles.{length_swapped}
use Rattle.cut.proofs.Partings.{parting_start, parting_in, parting_out, parting_done}
use Rattle.cut.proofs.selection.partition.Goals as goal
use Rattle.cut.proofs.selection.partition.Goals.{then-x-v, else-x-v}

pub loop-i-init : goal.loop-i-init
loop-i-init c = let a = c.args in
    (parting_start a.lo a.hi a.v a.values.now a.values.now c.requires.0, refl, omega arith)

pub loop-i-preserved : goal.loop-i-preserved
loop-i-preserved c =
    let l = c.loop-i in
    let a = c.args in
    let few : l.i < a.hi = omega arith in
    rw c.swap.ensures (
      elim c.if-x-v.branch [
        | then-x-v w ↦ rw w.place-is (parting_in a.lo a.hi a.v a.values.now l.values l.place l.i l.invariant.0 few c.requires.1 w.if-x-v.true)
        | else-x-v w ↦ rw w.place-is (parting_out a.lo a.hi a.v a.values.now l.values l.place l.i l.invariant.0 few c.requires.1 w.if-x-v.false)
      ],
      length_swapped l.place l.i l.values ∙ l.invariant.1,
      omega arith,
    )

pub shape_of-values : goal.shape_of-values
shape_of-values c = c.loop-i.invariant.1

pub returns : goal.returns
returns c =
    let l = c.loop-i in
    let a = c.args in
    record {
      parted = parting_done a.lo a.hi a.v a.values.now l.values l.place l.i l.invariant.0 c.loop-i-test.false;
      read = omega (arith, l.invariant.0.to);
    }
