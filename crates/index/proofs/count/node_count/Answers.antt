-- `index::count::node_count` meets its contract, level by level (`Counts.Level`).
use mathlib.Core.Path.{◌≡◌}
use native.Mathlib.Omega.{arith}
use Prim.Native.Nat.{◌+◌, ◌*◌, ◌-◌, ◌≤◌}
use Rattle.rules.specs.Nodes.{node_count}
use Rattle.index.proofs.Counts.{level_first, level_few, level_small, level_even, level_odd, level_nine, level_last, node_count_half}
use Rattle.index.proofs.count.node_count.Goals as goal
use Rattle.index.proofs.count.node_count.Goals.{then-size-eq0, else-size-eq0, At-loop-size, In-loop-size, Then-size-eq8}

nine : (c : Then-size-eq8) → let l = c.loop-size in l.above + l.lesser + 3 * l.greater ≡ node_count c.args.n
nine c = let l = c.loop-size in level_nine c.args.n l.above l.size l.lesser l.greater l.invariant c.if-size-eq8.true

small : (c : In-loop-size) → 9 * (c.loop-size.lesser + c.loop-size.greater) ≤ c.args.n
small c = let l = c.loop-size in level_small c.args.n l.above l.size l.lesser l.greater l.invariant c.loop-size-test.true

few : (c : At-loop-size) → let l = c.loop-size in (l.above + l.lesser + l.greater ≤ node_count c.args.n) × (2 * node_count c.args.n ≤ 2 + (c.args.n - 4))
few c = let n = c.args.n in let l = c.loop-size in (level_few n l.above l.size l.lesser l.greater l.invariant, node_count_half n)

pub loop-size-init : goal.loop-size-init
loop-size-init c = level_first c.args.n

pub overflow_add-above : goal.overflow_add-above
overflow_add-above c = omega (arith, few (goal.at.overflow_add-above c).At-loop-size)

pub overflow_add-above-in-loop-size : goal.overflow_add-above-in-loop-size
overflow_add-above-in-loop-size c = omega (arith, few (goal.at.overflow_add-above-in-loop-size c).At-loop-size)

pub overflow_mul-lesser : goal.overflow_mul-lesser
overflow_mul-lesser c = omega (arith, small (goal.at.overflow_mul-lesser c).In-loop-size)

pub overflow_add-lesser : goal.overflow_add-lesser
overflow_add-lesser c = omega (arith, small (goal.at.overflow_add-lesser c).In-loop-size)

pub overflow_mul-greater : goal.overflow_mul-greater
overflow_mul-greater c = omega (arith, small (goal.at.overflow_mul-greater c).In-loop-size)

pub overflow_add-greater : goal.overflow_add-greater
overflow_add-greater c = omega (arith, small (goal.at.overflow_add-greater c).In-loop-size)

pub loop-size-preserved : goal.loop-size-preserved
loop-size-preserved c =
    let n = c.args.n in
    let l = c.loop-size in
    let cut = c.loop-size-test.true in
    elim c.if-size-eq0.branch [
      | then-size-eq0 w ↦ rw (w.lesser-is, w.greater-is) (level_even n l.above l.size l.lesser l.greater l.invariant cut w.if-size-eq0.true)
      | else-size-eq0 w ↦ rw (w.lesser-is, w.greater-is) (level_odd n l.above l.size l.lesser l.greater l.invariant cut w.if-size-eq0.false)
    ]

pub overflow_add-result : goal.overflow_add-result
overflow_add-result c = omega (arith, few (goal.at.overflow_add-result c).At-loop-size)

pub overflow_mul-result : goal.overflow_mul-result
overflow_mul-result c = omega (arith, nine c, few (goal.at.overflow_mul-result c).At-loop-size)

pub overflow_add-result-then-size-eq8 : goal.overflow_add-result-then-size-eq8
overflow_add-result-then-size-eq8 c = omega (arith, nine c, few (goal.at.overflow_add-result-then-size-eq8 c).At-loop-size)

pub returns-then-size-eq8 : goal.returns-then-size-eq8
returns-then-size-eq8 c = nine c

pub overflow_add-result-2 : goal.overflow_add-result-2
overflow_add-result-2 c = omega (arith, few (goal.at.overflow_add-result-2 c).At-loop-size)

pub overflow_add-result-3 : goal.overflow_add-result-3
overflow_add-result-3 c = omega (arith, few (goal.at.overflow_add-result-3 c).At-loop-size)

pub returns : goal.returns
returns c = let l = c.loop-size in level_last c.args.n l.above l.size l.lesser l.greater l.invariant (omega arith)
