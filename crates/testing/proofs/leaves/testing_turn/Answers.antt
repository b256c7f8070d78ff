-- `testing::leaves::testing_turn` meets its contract.
use mathlib.Core.Path.{◌∙◌}
use Rattle.integers.proofs.Bits.{rd_is}
use Rattle.testing.specs.Leaves.{turn_at}
use Rattle.testing.proofs.leaves.testing_turn.Goals as goal

pub returns : goal.returns
returns c =
    let a = c.args in
    let f = c.ranges in
    c.turn_at.ensures
    ∙ (λ i. turn_at (record { x = rd_is a.ax f.ax i; y = rd_is a.ay f.ay i }) (record { x = rd_is a.bx f.bx i; y = rd_is a.by f.by i }) (record { x = rd_is a.cx f.cx i; y = rd_is a.cy f.cy i }))
