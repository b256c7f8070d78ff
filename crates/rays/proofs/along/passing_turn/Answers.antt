-- `rays::along::passing_turn` meets its contract: ahead and behind tell the turn (`Passing`).
use mathlib.Core.Path.{sym, ◌∙◌}
use mathlib.Core.Bool.{◌&&◌}
use Rattle.rays.proofs.Passing.{ahead_turn, behind_turn}
use Rattle.rays.proofs.along.passing_turn.Goals as goal

pub returns-then-beyond : goal.returns-then-beyond
returns-then-beyond c =
    let a = c.args in
    c.left_if.ensures
    ∙ ahead_turn a.ray a.rises a.a a.b a.p c.requires.0 c.requires.1 ((λ i. sym c.beyond.ensures i && sym c.beyond-2.ensures i) ∙ c.if-beyond.true)

pub returns-then-beyond-2 : goal.returns-then-beyond-2
returns-then-beyond-2 c =
    let a = c.args in
    c.left_if-then-beyond-2.ensures
    ∙ behind_turn a.ray a.rises a.a a.b a.p c.requires.0 c.requires.1 ((λ i. sym c.beyond-3.ensures i && sym c.beyond-4.ensures i) ∙ c.if-beyond-2.true)
