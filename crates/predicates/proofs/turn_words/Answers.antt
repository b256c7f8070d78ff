-- `predicates::turn_words` meets its contract: near 0 by one way, and anywhere by the other.
use mathlib.Core.Path.{sym, ◌∙◌}
use Rattle.integers.proofs.Bits.{rd_is}
use Rattle.integers.proofs.Tests.{and_true}
use Rattle.predicates.specs.Turn.{orientation}
use Rattle.predicates.proofs.turn_words.Goals as goal

pub narrow_turn-requires : goal.narrow_turn-requires
narrow_turn-requires c =
    let ax = c.is_narrow in
    let ay = c.is_narrow-2 in
    let bx = c.is_narrow-3 in
    let by = c.is_narrow-4 in
    let cx = c.is_narrow-5 in
    let cy = c.is_narrow-6 in
    let five = and_true _ cy.result c.if-is_narrow.true in
    let four = and_true _ cx.result five.0 in
    let three = and_true _ by.result four.0 in
    let two = and_true _ bx.result three.0 in
    let one = and_true ax.result ay.result two.0 in
    (sym ax.ensures ∙ one.0, sym ay.ensures ∙ one.1, sym bx.ensures ∙ two.1, sym by.ensures ∙ three.1, sym cx.ensures ∙ four.1, sym cy.ensures ∙ five.1)

pub returns-then-is_narrow : goal.returns-then-is_narrow
returns-then-is_narrow c = c.narrow_turn.ensures ∙ (λ i. orientation (record { x = rd_is c.args.ax c.ranges.ax i; y = rd_is c.args.ay c.ranges.ay i }) (record { x = rd_is c.args.bx c.ranges.bx i; y = rd_is c.args.by c.ranges.by i }) (record { x = rd_is c.args.cx c.ranges.cx i; y = rd_is c.args.cy c.ranges.cy i }))

pub returns : goal.returns
returns c = c.any_turn.ensures ∙ (λ i. orientation (record { x = rd_is c.args.ax c.ranges.ax i; y = rd_is c.args.ay c.ranges.ay i }) (record { x = rd_is c.args.bx c.ranges.bx i; y = rd_is c.args.by c.ranges.by i }) (record { x = rd_is c.args.cx c.ranges.cx i; y = rd_is c.args.cy c.ranges.cy i }))
