-- `rays::along::crossing_along` meets its contract: what the tests of the turned heights, the segment and the turn leave is `found`.
use mathlib.Core.Path.{refl, sym, ◌∙◌, ap}
use mathlib.Core.Bool.{true, false}
use Rattle.integers.specs.Signs.{sign_of}
use Rattle.predicates.specs.Turn.{orientation, on_segment}
use Rattle.rings.specs.Crossings.{upward_of, downward_of}
use Rattle.rays.proofs.EdgesAlong.{found_along}
use Rattle.rays.proofs.along.crossing_along.Goals as goal

pub returns-then-on_segment : goal.returns-then-on_segment
returns-then-on_segment c = let s = c.args in
    found_along s.ray s.a s.b s.p true true true (sign_of (orientation s.a s.b s.p))
    (sym c.no_higher.ensures ∙ c.if-no_higher.true) (sym c.no_higher-then-no_higher.ensures ∙ c.if-no_higher-2.true) (sym c.on_segment.ensures ∙ c.if-on_segment.true) refl

pub returns-then-no_higher-2 : goal.returns-then-no_higher-2
returns-then-no_higher-2 c = let s = c.args in
    found_along s.ray s.a s.b s.p true true false (sign_of (orientation s.a s.b s.p))
    (sym c.no_higher.ensures ∙ c.if-no_higher.true) (sym c.no_higher-then-no_higher.ensures ∙ c.if-no_higher-2.true) (sym c.on_segment.ensures ∙ c.if-on_segment.false) refl

pub returns-then-no_higher : goal.returns-then-no_higher
returns-then-no_higher c = let s = c.args in
    c.upward.ensures ∙ ap upward_of c.passing_turn.ensures
    ∙ found_along s.ray s.a s.b s.p true false (on_segment s.a s.b s.p) (sign_of (orientation s.a s.b s.p))
    (sym c.no_higher.ensures ∙ c.if-no_higher.true) (sym c.no_higher-then-no_higher.ensures ∙ c.if-no_higher-2.false) refl refl

pub returns-then-no_higher-3 : goal.returns-then-no_higher-3
returns-then-no_higher-3 c = let s = c.args in
    c.downward.ensures ∙ ap downward_of c.passing_turn-then-no_higher-3.ensures
    ∙ found_along s.ray s.a s.b s.p false true (on_segment s.a s.b s.p) (sign_of (orientation s.a s.b s.p))
    (sym c.no_higher.ensures ∙ c.if-no_higher.false) (sym c.no_higher-2.ensures ∙ c.if-no_higher-3.true) refl refl

pub returns : goal.returns
returns c = let s = c.args in
    found_along s.ray s.a s.b s.p false false (on_segment s.a s.b s.p) (sign_of (orientation s.a s.b s.p))
    (sym c.no_higher.ensures ∙ c.if-no_higher.false) (sym c.no_higher-2.ensures ∙ c.if-no_higher-3.false) refl refl
