-- `rings::crossings::inlined_crossing` meets its contract: what the tests of the heights, the segment and the turn leave is `found`.
use Rattle.std.proofs.Common.{◌≡◌, refl, sym, ◌∙◌, ap, Bool, true, false, rules, w64, SFits, to_z, of_z, to_z-of_z}
use lib.IntN.{ℤ}
use lib.Signed.{le_z}
use Rattle.integers.specs.Signs.{sign_of}
use Rattle.predicates.specs.Turn.{orientation, on_segment}
use Rattle.rings.specs.Crossings.{upward_of, downward_of}
use Rattle.rings.proofs.EdgeCounts.{found_at}
use Rattle.rings.proofs.crossings.inlined_crossing.Goals as goal

-- a test of two heights that were read back
low : (y z : ℤ) → SFits w64 y → SFits w64 z → (b : Bool) → le_z (to_z w64 (of_z w64 y)) (to_z w64 (of_z w64 z)) ≡ b → le_z y z ≡ b
low y z fy fz b e = simp to_z-of_z at e

pub returns-then-on_segment : goal.returns-then-on_segment
returns-then-on_segment c = let s = c.args in
    found_at s.a s.b s.p true true true (sign_of (orientation s.a s.b s.p))
    (low s.a.y s.p.y (search rules) (search rules) true c.if-a-p.true) (low s.b.y s.p.y (search rules) (search rules) true c.if-b-p.true) (sym c.on_segment.ensures ∙ c.if-on_segment.true) refl

pub returns-then-b-p : goal.returns-then-b-p
returns-then-b-p c = let s = c.args in
    found_at s.a s.b s.p true true false (sign_of (orientation s.a s.b s.p))
    (low s.a.y s.p.y (search rules) (search rules) true c.if-a-p.true) (low s.b.y s.p.y (search rules) (search rules) true c.if-b-p.true) (sym c.on_segment.ensures ∙ c.if-on_segment.false) refl

pub returns-then-a-p : goal.returns-then-a-p
returns-then-a-p c = let s = c.args in
    c.upward.ensures ∙ ap upward_of c.orient.ensures
    ∙ found_at s.a s.b s.p true false (on_segment s.a s.b s.p) (sign_of (orientation s.a s.b s.p))
    (low s.a.y s.p.y (search rules) (search rules) true c.if-a-p.true) (low s.b.y s.p.y (search rules) (search rules) false c.if-b-p.false) refl refl

pub returns-then-b-p-2 : goal.returns-then-b-p-2
returns-then-b-p-2 c = let s = c.args in
    c.downward.ensures ∙ ap downward_of c.orient-then-b-p-2.ensures
    ∙ found_at s.a s.b s.p false true (on_segment s.a s.b s.p) (sign_of (orientation s.a s.b s.p))
    (low s.a.y s.p.y (search rules) (search rules) false c.if-a-p.false) (low s.b.y s.p.y (search rules) (search rules) true c.if-b-p-2.true) refl refl

pub returns : goal.returns
returns c = let s = c.args in
    found_at s.a s.b s.p false false (on_segment s.a s.b s.p) (sign_of (orientation s.a s.b s.p))
    (low s.a.y s.p.y (search rules) (search rules) false c.if-a-p.false) (low s.b.y s.p.y (search rules) (search rules) false c.if-b-p-2.false) refl refl
