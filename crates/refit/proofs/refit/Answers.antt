-- `refit::refit` meets its contract.
use mathlib.Core.Path.{◌≡◌, sym, ap, ◌∙◌}
use Prim.Native.Nat.{ℕ, ◌-◌}
use native.Mathlib.Omega.{arith}
use Rattle.refit.specs.Refits.{joined}
use Rattle.refit.proofs.Fitting.{joined_none, joined_more, refit_start, refit_done}
use Rattle.refit.proofs.refit.Goals as goal

pub loop-k-preserved : goal.loop-k-preserved
loop-k-preserved c =
    let a = c.args in
    let l = c.loop-k in
    (omega (arith, l.invariant.0), ap (joined a.parts.now a.path.now (l.k - 1)) c.fit_cut.ensures ∙ sym (joined_more a.parts.now a.path.now l.k l.boxes c.loop-k-test.true) ∙ l.invariant.1)

pub returns : goal.returns
returns c =
    let a = c.args in
    let l = c.loop-k in
    let e : 0 ≡ l.k = omega arith in
    refit_done a.corners.now a.boxes.now a.parts.now a.edges.now a.path.now a.stops.now a.depth a.n c.requires.fine l.boxes
    (sym (joined_none a.parts.now a.path.now l.boxes) ∙ ap (λ (k : ℕ). joined a.parts.now a.path.now k l.boxes) e ∙ l.invariant.1
    ∙ ap (joined a.parts.now a.path.now (a.depth - 1)) c.fit_leaf.ensures ∙ refit_start a.corners.now a.boxes.now a.parts.now a.edges.now a.path.now a.stops.now a.depth)
