-- `refit::path_to` meets its contract.
use mathlib.Core.Path.{◌≡◌, sym, ap, ◌∙◌, subst}
use mathlib.Core.List.{List}
use Prim.Native.Nat.{ℕ, ◌+◌, ◌-◌, ◌≤◌}
use native.Mathlib.Omega.{arith}
use lib.Seq.{get_or-set_same}
use lib.ListN.{length, get_or, set, length-set}
use Rattle.std.proofs.lemmas.Result.{err_from_is_err_and}
use Rattle.index.specs.Build.{KeptFrom}
use Rattle.index.proofs.Tables.{kept_all, kept_both, kept_set}
use Rattle.refit.specs.Paths.{LeafAt, Below}
use Rattle.refit.proofs.Paths.{leads_start, leads_more, never_astray, never_deeper}
use Rattle.refit.proofs.path_to.Goals as goal
use Rattle.refit.proofs.path_to.Goals.{In-Some}

-- what the step to a child says
below : (c : In-Some) → Below c.args.parts.now c.args.nodes c.args.k c.loop-child.p c.in-Some.child
below c = rw c.in-Some.is at c.in_ok-child.ensures

-- the root was written before the loop
kept : (path path' : List ℕ) → KeptFrom 18 (set path 0 0) path' → KeptFrom 18 path path'
kept path path' K = kept_both 18 path (set path 0 0) path' (kept_set 18 path path 0 0 (omega arith) (kept_all 18 path)) K

pub loop-child-init : goal.loop-child-init
loop-child-init c =
    let a = c.args in
    let root = get_or-set_same a.path.now 0 0 0 (omega (arith, c.requires.in_bounds.0)) in
    (kept_all 18 (set a.path.now 0 0), leads_start a.parts.now a.nodes a.k (set a.path.now 0 0) root, sym root)

pub returns-in_err-child : goal.returns-in_err-child
returns-in_err-child c =
    let a = c.args in
    let l = c.loop-child in
    let refused = err_from_is_err_and c.from_residual.result c.from_residual.ensures.1 in
    record { path_says = rw refused.1 (never_astray a.n a.parts.now a.nodes a.k c.requires.index_place.0 c.requires.index_place.1 l.path l.depth l.p l.invariant.1 l.invariant.2 c.in_err-child.ensures); kept_from = kept a.path.now l.path l.invariant.0 }

pub returns-then-depth-ge-DEPTH : goal.returns-then-depth-ge-DEPTH
returns-then-depth-ge-DEPTH c =
    let a = c.args in
    let l = c.loop-child in
    record { path_says = never_deeper a.n a.parts.now a.nodes a.k c.requires.index_place.0 c.requires.index_place.1 l.path l.depth l.p l.invariant.1 l.invariant.2 c.in-Some.child c.if-depth-ge-DEPTH.true (below (goal.at.returns-then-depth-ge-DEPTH c).In-Some); kept_from = kept a.path.now l.path l.invariant.0 }

pub returns : goal.returns
returns c =
    let a = c.args in
    let l = c.loop-child in
    record { path_says = record { leads = l.invariant.1; leaf = subst (LeafAt a.parts.now a.n a.nodes) l.invariant.2 (rw c.in_default.is at c.in_ok-child.ensures) }; kept_from = kept a.path.now l.path l.invariant.0 }

pub loop-child-preserved : goal.loop-child-preserved
loop-child-preserved c =
    let a = c.args in
    let l = c.loop-child in
    let child = c.in-Some.child in
    let room : 18 ≤ length l.path = omega (arith, c.requires.in_bounds.0, l.invariant.0.long, length-set a.path.now 0 0) in
    let e : l.depth + 1 - 1 ≡ l.depth = omega arith in (
      kept_set 18 (set a.path.now 0 0) l.path l.depth child c.if-depth-ge-DEPTH.false l.invariant.0,
      leads_more a.parts.now a.nodes a.k l.path l.depth child room c.if-depth-ge-DEPTH.false l.invariant.1 (subst (λ q. Below a.parts.now a.nodes a.k q child) l.invariant.2 (below (goal.at.loop-child-preserved c).In-Some)),
      sym (ap (λ (x : ℕ). get_or (set l.path l.depth child) x 0) e ∙ get_or-set_same l.path l.depth child 0 (omega (arith, c.if-depth-ge-DEPTH.false))),
    )
