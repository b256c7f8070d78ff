-- `gather::region::fold_slots` meets its contract.
use mathlib.Core.Path.{sym, ap, ◌∙◌, subst}
use Prim.Native.Nat.{ℕ}
use native.Mathlib.Omega.{arith}
use lib.IntN.{pos}
use lib.ListN.{get_or}
use Rattle.integers.proofs.Bits.{rd_is}
use Rattle.rules.specs.declared.Location.{Location}
use Rattle.fold.specs.Folds.{Folds}
use Rattle.gather.specs.Slots.{place_of}
use Rattle.gather.specs.Tallies.{ring_at}
use Rattle.gather.proofs.Folding.{FoldedTo, folded_none, folded_more, folded_all}
use Rattle.gather.proofs.region.fold_slots.Goals as goal

pub loop-k-init : goal.loop-k-init
loop-k-init c =
    let a = c.args in
    λ places f S. subst (FoldedTo a.kind places a.polygons.now a.polygon_count a.count a.layout a.listed.now 0) (sym c.begin-fold.ensures) (folded_none a.kind places a.polygons.now a.polygon_count a.count a.layout a.listed.now)

pub loop-k-preserved : goal.loop-k-preserved
loop-k-preserved c =
    let a = c.args in
    let l = c.loop-k in
    let place = c.place_of-place.ensures ∙ ap place_of (rd_is (get_or a.slots.now l.k (pos 0)) (record { sfits = c.place_of-arg-1.given })) in
    let step : Folds a.polygons.now a.polygon_count l.fold (ring_at a.layout a.listed.now l.k) (place_of (get_or a.slots.now l.k (pos 0))) c.fold_ring-fold.result
    = subst (λ (x : Location). Folds a.polygons.now a.polygon_count l.fold (ring_at a.layout a.listed.now l.k) x c.fold_ring-fold.result) place
    (subst (λ (x : ℕ). Folds a.polygons.now a.polygon_count l.fold x c.place_of-place.result c.fold_ring-fold.result) c.ring_at-ring.ensures c.fold_ring-fold.ensures) in
    λ places f S. folded_more a.kind places a.polygons.now a.polygon_count a.count f a.layout a.listed.now a.slots.now S l.k l.fold (l.invariant places f S) (omega (arith, c.size_of-k-end.ensures)) c.fold_ring-fold.result step

pub returns : goal.returns
returns c =
    let a = c.args in
    let l = c.loop-k in
    λ places f S. c.finish.ensures ∙ folded_all a.kind places a.polygons.now a.polygon_count a.count f a.layout a.listed.now a.slots.now S l.k l.fold (l.invariant places f S) (omega (arith, c.size_of-k-end.ensures))
