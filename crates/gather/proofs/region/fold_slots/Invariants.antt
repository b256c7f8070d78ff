-- `gather::region::fold_slots` meets its contract.
use Prim.Native.Nat.{ℕ}
use Rattle.rules.specs.declared.Location.{Location}
use Rattle.fold.specs.Folds.{Fits}
use Rattle.gather.specs.Regions.{SlotsPlace}
use Rattle.gather.proofs.Folding.{FoldedTo}
use Rattle.gather.proofs.region.fold_slots.Given as goal

abbrev pub invariant-loop-k : goal.invariant-loop-k
invariant-loop-k l =
    (places : ℕ → Location) → Fits l.fn.kind l.count l.polygon_count l.polygons → SlotsPlace places l.count l.layout l.listed l.slots → FoldedTo l.fn.kind places l.polygons l.polygon_count l.count l.layout l.listed l.k l.fold
