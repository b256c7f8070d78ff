-- `fold::fold_ring` meets its contract: what the list's or the tree's step promises.
use mathlib.Core.Path.{sym, subst}
use Rattle.fold.specs.declared.Fold.{Fold}
use Rattle.fold.specs.declared.Fold as Fold
use Rattle.fold.specs.Folds.{Folds}
use Rattle.fold.proofs.Foldings.{folds_list, folds_tree}
use Rattle.fold.proofs.fold_ring.Goals as goal

pub returns-in-List : goal.returns-in-List
returns-in-List c =
    let a = c.args in
    subst (λ (fold : Fold). Folds a.polygons.now a.count fold a.ring a.place (Fold.TheVariants.List c.fold_list.result)) (sym c.in-List.is) (folds_list a.polygons.now a.count a.ring a.place _ c.fold_list.result c.fold_list.ensures)

pub returns-in-Tree : goal.returns-in-Tree
returns-in-Tree c =
    let a = c.args in
    subst (λ (fold : Fold). Folds a.polygons.now a.count fold a.ring a.place (Fold.TheVariants.Tree c.fold_tree.result)) (sym c.in-Tree.is) (folds_tree a.polygons.now a.count a.ring a.place _ c.fold_tree.result c.fold_tree.ensures)
