-- `nodes::refit_leaf` meets its contract: what `is_fit` tested is what fitting the leaf asks.
use Rattle.std.proofs.Common.{sym, ◌∙◌}
use Rattle.nodes.proofs.Tests.{fits_of}
use Rattle.nodes.proofs.refit_leaf.Goals as goal

pub part_box-requires-clause-ring_ends : goal.part_box-requires-clause-ring_ends
part_box-requires-clause-ring_ends c = let a = c.args in (fits_of a.n a.count a.corners.now a.rings.now a.edges.now c.in_ok-node.node (sym c.is_fit.ensures ∙ c.if-not-is_fit.false)).ends

pub part_box-requires-clause-names : goal.part_box-requires-clause-names
part_box-requires-clause-names c = let a = c.args in (fits_of a.n a.count a.corners.now a.rings.now a.edges.now c.in_ok-node.node (sym c.is_fit.ensures ∙ c.if-not-is_fit.false)).names
