-- `nodes::ends_rise` meets its contract: the library's `is_sorted` says of each end and the next what the definition asks.
use native.Mathlib.Omega.{arith}
use Rattle.std.proofs.Common.{sym, ◌∙◌}
use Rattle.nodes.proofs.Tests.{rings_short, rise_told, rise_breaks, rise_done}
use Rattle.nodes.proofs.ends_rise.Goals as goal

pub returns-then-rings-count : goal.returns-then-rings-count
returns-then-rings-count c = let a = c.args in rings_short a.rings.now a.n a.count (omega arith)

pub returns-then-is_sorted : goal.returns-then-is_sorted
returns-then-is_sorted c =
    let a = c.args in
    let long = c.if-rings-count.false in
    rise_done a.rings.now a.n a.count long (sym c.if-is_sorted.true ∙ rise_told a.rings.now a.count long c.is_sorted.result c.is_sorted.ensures.cases) c.start_of.result c.start_of.ensures

pub returns-else-is_sorted : goal.returns-else-is_sorted
returns-else-is_sorted c =
    let a = c.args in
    let long = c.if-rings-count.false in
    c.if-is_sorted.false ∙ rise_breaks a.rings.now a.n a.count long (sym c.if-is_sorted.false ∙ rise_told a.rings.now a.count long c.is_sorted.result c.is_sorted.ensures.cases)
