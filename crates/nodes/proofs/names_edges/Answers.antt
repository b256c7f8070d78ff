-- `nodes::names_edges` meets its contract: the library's `all` asks of each place of the part what the definition asks.
use Rattle.std.proofs.Common.{rules, tests, ◌∙◌}
use Rattle.std.proofs.lemmas.Iterator.{YieldsList-from_slice}
use Rattle.std.proofs.lemmas.Iterator.Search.{all_from_yields_List}
use native.Mathlib.Omega.{arith}
use lib.Dec.{ltb}
use Rattle.nodes.proofs.Tests.{names_done}
use Rattle.nodes.proofs.names_edges.Goals as goal

pub returns : goal.returns
returns c =
    let a = c.args in
    all_from_yields_List (λ e. ltb e a.n) _ _ c.all.result c.all.ensures.ran (YieldsList-from_slice _ c.iter.ensures.rest) (λ x b q k. search (rules, tests))
    ∙ names_done a.n a.edges.now a.first a.size (omega arith)
