-- `text::line_found` meets its contract: where the line stands that the search has come to.
use Rattle.text.proofs.LineSearch.{Passed}
use Rattle.text.proofs.line_found.Given as goal

abbrev pub invariant-loop-passed : goal.invariant-loop-passed
invariant-loop-passed l = Passed l.text l.k l._passed l.rest
