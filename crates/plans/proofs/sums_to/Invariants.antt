-- `plans::sums_to` meets its contract: what is left of n, less each entry in turn, is 0 at the end where the table sums to n.
use Rattle.plans.proofs.Sums.{Remaining}
use Rattle.plans.proofs.sums_to.Given as goal

abbrev pub invariant-loop-entry : goal.invariant-loop-entry
invariant-loop-entry l = Remaining l.table l.n l.left l.entry-index
