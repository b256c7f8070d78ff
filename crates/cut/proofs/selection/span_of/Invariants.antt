-- `cut::selection::span_of` meets its contract: the span of what was read so far, and how much that was.
use mathlib.Core.Path.{◌≡◌}
use Prim.Native.Nat.{◌+◌}
use Rattle.cut.specs.Selection.{Spans}
use Rattle.cut.proofs.selection.span_of.Given as goal

abbrev pub invariant-loop-i : goal.invariant-loop-i
invariant-loop-i l = Spans l.values l.lo l.i l.span.least l.span.greatest × (l.seen + l.lo ≡ l.i)
