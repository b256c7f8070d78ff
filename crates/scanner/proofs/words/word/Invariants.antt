-- `scanner::words::word` meets its contract.
use mathlib.Core.Path.{◌≡◌}
use Prim.Native.Nat.{ℕ, ◌+◌, ◌<◌}
use lib.ListN.{get_or}
use Rattle.std.specs.Prelude.{Some}
use Rattle.grammar.specs.Tokens.{byte_at}
use Rattle.scanner.proofs.words.word.Given as goal

abbrev pub invariant-loop-n : goal.invariant-loop-n
invariant-loop-n l = (j : ℕ) → j < l.n → byte_at l.text (l.at + j) ≡ Some (get_or l.word j 0)
