-- `writer::corner_count` meets its contract: the library's sum is `total`.
use borrow.Author.Rules.{rules}
use mathlib.Core.Path.{◌≡◌, ◌∙◌}
use Prim.Native.Nat.{◌^◌, ◌<◌}
use native.Mathlib.Omega.{arith}
use Rattle.std.specs.Prelude.{sum}
use Rattle.rules.proofs.Library.{total_is}
use Rattle.writer.proofs.corner_count.Goals as goal

pub sum-requires-clause-fits : goal.sum-requires-clause-fits
sum-requires-clause-fits c = let same = total_is c.args.lengths.now in let few : sum c.args.lengths.now < 2 ^ 64 = omega (arith, same, c.requires) in search rules

pub returns : goal.returns
returns c = let summed : c.sum.result ≡ sum c.args.lengths.now = search rules in summed ∙ total_is c.args.lengths.now
