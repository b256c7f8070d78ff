-- `integers::product` meets its contract: the two words of the product.
use Rattle.std.proofs.Common.{arith}
use Rattle.integers.specs.Words.{size_of}
use Rattle.integers.proofs.product.Goals as goal

pub returns : goal.returns
unfolding size_of
returns c = omega (arith, c.carrying_mul-hi.ensures)
