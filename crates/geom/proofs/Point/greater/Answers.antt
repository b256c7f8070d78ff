-- `geom::Point::greater` meets its contract: what the library's `max` gave of each coordinate, read back.
use Rattle.std.proofs.Common.{rules}
use Rattle.integers.proofs.Bits.{greatest}
use Rattle.geom.proofs.Point.greater.Goals as goal

pub returns : goal.returns
returns c =
    let a = c.args in
    λ i. record {
      x = greatest a.self.x a.other.x c.max.result (search rules) (search rules) (search rules) c.max.ensures.value i;
      y = greatest a.self.y a.other.y c.max-2.result (search rules) (search rules) (search rules) c.max-2.ensures.value i;
    }
