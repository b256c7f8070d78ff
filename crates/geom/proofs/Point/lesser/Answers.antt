-- `geom::Point::lesser` meets its contract: what the library's `min` gave of each coordinate, read back.
use Rattle.std.proofs.Common.{rules}
use Rattle.integers.proofs.Bits.{least}
use Rattle.geom.proofs.Point.lesser.Goals as goal

pub returns : goal.returns
returns c =
    let a = c.args in
    λ i. record {
      x = least a.self.x a.other.x c.min.result (search rules) (search rules) (search rules) c.min.ensures.value i;
      y = least a.self.y a.other.y c.min-2.result (search rules) (search rules) (search rules) c.min-2.ensures.value i;
    }
