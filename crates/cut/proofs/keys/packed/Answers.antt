-- `cut::keys::packed` meets its contract: a key of 42 bits, moved above zero, and 20 bits below it.
use mathlib.Core.Path.{ap}
use Prim.Native.Nat.{◌+◌, ◌*◌}
use native.Mathlib.Omega.{arith}
use lib.IntN.{nat_abs}
use lib.Signed.{yes_non_neg}
use Rattle.cut.specs.Keys.{packed_of}
use Rattle.cut.proofs.Packing.{moved_up, moved_fits, moved_is, moved_small}
use Rattle.cut.proofs.keys.packed.Goals as goal

pub overflow_add-result : goal.overflow_add-result
overflow_add-result c = moved_fits c.args.key c.requires.0

pub overflow_cast-result : goal.overflow_cast-result
overflow_cast-result c = (rw (moved_is c.args.key c.requires.0) (yes_non_neg (moved_up c.args.key c.requires.0)), omega (arith, moved_small c.args.key c.requires.0))

pub overflow_mul-result : goal.overflow_mul-result
overflow_mul-result c = omega (arith, moved_small c.args.key c.requires.0)

pub overflow_add-result-2 : goal.overflow_add-result-2
overflow_add-result-2 c = omega (arith, moved_small c.args.key c.requires.0)

pub returns : goal.returns
unfolding packed_of
returns c = ap (λ z. nat_abs z * 1048576 + c.args.e) (moved_is c.args.key c.requires.0)
