-- `testing::leaves::testing_product` meets its contract.
use mathlib.Core.Path.{◌≡◌, sym, ◌∙◌, subst}
use Prim.Native.Nat.{◌<◌}
use lib.IntN.{nat_abs, ◌-ℤ◌, ◌*ℤ◌}
use Rattle.integers.specs.Words.{value_of, word_pair}
use Rattle.integers.proofs.Bits.{read₂}
use Rattle.predicates.proofs.TurnSizes.{product_fits}
use Rattle.testing.proofs.leaves.testing_product.Goals as goal
use Rattle.testing.proofs.leaves.testing_product.Goals.{After-difference-2, Start}

module _ (c : After-difference-2) where
  abbrev s : Start
  s = c.before.before

  exact : value_of c.difference.result *ℤ value_of c.difference-2.result ≡ (s.args.a -ℤ s.args.b) *ℤ (s.args.c -ℤ s.args.d)
  exact =
      (λ i. c.difference.ensures i *ℤ c.difference-2.ensures i)
      ∙ (λ i. read₂ ◌-ℤ◌ s.args.a s.args.b s.ranges.a s.ranges.b i *ℤ read₂ ◌-ℤ◌ s.args.c s.args.d s.ranges.c s.ranges.d i)

pub signed_product-requires : goal.signed_product-requires
signed_product-requires c =
    subst (λ z. nat_abs z < word_pair) (sym (exact c)) (product_fits c.args.a c.args.b c.args.c c.args.d c.ranges.a c.ranges.b c.ranges.c c.ranges.d)

pub returns : goal.returns
returns c = c.from.ensures ∙ c.signed_product.ensures ∙ exact (goal.at.returns c).After-difference-2
