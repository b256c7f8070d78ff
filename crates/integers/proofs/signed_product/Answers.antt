-- `integers::signed_product` meets its contract: the product of the words, less what the borrows count too much.
use Rattle.std.proofs.Common.{arith}
use Rattle.integers.proofs.Borrows.{product_exact}
use Rattle.integers.proofs.signed_product.Goals as goal

pub returns : goal.returns
returns c =
    product_exact c.args.a c.args.b c.product-hi.result _ _ _ _ _ _ (omega arith) (omega arith) c.product-hi.ensures c.word_if.ensures c.word_if-2.ensures
    c.borrowing_sub-once.ensures c.borrowing_sub-twice.ensures c.requires
