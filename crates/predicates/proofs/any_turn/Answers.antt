-- `predicates::any_turn` meets its contract: two words and a borrow hold it.
use mathlib.Core.Path.{◌∙◌}
use Rattle.integers.specs.Words.{wide_value_of}
use Rattle.predicates.proofs.TurnSizes.{factors_fit, Crossed, crossed}
use Rattle.predicates.proofs.any_turn.Goals as goal
use Rattle.predicates.proofs.any_turn.Goals.{After-signed_product-q}

pub signed_product-p-requires : goal.signed_product-p-requires
signed_product-p-requires c = let r = c.ranges in factors_fit _ _ _ _ _ _ r.bx r.ax r.cy r.ay c.difference.ensures c.difference-2.ensures

pub signed_product-q-requires : goal.signed_product-q-requires
signed_product-q-requires c = let r = c.ranges in factors_fit _ _ _ _ _ _ r.by r.ay r.cx r.ax c.difference-3.ensures c.difference-4.ensures

products : (c : After-signed_product-q) → let a = c.args in Crossed (record { x = a.ax; y = a.ay }) (record { x = a.bx; y = a.by }) (record { x = a.cx; y = a.cy }) (wide_value_of c.signed_product-p.result) (wide_value_of c.signed_product-q.result)
products c =
    let r = c.ranges in
    crossed _ _ _ _ _ _ _ _ _ (r.ax, r.ay) (r.bx, r.by) (r.cx, r.cy) c.difference.ensures c.difference-2.ensures c.signed_product-p.ensures c.difference-3.ensures c.difference-4.ensures c.signed_product-q.ensures

pub signed_difference-requires : goal.signed_difference-requires
signed_difference-requires c = (products c).fits

pub returns : goal.returns
returns c = c.signed_difference.ensures ∙ (products (goal.at.returns c).After-signed_product-q).turn
