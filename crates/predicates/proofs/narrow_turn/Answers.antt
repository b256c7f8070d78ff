-- `predicates::narrow_turn` meets its contract: two words alone hold it.
use mathlib.Core.Path.{◌∙◌, ap}
use native.Mathlib.Omega.{arith}
use Rattle.integers.specs.Words.{wide_value_of}
use Rattle.predicates.proofs.TurnSizes.{factors_fit, Crossed, crossed, narrow_words}
use Rattle.predicates.proofs.narrow_turn.Goals as goal
use Rattle.predicates.proofs.narrow_turn.Goals.{After-signed_product-q}

pub signed_product-p-requires : goal.signed_product-p-requires
signed_product-p-requires c = let r = c.ranges in factors_fit _ _ _ _ _ _ r.bx r.ax r.cy r.ay c.narrow_difference.ensures c.narrow_difference-2.ensures

pub signed_product-q-requires : goal.signed_product-q-requires
signed_product-q-requires c = let r = c.ranges in factors_fit _ _ _ _ _ _ r.by r.ay r.cx r.ax c.narrow_difference-3.ensures c.narrow_difference-4.ensures

products : (c : After-signed_product-q) → let a = c.args in Crossed (record { x = a.ax; y = a.ay }) (record { x = a.bx; y = a.by }) (record { x = a.cx; y = a.cy }) (wide_value_of c.signed_product-p.result) (wide_value_of c.signed_product-q.result)
products c =
    let r = c.ranges in
    crossed _ _ _ _ _ _ _ _ _ (r.ax, r.ay) (r.bx, r.by) (r.cx, r.cy) c.narrow_difference.ensures c.narrow_difference-2.ensures c.signed_product-p.ensures c.narrow_difference-3.ensures c.narrow_difference-4.ensures c.signed_product-q.ensures

pub signed_difference-turn-requires : goal.signed_difference-turn-requires
signed_difference-turn-requires c = (products c).fits

pub returns : goal.returns
returns c =
    let d = c.signed_difference-turn in
    let a = c.args in
    ap (λ b. wide_value_of (record { borrow = b; words = d.result.words })) c.top_bit.ensures
    ∙ (narrow_words a.ax a.ay a.bx a.by a.cx a.cy d.result c.requires (omega arith) (d.ensures ∙ (products (goal.at.returns c).After-signed_product-q).turn)).1
