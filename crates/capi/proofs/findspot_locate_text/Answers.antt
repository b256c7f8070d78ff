-- `capi::findspot_locate_text` meets its contract.
use mathlib.Core.Path.{ap, ap₂, ◌∙◌}
use mir.Syntax.{w64}
use mir.Facts.{to_z-of_z}
use Rattle.integers.proofs.Bits.{rd_is}
use Rattle.rules.specs.Numbers.{reply_number}
use Rattle.capi.specs.Replies.{text_reply}
use Rattle.capi.proofs.findspot_locate_text.Goals as goal

pub returns : goal.returns
returns c =
    to_z-of_z {w = w64} (record { sfits = c.reply_number.type_inv })
    ∙ c.reply_number.ensures
    ∙ ap reply_number (c.locate_in-reply.ensures ∙ ap₂ (λ x y. text_reply c.args.text.now (record { x = x; y = y })) (rd_is c.args.x c.ranges.x) (rd_is c.args.y c.ranges.y))
