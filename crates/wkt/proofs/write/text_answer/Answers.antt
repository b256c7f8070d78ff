-- `wkt::write::text_answer` meets its contract.
use Rattle.wkt.proofs.Writings.{too_long, too_short_lem, text_fits}
use Rattle.wkt.proofs.write.text_answer.Goals as goal

pub returns-then-length-gt-MAX_TEXT : goal.returns-then-length-gt-MAX_TEXT
returns-then-length-gt-MAX_TEXT c = let a = c.args in too_long a.plan.now a.room _ c.text_length-length.ensures c.if-length-gt-MAX_TEXT.true

pub returns-then-room-length : goal.returns-then-room-length
returns-then-room-length c = let a = c.args in too_short_lem a.plan.now a.room _ c.text_length-length.ensures c.if-length-gt-MAX_TEXT.false c.if-room-length.true

pub returns : goal.returns
returns c = let a = c.args in text_fits a.plan.now a.room _ c.text_length-length.ensures c.if-length-gt-MAX_TEXT.false c.if-room-length.false
