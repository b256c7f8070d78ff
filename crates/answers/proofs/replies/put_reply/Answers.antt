-- `answers::replies::put_reply` meets its contract.
use mathlib.Core.Path.{ap, subst, ◌∙◌}
use borrow.Author.Rules.{rules}
use Rattle.fields.specs.Written.{Wrote}
use Rattle.rules.specs.Tables.{plan_of}
use Rattle.answers.specs.Replies.{place_word, reply_word}
use Rattle.answers.specs.Words.{tab, line_end}
use Rattle.answers.proofs.Lines.{wrote_four}
use Rattle.answers.proofs.replies.put_reply.Goals as goal

pub returns : goal.returns
returns c =
    let a = c.args in
    let word = reply_word (plan_of a.state a.tables.now.corners.now a.tables.now.rings.now a.tables.now.polygons.now) a.spot in
    record { wrote = wrote_four a.output.now.at a.line.now tab word line_end a.output.now.bytes.now _ _ _ _ _ _ _ _ c.requires.1 c.put.ensures.wrote c.put-2.ensures.wrote (subst (λ bytes. Wrote c.put-2.new.self.at bytes c.put-2.new.self.bytes.now c.put-3.new.self.bytes.now c.put-3.new.self.at) (c.word_of.ensures ∙ ap place_word c.place_at-place.ensures) c.put-3.ensures.wrote) c.put-4.ensures.wrote; same_reference = search rules }
