-- `answers::replies::refuse` meets its contract.
use mathlib.Core.Path.{ap, subst}
use borrow.Author.Rules.{rules}
use Rattle.fields.specs.Written.{Wrote}
use Rattle.rules.specs.Numbers.{refusal_number}
use Rattle.answers.specs.Replies.{number_field, line_named}
use Rattle.answers.specs.Words.{refused, line_end}
use Rattle.answers.proofs.Lines.{wrote_four}
use Rattle.answers.proofs.replies.refuse.Goals as goal

pub returns : goal.returns
returns c =
    let o = c.args.output.now in
    let first = c.put_number in
    let second = c.put_number-2 in
    let number = subst (λ n. Wrote c.put.new.self.at (number_field n) c.put.new.self.bytes.now first.new.output.bytes.now first.new.output.at) c.from.ensures first.ensures.wrote in
    let line = subst (λ n. Wrote first.new.output.at (number_field n) first.new.output.bytes.now second.new.output.bytes.now second.new.output.at) c.line_named.ensures second.ensures.wrote in
    record { wrote = wrote_four o.at refused (number_field (refusal_number c.args.refusal)) (number_field (line_named c.args.refusal)) line_end o.bytes.now _ _ _ _ _ _ _ _ c.requires c.put.ensures.wrote number line c.put-2.ensures.wrote; same_reference = search rules }
