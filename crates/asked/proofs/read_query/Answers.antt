-- `asked::read_query` meets its contract.
use Rattle.asked.proofs.FieldsAsked.{more_fields}
use Rattle.asked.proofs.read_query.Goals as goal

pub returns-then-is_some : goal.returns-then-is_some
returns-then-is_some c = more_fields c.args.line.now c.in_ok-word.word.now c.in_ok-word.rest.now c.in_ok-first.first.now c.in_ok-first.second.now c.in_ok-word.ensures c.in_ok-first.ensures c.split_once-3.result c.split_once-3.ensures c.if-is_some.ensures
