-- `text::line_span` meets its contract.
use Rattle.std.proofs.Common.{rules}
use Rattle.text.proofs.LineSearch.{span_or_zeros}
use Rattle.text.proofs.line_span.Goals as goal

pub returns : goal.returns
returns c = span_or_zeros c.args.text.now c.args.k c.line_found.result c.unwrap_or_default.result _ (λ s h. search rules) c.line_found.ensures c.unwrap_or_default.ensures
