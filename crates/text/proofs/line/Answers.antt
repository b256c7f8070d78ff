-- `text::line` meets its contract: the bytes of its span.
use Rattle.text.proofs.LineSearch.{span_taken}
use Rattle.text.proofs.line.Goals as goal

pub returns : goal.returns
returns c =
    let a = c.args in
    let l = c.line_span-span in
    span_taken a.text.now a.k l.result l.ensures
