-- `text::line_found` meets its contract: where the line stands that the search has come to.
use Rattle.std.proofs.Common.{rules}
use Rattle.text.proofs.LineSearch.{passed_begun, passed_onward, first_piece, found}
use Rattle.text.proofs.line_found.Goals as goal

pub loop-passed-init : goal.loop-passed-init
loop-passed-init c = passed_begun c.args.text.now c.args.k (search rules)

pub loop-passed-preserved : goal.loop-passed-preserved
loop-passed-preserved c =
    let l = c.loop-passed in
    passed_onward c.args.text.now c.args.k l._passed l.rest.now l.invariant (search rules) c.in_ok-rest.field-0-0.now c.in_ok-rest.field-0-1.now (search rules)

pub returns : goal.returns
returns c =
    let l = c.loop-passed in
    found c.args.text.now c.args.k l._passed l.rest.now l.invariant c.map_or-line.result.now (first_piece l.rest.now c.split_once-2.result c.map_or-line.result.now c.split_once-2.ensures (search rules)) (search rules) (search rules)
