-- `lines::records::read_record` meets its contract.
use mathlib.Core.Path.{sym, ap, ◌∙◌}
use mathlib.Core.List.{◌∷◌}
use Rattle.fields.proofs.Pieces.{two_pieces}
use Rattle.lines.specs.Records.{record_of}
use Rattle.lines.proofs.records.read_record.Goals as goal

pub returns-then-is_some : goal.returns-then-is_some
unfolding record_of
returns-then-is_some c =
    let word = c.in-Some.word.now in
    let first = c.in-Some-split_once.first.now in
    let p = two_pieces 9 c.in-Some-split_once.second.now c.split_once-3.result c.split_once-3.ensures c.if-is_some.ensures in
    sym (ap record_of (c.in-Some.ensures.pieces ∙ ap (λ fields. word ∷ fields) (c.in-Some-split_once.ensures.pieces ∙ ap (λ fields. first ∷ fields) p.are)))
