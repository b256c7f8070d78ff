-- `scanner::texts::scan` meets its contract.
use borrow.Author.Rules.{rules}
use mathlib.Core.Path.{◌≡◌, sym, subst}
use Prim.Native.Nat.{◌+◌}
use Rattle.std.specs.Prelude.{Ok, Err}
use Rattle.grammar.specs.Modes.{start_mode}
use Rattle.grammar.proofs.Steps.{byte_same}
use Rattle.scanner.specs.Scanned.{bracketed, TextScanned}
use Rattle.scanner.proofs.TextScans.{all_whole, all_cut, word_alone, behind_bracket}
use Rattle.scanner.proofs.texts.scan.Goals as goal

pub returns-then-ne : goal.returns-then-ne
returns-then-ne c = let a = c.args in let w = c.in_ok-multi in word_alone a.text.now w.multi w.at w.ensures a.corners.now a.lengths.now a.counts.now c.without_brackets.result c.without_brackets.ensures

pub returns-in_err-extent : goal.returns-in_err-extent
returns-in_err-extent c =
    let a = c.args in
    let w = c.in_ok-multi in
    let m = c.next_byte-next.result in
    let n = c.in_brackets.new in
    let e : c.from_residual-in_err-extent.result ≡ Err c.in_err-extent.field-0.0 = search rules in
    subst (TextScanned a.text.now 0 start_mode a.corners.now n.corners a.lengths.now n.lengths a.counts.now n.counts) (sym e)
    (behind_bracket a.text.now w.multi w.at w.ensures m c.next_byte-next.ensures (byte_same m.byte 40 c.if-ne.ensures) a.corners.now n.corners a.lengths.now n.lengths a.counts.now n.counts (Err c.in_err-extent.field-0.0) c.in_err-extent.ensures)

pub returns-in_err-to_end : goal.returns-in_err-to_end
returns-in_err-to_end c =
    let a = c.args in
    let w = c.in_ok-multi in
    let m = c.next_byte-next.result in
    let n = c.in_brackets.new in
    let g = c.in_ok-extent in
    let e : c.from_residual-in_err-to_end.result ≡ Err c.in_err-to_end.field-0.0 = search rules in
    subst (TextScanned a.text.now 0 start_mode a.corners.now n.corners a.lengths.now n.lengths a.counts.now n.counts) (sym e)
    (behind_bracket a.text.now w.multi w.at w.ensures m c.next_byte-next.ensures (byte_same m.byte 40 c.if-ne.ensures) a.corners.now n.corners a.lengths.now n.lengths a.counts.now n.counts (Err c.in_err-to_end.field-0.0)
    (all_cut a.text.now (m.at + 1) (bracketed w.multi) a.corners.now n.corners a.lengths.now n.lengths a.counts.now n.counts g.extent g.end g.ensures _ c.in_err-to_end.ensures))

pub returns : goal.returns
returns c =
    let a = c.args in
    let w = c.in_ok-multi in
    let m = c.next_byte-next.result in
    let n = c.in_brackets.new in
    let g = c.in_ok-extent in
    behind_bracket a.text.now w.multi w.at w.ensures m c.next_byte-next.ensures (byte_same m.byte 40 c.if-ne.ensures) a.corners.now n.corners a.lengths.now n.lengths a.counts.now n.counts (Ok g.extent)
    (all_whole a.text.now (m.at + 1) (bracketed w.multi) a.corners.now n.corners a.lengths.now n.lengths a.counts.now n.counts g.extent g.end g.ensures c.in_ok-to_end.field-0 c.in_ok-to_end.ensures)
