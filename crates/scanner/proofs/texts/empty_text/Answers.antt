-- `scanner::texts::empty_text` meets its contract.
use borrow.Author.Rules.{rules}
use mathlib.Core.Path.{◌≡◌, sym, subst}
use Rattle.std.specs.Prelude.{Err}
use Rattle.grammar.specs.Modes.{empty_text_mode}
use Rattle.scanner.specs.Scanned.{EmptyScanned}
use Rattle.scanner.proofs.TextScans.{empty_cut, empty_long, empty_whole}
use Rattle.scanner.proofs.texts.empty_text.Goals as goal

pub returns-in_err-end : goal.returns-in_err-end
returns-in_err-end c = let e : c.from_residual.result ≡ Err c.in_err-end.field-0.0 = search rules in subst (EmptyScanned c.args.text.now c.args.at (empty_text_mode 1)) (sym e) (empty_cut c.args.text.now c.args.at _ c.in_err-end.ensures)

pub returns-then-end-text : goal.returns-then-end-text
returns-then-end-text c = empty_long c.args.text.now c.args.at c.in_ok-end.end c.in_ok-end.ensures c.if-end-text.true

pub returns : goal.returns
returns c = empty_whole c.args.text.now c.args.at c.in_ok-end.end c.in_ok-end.ensures c.if-end-text.false
