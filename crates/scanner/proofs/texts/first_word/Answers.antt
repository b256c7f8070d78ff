-- `scanner::texts::first_word` meets its contract.
use borrow.Author.Rules.{rules}
use mathlib.Core.Path.{◌≡◌, sym, subst}
use Rattle.std.specs.Prelude.{Err}
use Rattle.scanner.specs.Scanned.{FirstWordRead}
use Rattle.scanner.proofs.TextScans.{one_cut, many_cut, one_word, many_word, none_starts, nothing_starts}
use Rattle.scanner.proofs.texts.first_word.Goals as goal

pub returns-in_err-word-in-Some-eq80 : goal.returns-in_err-word-in-Some-eq80
returns-in_err-word-in-Some-eq80 c = let e : c.from_residual.result ≡ Err c.in_err-word-in-Some-eq80.field-0.0 = search rules in subst (FirstWordRead c.args.text.now) (sym e) (one_cut c.args.text.now (search rules) (search rules) _ c.in_err-word-in-Some-eq80.ensures)

pub returns-in_err-word-in-Some-eq77 : goal.returns-in_err-word-in-Some-eq77
returns-in_err-word-in-Some-eq77 c = let e : c.from_residual-in_err-word-in-Some-eq77.result ≡ Err c.in_err-word-in-Some-eq77.field-0.0 = search rules in subst (FirstWordRead c.args.text.now) (sym e) (many_cut c.args.text.now (search rules) (search rules) _ c.in_err-word-in-Some-eq77.ensures)

pub returns-in_ok-word-in-Some-eq80 : goal.returns-in_ok-word-in-Some-eq80
returns-in_ok-word-in-Some-eq80 c = one_word c.args.text.now (search rules) (search rules) _ c.in_ok-word-in-Some-eq80.ensures

pub returns-in_ok-word-in-Some-eq77 : goal.returns-in_ok-word-in-Some-eq77
returns-in_ok-word-in-Some-eq77 c = many_word c.args.text.now (search rules) (search rules) _ c.in_ok-word-in-Some-eq77.ensures

pub returns-in_default : goal.returns-in_default
returns-in_default c f = none_starts c.args.text.now f (search rules) (search rules) (search rules)

pub returns-in_default-2 : goal.returns-in_default-2
returns-in_default-2 c f = nothing_starts c.args.text.now f (search rules)
