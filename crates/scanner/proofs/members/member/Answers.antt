-- `scanner::members::member` meets its contract.
use borrow.Author.Rules.{rules}
use mathlib.Core.Path.{◌≡◌, sym, subst}
use Rattle.std.specs.Prelude.{Some, Err}
use Rattle.grammar.proofs.Steps.{other_byte, none_byte}
use Rattle.scanner.specs.Scanned.{MemberScanned}
use Rattle.scanner.proofs.MemberScans.{member_off, member_opened, empty_off, empty_there}
use Rattle.scanner.proofs.members.member.Goals as goal

pub returns-in-Some-eq40 : goal.returns-in-Some-eq40
returns-in-Some-eq40 c = let m = c.next_byte-first.result in let k = c.next_byte-first.ensures in let e : m.byte ≡ Some 40 = search rules in member_opened c.args.text.now c.args.at m k c.args.extent c.args.corners.now _ c.args.lengths.now _ c.args.counts.now _ c.polygon.result e c.polygon.ensures

pub returns-in_err-word-in-Some-eq69 : goal.returns-in_err-word-in-Some-eq69
returns-in_err-word-in-Some-eq69 c = let m = c.next_byte-first.result in let k = c.next_byte-first.ensures in let b : m.byte ≡ Some 69 = search rules in let e : c.from_residual.result ≡ Err c.in_err-word-in-Some-eq69.field-0.0 = search rules in subst (MemberScanned c.args.text.now c.args.at c.args.extent c.args.corners.now c.args.corners.now c.args.lengths.now c.args.lengths.now c.args.counts.now c.args.counts.now) (sym e) (empty_off c.args.text.now c.args.at m k _ b c.in_err-word-in-Some-eq69.ensures)

pub returns-in_ok-word-in-Some-eq69 : goal.returns-in_ok-word-in-Some-eq69
returns-in_ok-word-in-Some-eq69 c = let m = c.next_byte-first.result in let k = c.next_byte-first.ensures in let b : m.byte ≡ Some 69 = search rules in empty_there c.args.text.now c.args.at m k c.in_ok-word-in-Some-eq69.field-0 c.args.extent c.args.corners.now c.args.lengths.now c.args.counts.now b c.in_ok-word-in-Some-eq69.ensures c.requires.2

pub returns-in_default : goal.returns-in_default
returns-in_default c = let m = c.next_byte-first.result in let k = c.next_byte-first.ensures in member_off c.args.text.now c.args.at m k (other_byte m.byte c.in_default.field-0 40 c.in_default.is (search rules)) (other_byte m.byte c.in_default.field-0 69 c.in_default.is (search rules))

pub returns-in_default-2 : goal.returns-in_default-2
returns-in_default-2 c = let m = c.next_byte-first.result in let k = c.next_byte-first.ensures in member_off c.args.text.now c.args.at m k (none_byte m.byte 40 c.in_default.is) (none_byte m.byte 69 c.in_default.is)
