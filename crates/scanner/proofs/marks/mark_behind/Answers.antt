-- `scanner::marks::mark_behind` meets its contract.
use borrow.Author.Rules.{rules}
use mathlib.Core.Path.{◌≡◌}
use Rattle.std.specs.Prelude.{Some}
use Rattle.grammar.proofs.Steps.{other_byte, none_byte}
use Rattle.scanner.specs.declared.marks.Mark.TheVariants.{Comma, Bracket}
use Rattle.scanner.proofs.MarkScans.{mark_off, mark_there}
use Rattle.scanner.proofs.marks.mark_behind.Goals as goal

pub returns-in-Some-eq44 : goal.returns-in-Some-eq44
returns-in-Some-eq44 c = let m = c.next_byte-place.result in let e : m.byte ≡ Some 44 = search rules in mark_there c.args.text.now c.args.end m c.next_byte-place.ensures Comma e

pub returns-in-Some-eq41 : goal.returns-in-Some-eq41
returns-in-Some-eq41 c = let m = c.next_byte-place.result in let e : m.byte ≡ Some 41 = search rules in mark_there c.args.text.now c.args.end m c.next_byte-place.ensures Bracket e

pub returns-in_default : goal.returns-in_default
returns-in_default c = let m = c.next_byte-place.result in mark_off c.args.text.now c.args.end m c.next_byte-place.ensures (other_byte m.byte c.in_default.field-0 44 c.in_default.is (search rules)) (other_byte m.byte c.in_default.field-0 41 c.in_default.is (search rules))

pub returns-in_default-2 : goal.returns-in_default-2
returns-in_default-2 c = let m = c.next_byte-place.result in mark_off c.args.text.now c.args.end m c.next_byte-place.ensures (none_byte m.byte 44 c.in_default.is) (none_byte m.byte 41 c.in_default.is)
