-- `scanner::positions::read_position` meets its contract.
use borrow.Author.Rules.{rules}
use mathlib.Core.Path.{◌≡◌, sym, subst}
use Prim.Native.Nat.{◌+◌, ◌≤◌}
use native.Mathlib.Omega.{arith}
use lib.ListN.{length, get_or}
use Rattle.std.specs.Prelude.{Ok, Err}
use mir.Syntax.{w64}
use mir.Val.{to_z, of_z}
use Rattle.grammar.specs.Tokens.{wanting, NumberRead}
use Rattle.scanner.specs.Scanned.{PositionRead}
use Rattle.scanner.proofs.Pairs.{x_off, x_alone, position_read, position_cut}
use Rattle.scanner.proofs.positions.read_position.Goals as goal

pub returns-in_err-x : goal.returns-in_err-x
returns-in_err-x c = let e : c.from_residual.result ≡ Err c.in_err-x.field-0.0 = search rules in subst (PositionRead c.args.text.now c.args.at) (sym e) (x_off c.args.text.now c.args.at _ (subst (NumberRead c.args.text.now c.args.at wanting (c.args.at + 1)) c.in_err-x.was c.number.ensures))

pub returns-in_default : goal.returns-in_default
returns-in_default c = let n : get_or c.args.text.now c.in_ok-x.end 0 ≡ 32 → ⊥ = search rules in x_alone c.args.text.now c.args.at c.in_ok-x.x c.in_ok-x.end (subst (NumberRead c.args.text.now c.args.at wanting (c.args.at + 1)) c.in_ok-x.was c.number.ensures) (λ h. n)

pub returns-in_default-2 : goal.returns-in_default-2
returns-in_default-2 c = let n : length c.args.text.now ≤ c.in_ok-x.end = search rules in x_alone c.args.text.now c.args.at c.in_ok-x.x c.in_ok-x.end (subst (NumberRead c.args.text.now c.args.at wanting (c.args.at + 1)) c.in_ok-x.was c.number.ensures) (λ h. absurd (omega (arith, h, n)))

pub returns-in_err-y : goal.returns-in_err-y
returns-in_err-y c = let e : c.from_residual-in_err-y.result ≡ Err c.in_err-y.field-0.0 = search rules in subst (PositionRead c.args.text.now c.args.at) (sym e) (position_cut c.args.text.now c.args.at c.in_ok-x.x c.in_ok-x.end (subst (NumberRead c.args.text.now c.args.at wanting (c.args.at + 1)) c.in_ok-x.was c.number.ensures) (search rules) (search rules) _ (subst (NumberRead c.args.text.now (c.in_ok-x.end + 1) wanting (c.in_ok-x.end + 1 + 1)) c.in_err-y.was c.number-2.ensures))

pub returns : goal.returns
returns c = let ex : to_z w64 (of_z w64 c.in_ok-x.x) ≡ c.in_ok-x.x = search rules in let ey : to_z w64 (of_z w64 c.in_ok-y.y) ≡ c.in_ok-y.y = search rules in subst (λ z. PositionRead c.args.text.now c.args.at (Ok (record { x = z; y = to_z w64 (of_z w64 c.in_ok-y.y) }, c.in_ok-y.end))) (sym ex) (subst (λ z. PositionRead c.args.text.now c.args.at (Ok (record { x = c.in_ok-x.x; y = z }, c.in_ok-y.end))) (sym ey) (position_read c.args.text.now c.args.at c.in_ok-x.x c.in_ok-x.end (subst (NumberRead c.args.text.now c.args.at wanting (c.args.at + 1)) c.in_ok-x.was c.number.ensures) (search rules) (search rules) c.in_ok-y.y c.in_ok-y.end (subst (NumberRead c.args.text.now (c.in_ok-x.end + 1) wanting (c.in_ok-x.end + 1 + 1)) c.in_ok-y.was c.number-2.ensures)))
