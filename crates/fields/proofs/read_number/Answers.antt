-- `fields::read_number` meets its contract.
use borrow.Author.Rules.{rules}
use mathlib.Core.Path.{◌≡◌, sym, ap, ◌∙◌}
use Prim.Native.Nat.{◌^◌, ◌-◌}
use lib.ListN.{get_or}
use native.Mathlib.Omega.{arith}
use mir.Syntax.{w64}
use mir.Facts.{to_z_pos, to_z-of_z}
use Rattle.std.specs.Prelude.{Some}
use Rattle.fields.proofs.Numbers.{minus_read, no_minus, plus_read, read_within, below_zero, below_zero_lem}
use Rattle.fields.proofs.read_number.Goals as goal
use Rattle.fields.proofs.read_number.Goals.{then-field-lt1, else-field-lt1+in_default-1}

pub returns-in_err-n : goal.returns-in_err-n
returns-in_err-n c = c.from_residual.ensures ∙ minus_read c.args.field.now _ (omega (arith, c.in-45.len_at_least)) (search rules) (sym c.in_err-n.was ∙ c.read_digits.ensures)

pub negated-requires : goal.negated-requires
negated-requires c = let le = read_within (2 ^ 63) _ _ (sym c.in_ok-n.was ∙ c.read_digits.ensures) in (search rules, le)

pub returns-in-0 : goal.returns-in-0
returns-in-0 c = ap below_zero (sym c.in-0.is) ∙ minus_read c.args.field.now _ (omega (arith, c.in-45.len_at_least)) (search rules) (sym c.in_ok-n.was ∙ c.read_digits.ensures)

pub returns-in_default-2 : goal.returns-in_default-2
returns-in_default-2 c = ap Some (to_z-of_z {w = w64} (record { sfits = c.negated.type_inv }) ∙ c.negated.ensures) ∙ below_zero_lem _ (search rules) ∙ minus_read c.args.field.now _ (omega (arith, c.in-45.len_at_least)) (search rules) (sym c.in_ok-n.was ∙ c.read_digits.ensures)

pub returns-in_err-read_digits : goal.returns-in_err-read_digits
returns-in_err-read_digits c =
    let field = c.args.field.now in
    let other : get_or field 0 0 ≡ 45 → ⊥ = elim c.if-field-lt1.branch [ then-field-lt1 w ↦ no_minus field (search rules) | else-field-lt1+in_default-1 w ↦ (search rules) ] in
    c.from_residual-in_err-read_digits.ensures ∙ plus_read field _ other (sym c.in_err-read_digits.was ∙ c.read_digits-2.ensures)

pub overflow_cast-result : goal.overflow_cast-result
overflow_cast-result c = let le = read_within (2 ^ 63 - 1) _ _ (sym c.in_ok-read_digits.was ∙ c.read_digits-2.ensures) in record { sfits = omega arith }

pub returns : goal.returns
returns c =
    let field = c.args.field.now in
    let other : get_or field 0 0 ≡ 45 → ⊥ = elim c.if-field-lt1.branch [ then-field-lt1 w ↦ no_minus field (search rules) | else-field-lt1+in_default-1 w ↦ (search rules) ] in
    let le = read_within (2 ^ 63 - 1) _ _ (sym c.in_ok-read_digits.was ∙ c.read_digits-2.ensures) in
    ap Some (to_z_pos w64 (omega arith)) ∙ plus_read field _ other (sym c.in_ok-read_digits.was ∙ c.read_digits-2.ensures)
