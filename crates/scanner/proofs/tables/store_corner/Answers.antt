-- `scanner::tables::store_corner` meets its contract.
use borrow.Author.Rules.{rules}
use mathlib.Core.Path.{◌≡◌, sym, ap, ap₂, ◌∙◌}
use mir.Syntax.{w64}
use mir.Val.{to_z, of_z}
use Prim.Native.Nat.{◌*◌, ◌+◌}
use lib.ListN.{set}
use Rattle.scanner.proofs.Puts.{put_two}
use Rattle.scanner.proofs.tables.store_corner.Goals as goal

pub returns : goal.returns
returns c = let a = c.args in let ex : to_z w64 (of_z w64 a.p.x) ≡ a.p.x = search rules in let ey : to_z w64 (of_z w64 a.p.y) ≡ a.p.y = search rules in c.store-2.ensures ∙ ap₂ (λ t z. set t (2 * a.n + 1) z) (c.store.ensures ∙ ap (λ z. set a.table.now (2 * a.n) z) ex) ey ∙ sym (put_two (2 * a.n) a.p.x a.p.y a.table.now)
