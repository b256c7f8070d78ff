-- `scanner::texts::without_brackets` meets its contract.
use mathlib.Core.List.{[]}
use Prim.Native.Nat.{◌+◌, ◌<◌}
use mathlib.Core.Path.{◌≡◌}
use native.Mathlib.Omega.{arith}
use Rattle.std.specs.Prelude.{Some}
use Rattle.grammar.specs.Modes.{word_mode, empty_text_mode}
use Rattle.grammar.proofs.Steps.{byte_same, byte_differs}
use Rattle.scanner.specs.Scanned.{so_far_of}
use Rattle.scanner.proofs.TextScans.{before, neither, empty_begins}
use Rattle.scanner.proofs.texts.without_brackets.Goals as goal
use Rattle.scanner.proofs.texts.without_brackets.Goals.{then-ne-via-then-ne, then-ne-via-else-ne+then-next-at}

pub returns-then-ne : goal.returns-then-ne
returns-then-ne c =
    let m = c.args.next in
    let other : c.args.at < m.at → m.byte ≡ Some 69 → ⊥ = elim c.then-ne.branch [ then-ne-via-then-ne w ↦ (λ h. byte_differs m.byte 69 w.if-ne.ensures) | then-ne-via-else-ne+then-next-at w ↦ (λ h z. let s = w.if-next-at.true in omega (arith, h, s)) ] in
    λ multi e corners lengths counts. neither c.args.text.now c.args.at multi e m c.requires.1 (so_far_of [] []) c.requires.2 other

pub returns : goal.returns
returns c =
    let m = c.args.next in
    λ multi e corners lengths counts. before c.args.text.now (m.at + 1) (empty_text_mode 1) c.args.at (word_mode multi c.args.at) corners corners lengths lengths counts counts c.empty_text.result (empty_begins c.args.text.now c.args.at multi e m c.requires.1 (so_far_of [] []) (let o = c.requires.1.skipped.on in let n = c.if-next-at.false in omega (arith, o, n)) (byte_same m.byte 69 c.if-ne.ensures)) (c.empty_text.ensures corners lengths counts)
