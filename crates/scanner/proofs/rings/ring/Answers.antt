-- `scanner::rings::ring` meets its contract.
use borrow.Author.Rules.{rules}
use mathlib.Core.Path.{◌≡◌, refl, sym, ap, subst, ◌∙◌}
use native.Mathlib.Omega.{arith}
use Rattle.std.specs.Prelude.{Err}
use lib.ListN.{set}
use Rattle.grammar.specs.Modes.{want_x_mode}
use Rattle.scanner.specs.Extents.{with_ring}
use Rattle.scanner.specs.Marks.{MarkThere}
use Rattle.scanner.specs.Scanned.{PositionRead, RingScanned}
use Rattle.scanner.proofs.RingScans.{no_round, round_early, mark_missed, one_more, ring_whole}
use Rattle.scanner.proofs.rings.ring.Goals as goal

pub loop-count-init : goal.loop-count-init
loop-count-init c = let a = c.args in (no_round a.text.now a.at a.extent.corners a.corners.now c.requires.1, refl)

pub returns-in_err-mark : goal.returns-in_err-mark
returns-in_err-mark c =
    let a = c.args in
    let l = c.loop-count in
    let e : c.from_residual-in_err-mark.result ≡ Err c.in_err-mark.field-0.0 = search rules in
    subst (RingScanned a.text.now a.at want_x_mode a.extent a.corners.now l.corners a.lengths.now l.lengths) (sym e)
    (mark_missed a.text.now a.at a.extent.corners a.corners.now l.corners l.first l.count l.place l.invariant.0 c.in_ok-p.p c.in_ok-p.end (subst (PositionRead a.text.now l.place) c.in_ok-p.was c.read_position.ensures) _ c.in_err-mark.ensures)

pub returns-in-Bracket : goal.returns-in-Bracket
returns-in-Bracket c =
    let a = c.args in
    let l = c.loop-count in
    ring_whole a.text.now a.at a.extent.corners a.corners.now l.corners l.first l.count l.place l.invariant.0 c.in_ok-p.p c.in_ok-p.end (subst (PositionRead a.text.now l.place) c.in_ok-p.was c.read_position.ensures) c.in_ok-mark.next
    (subst (λ mark. MarkThere a.text.now c.in_ok-p.end mark c.in_ok-mark.next) c.in-Bracket.is c.in_ok-mark.ensures) a.extent c.with_ring.result a.lengths.now c.store.new.table refl c.requires.2
    (c.with_ring.ensures ∙ ap (with_ring a.extent l.count) c.closes.ensures) (c.store.ensures ∙ ap (λ t. set t a.extent.rings l.count) l.invariant.1)

pub loop-count-preserved : goal.loop-count-preserved
loop-count-preserved c =
    let a = c.args in
    let l = c.loop-count in (
      one_more a.text.now a.at a.extent.corners a.corners.now l.corners l.first l.count l.place l.invariant.0 c.in_ok-p.p c.in_ok-p.end (subst (PositionRead a.text.now l.place) c.in_ok-p.was c.read_position.ensures) c.in_ok-mark.next
          (subst (λ mark. MarkThere a.text.now c.in_ok-p.end mark c.in_ok-mark.next) c.in-Comma.is c.in_ok-mark.ensures) c.or-first.result c.store_corner.new.table c.or-first.ensures c.store_corner.ensures,
      l.invariant.1,
    )

pub returns : goal.returns
returns c = let a = c.args in let l = c.loop-count in round_early a.text.now a.at a.extent.corners a.corners.now l.corners l.first l.count l.place l.invariant.0 (let o = l.invariant.0.on in let e = c.loop-count-test.false in omega arith)
