-- `scanner::polygons::polygon` meets its contract.
use borrow.Author.Rules.{rules}
use mathlib.Core.Path.{◌≡◌, refl, sym, ap, subst, ◌∙◌}
use Prim.Native.Nat.{◌-◌}
use Rattle.std.specs.Prelude.{Err}
use lib.ListN.{set}
use Rattle.grammar.specs.Modes.{want_ring_mode}
use Rattle.scanner.specs.Marks.{MarkThere}
use Rattle.scanner.specs.Scanned.{RingScanned, PolygonScanned}
use Rattle.scanner.proofs.PolygonScans.{no_rings, mark_missed, one_more, polygon_whole}
use Rattle.scanner.proofs.polygons.polygon.Goals as goal

pub loop-more-init : goal.loop-more-init
loop-more-init c = let a = c.args in (no_rings a.text.now a.at a.extent a.corners.now a.lengths.now c.requires.1 c.requires.2, refl)

pub returns-in_err-mark : goal.returns-in_err-mark
returns-in_err-mark c =
    let a = c.args in
    let l = c.loop-more in
    let e : c.from_residual-in_err-mark.result ≡ Err c.in_err-mark.field-0.0 = search rules in
    subst (PolygonScanned a.text.now a.at a.extent a.corners.now c.ring_at.new.corners a.lengths.now c.ring_at.new.lengths a.counts.now l.counts) (sym e)
    (mark_missed a.text.now a.at a.extent a.corners.now l.corners a.lengths.now l.lengths l.so_far l.place l.invariant.0 c.ring_at.new.corners c.ring_at.new.lengths c.in_ok-more.more c.in_ok-more.end
    (subst (RingScanned a.text.now l.place want_ring_mode l.so_far l.corners c.ring_at.new.corners l.lengths c.ring_at.new.lengths) c.in_ok-more.was c.ring_at.ensures) _ c.in_err-mark.ensures)

pub returns-in-Bracket : goal.returns-in-Bracket
returns-in-Bracket c =
    let a = c.args in
    let l = c.loop-more in
    polygon_whole a.text.now a.at a.extent a.corners.now l.corners a.lengths.now l.lengths l.so_far l.place l.invariant.0 c.ring_at.new.corners c.ring_at.new.lengths c.in_ok-more.more c.in_ok-more.end
    (subst (RingScanned a.text.now l.place want_ring_mode l.so_far l.corners c.ring_at.new.corners l.lengths c.ring_at.new.lengths) c.in_ok-more.was c.ring_at.ensures) c.in_ok-mark.next
    (subst (λ mark. MarkThere a.text.now c.in_ok-more.end mark c.in_ok-mark.next) c.in-Bracket.is c.in_ok-mark.ensures) c.with_polygon.result a.counts.now c.store.new.table c.with_polygon.ensures
    (c.store.ensures ∙ ap (λ t. set t a.extent.polygons (c.in_ok-more.more.rings - a.extent.rings)) l.invariant.1)

pub loop-more-preserved : goal.loop-more-preserved
loop-more-preserved c =
    let a = c.args in
    let l = c.loop-more in (
      one_more a.text.now a.at a.extent a.corners.now l.corners a.lengths.now l.lengths l.so_far l.place l.invariant.0 c.ring_at.new.corners c.ring_at.new.lengths c.in_ok-more.more c.in_ok-more.end
          (subst (RingScanned a.text.now l.place want_ring_mode l.so_far l.corners c.ring_at.new.corners l.lengths c.ring_at.new.lengths) c.in_ok-more.was c.ring_at.ensures) c.in_ok-mark.next
          (subst (λ mark. MarkThere a.text.now c.in_ok-more.end mark c.in_ok-mark.next) c.in-Comma.is c.in_ok-mark.ensures),
      l.invariant.1,
    )
