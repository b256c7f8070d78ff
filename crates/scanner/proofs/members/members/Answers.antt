-- `scanner::members::members` meets its contract.
use borrow.Author.Rules.{rules}
use mathlib.Core.Path.{◌≡◌, refl, sym, subst}
use Rattle.std.specs.Prelude.{Err}
use Rattle.grammar.specs.Modes.{want_member_mode}
use Rattle.scanner.specs.Marks.{MarkThere}
use Rattle.scanner.specs.Scanned.{MemberScanned, AllScanned}
use Rattle.scanner.proofs.MemberScans.{no_members, mark_missed, one_more, members_whole}
use Rattle.scanner.proofs.members.members.Goals as goal

pub loop-more-init : goal.loop-more-init
loop-more-init c = let a = c.args in no_members a.text.now a.at a.corners.now a.lengths.now a.counts.now _ refl c.requires.1

pub returns-in_err-mark : goal.returns-in_err-mark
returns-in_err-mark c =
    let a = c.args in
    let l = c.loop-more in
    let m = c.member.new in
    let e : c.from_residual-in_err-mark.result ≡ Err c.in_err-mark.field-0.0 = search rules in
    subst (AllScanned a.text.now a.at want_member_mode a.corners.now m.corners a.lengths.now m.lengths a.counts.now m.counts) (sym e)
    (mark_missed a.text.now a.at a.corners.now l.corners a.lengths.now l.lengths a.counts.now l.counts l.so_far l.place l.invariant m.corners m.lengths m.counts c.in_ok-more.more c.in_ok-more.end
    (subst (MemberScanned a.text.now l.place l.so_far l.corners m.corners l.lengths m.lengths l.counts m.counts) c.in_ok-more.was c.member.ensures) _ c.in_err-mark.ensures)

pub returns-in-Bracket : goal.returns-in-Bracket
returns-in-Bracket c =
    let a = c.args in
    let l = c.loop-more in
    let m = c.member.new in
    members_whole a.text.now a.at a.corners.now l.corners a.lengths.now l.lengths a.counts.now l.counts l.so_far l.place l.invariant m.corners m.lengths m.counts c.in_ok-more.more c.in_ok-more.end
    (subst (MemberScanned a.text.now l.place l.so_far l.corners m.corners l.lengths m.lengths l.counts m.counts) c.in_ok-more.was c.member.ensures) c.in_ok-mark.next
    (subst (λ mark. MarkThere a.text.now c.in_ok-more.end mark c.in_ok-mark.next) c.in-Bracket.is c.in_ok-mark.ensures)

pub loop-more-preserved : goal.loop-more-preserved
loop-more-preserved c =
    let a = c.args in
    let l = c.loop-more in
    let m = c.member.new in
    one_more a.text.now a.at a.corners.now l.corners a.lengths.now l.lengths a.counts.now l.counts l.so_far l.place l.invariant m.corners m.lengths m.counts c.in_ok-more.more c.in_ok-more.end
    (subst (MemberScanned a.text.now l.place l.so_far l.corners m.corners l.lengths m.lengths l.counts m.counts) c.in_ok-more.was c.member.ensures) c.in_ok-mark.next
    (subst (λ mark. MarkThere a.text.now c.in_ok-more.end mark c.in_ok-mark.next) c.in-Comma.is c.in_ok-mark.ensures)
