-- `writer::put_lead` meets its contract.
use mathlib.Core.Path.{subst, sym}
use Prim.Native.Nat.{◌+◌, ◌≤◌}
use lib.ListN.{length}
use Rattle.fields.specs.Written.{Wrote}
use Rattle.writer.proofs.Leads.{lead_first, lead_later}
use Rattle.writer.proofs.put_lead.Goals as goal

pub put-requires : goal.put-requires
put-requires c = let a = c.args in subst (λ s. a.at + length s ≤ length a.output.now) (lead_first a.i c.if-i-eq0.true) c.requires

pub returns-then-i-eq0 : goal.returns-then-i-eq0
returns-then-i-eq0 c = let a = c.args in subst (λ s. Wrote a.at s a.output.now c.put.new.output c.put.result) (sym (lead_first a.i c.if-i-eq0.true)) c.put.ensures

pub put-requires-2 : goal.put-requires-2
put-requires-2 c = let a = c.args in subst (λ s. a.at + length s ≤ length a.output.now) (lead_later a.i c.if-i-eq0.false) c.requires

pub returns : goal.returns
returns c = let a = c.args in subst (λ s. Wrote a.at s a.output.now c.put-2.new.output c.put-2.result) (sym (lead_later a.i c.if-i-eq0.false)) c.put-2.ensures
