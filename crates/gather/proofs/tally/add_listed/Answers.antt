-- `gather::tally::add_listed` meets its contract.
use mathlib.Core.Path.{◌∙◌, subst}
use Prim.Native.Nat.{◌-◌}
use native.Mathlib.Omega.{arith}
use lib.IntN.{ℤ, pos}
use Rattle.integers.proofs.Bits.{rd_is}
use Rattle.gather.specs.Tallies.{Inserted}
use Rattle.gather.proofs.Tallying.{listed_more, listed_new}
use Rattle.gather.proofs.tally.add_listed.Goals as goal

pub returns-then-ends_with : goal.returns-then-ends_with
returns-then-ends_with c =
    let a = c.args in
    let last = c.if-ends_with.ensures in
    listed_more a.listed.now a.slots.now a.used a.ring (c.reaching-k.result - 1) a.crossing _ c.requires (omega (arith, c.reaching-k.ensures.few, last.0)) last.1 c.count_in.ensures

pub returns : goal.returns
returns c =
    let a = c.args in
    let slot = rd_is c.counted.result (record { sfits = c.counted.type_inv }) ∙ c.counted.ensures in
    let i = c.insert.ensures in
    listed_new a.listed.now a.slots.now a.used a.ring c.reaching-k.result a.crossing _ _ c.reaching-k.ensures (λ h e. c.if-ends_with.ensures (h, e)) i.listed_inserted
    (subst (λ (z : ℤ). Inserted (pos 0) a.slots.now a.used c.reaching-k.result z c.insert.new.slots) slot i.slots_inserted) c.requires (omega arith)
