-- `gather::tally::add` meets its contract.
use mathlib.Core.Path.{sym, ap, ◌∙◌}
use native.Mathlib.Omega.{arith}
use Rattle.rules.proofs.Indexed.{bit}
use Rattle.gather.specs.Slots.{is_nothing}
use Prim.Native.Nat.{◌≤◌}
use lib.ListN.{length}
use Rattle.gather.proofs.Tallying.{nothing_more, each_more}
use Rattle.gather.proofs.tally.add.Goals as goal
use Rattle.gather.proofs.tally.add.Goals.{in-Nothing, in_default}

pub returns-then-matches : goal.returns-then-matches
returns-then-matches c =
    let a = c.args in
    elim c.match-matches.branch [
      | in-Nothing w ↦ nothing_more a.layout a.listed.now a.slots.now a.ring a.crossing c.requires.room (ap is_nothing w.in-Nothing.is)
      | in_default w ↦ absurd (omega (arith, ap bit (sym w.matches-is ∙ c.if-matches.true)))
    ]

pub returns-in-EachRing : goal.returns-in-EachRing
returns-in-EachRing c =
    let a = c.args in
    let each = c.in-EachRing.is in
    let long : 65536 ≤ length a.slots.now = rw each at c.requires.room in
    rw each (each_more a.listed.now a.slots.now a.ring a.crossing _ c.requires.ring_bound long c.count_in.ensures)
